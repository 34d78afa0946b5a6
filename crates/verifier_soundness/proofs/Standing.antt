-- Where an instruction of well-shaped code stands: what it leaves, where it goes on, and where traps go on.
use Rattle.std.proofs.Common.{◌≡◌, ℕ, ◌<◌, ◌≤◌, Bool, true, false, ◌||◌, List, [], ◌∷◌, ◌++◌, Option, Some, None, length, get_or, refl, sym, ap, ◌∙◌, arith}
use Rattle.std.specs.Prelude.{not, ◌&&◌, nat_lt, nat_le, slice_get}
use Rattle.std.proofs.lemmas.Option.{slice_get-get_or}
use Rattle.std.proofs.lemmas.Bool.{leb-false, leb-true}
use Rattle.pl_code.specs.declared.kinds.Slot.{Slot}
use Rattle.pl_code.specs.declared.kinds.Slot.TheVariants.{R}
use Rattle.pl_code.specs.declared.code.FunCode.{FunCode}
use Rattle.pl_code.specs.declared.code.Trap.{Trap}
use Rattle.pl_code.specs.declared.code.Instruction.{Instruction}
use Rattle.allowlist.specs.Allow.{AllowList}
use Rattle.instruction_types.specs.Effects.{effect_of, flow_of}
use Rattle.instruction_types.specs.Faults.{is_bad_jump, is_bad_trap_target, is_bad_trap_class, is_bad_trap_order}
use Rattle.verifier_table.specs.Shapes.{Known}
use Rattle.verifier.specs.Meets.{goes_to, turns_to, left_in}
use Rattle.verifier.specs.Faults.{fault_of, trap_fault}
use Rattle.verifier.specs.Shaped.{begins, catches, IsWellShaped, IsWellShapedCode}
use Rattle.verifier.specs.Fits.{FrameKinds, FitsLine, at_with}
use Rattle.verifier.proofs.Standing.{stands}
use Rattle.verifier.proofs.Shaping.{later}
use Rattle.verifier.proofs.Steps.{fitting_goes_on}

one_of : {X : Type 0} (o : Option X) (x y : X) → o ≡ Some x → o ≡ Some y → x ≡ y
one_of o x y e g = cc

module _ (allow : AllowList) (code : List FunCode) where
  -- An instruction stands at the line of a frame.
  pub record StandsIn (function : FunCode) (frame : FrameKinds) (i : Instruction) : Type 0 where
    pub left : List Slot
    pub leaves : left_in (effect_of allow code function i) frame.stack ≡ Some left
    pub goes : (to : ℕ) → goes_to (flow_of i) frame.line to ≡ true → FitsLine allow code function (at_with frame to left)
    pub later : (to : ℕ) → goes_to (flow_of i) frame.line to ≡ true → frame.line < to
    pub turns : (to : ℕ) → turns_to (flow_of i) to ≡ true → FitsLine allow code function (at_with frame to [])

  -- a line's instruction jumps the right way
  jump_is : (f : FunCode) (line : ℕ) (i : Instruction) → IsWellShaped allow code f → line < length f.lines → slice_get f.lines line ≡ Some i → is_bad_jump line i ≡ false
  jump_is f line i w h is =
      let many = w.lines.many in
      let there : slice_get w.lines.shapes line ≡ Some (get_or w.lines.shapes line []) = slice_get-get_or w.lines.shapes line [] (omega (arith, h, many)) in
      let st = w.lines.shaped.each line (get_or w.lines.shapes line []) there in
      let same : st.instruction ≡ i = one_of _ _ _ st.is is in
      ap (is_bad_jump line) (sym same) ∙ st.instruction_fits.jump

  goes_later : (line to : ℕ) (i : Instruction) → is_bad_jump line i ≡ false → goes_to (flow_of i) line to ≡ true → line < to
  unfolding is_bad_jump
  goes_later line to i j g = later (flow_of i) line to j g

  pub record Standing (function : FunCode) (frame : FrameKinds) : Type 0 where
    pub instruction : Instruction
    pub is : slice_get function.lines frame.line ≡ Some instruction
    pub stands : StandsIn function frame instruction

  pub standing : (function : FunCode) (frame : FrameKinds) → IsWellShapedCode allow code → FitsLine allow code function frame → Standing function frame
  standing function frame w fits =
      let g = fitting_goes_on allow code function frame w fits in
      let jump = jump_is function frame.line g.instruction (w.each frame.function function fits.is) fits.within g.is in
      record {
        instruction = g.instruction;
        is = g.is;
        stands = record { left = g.left; leaves = g.leaves; goes = g.goes; later = λ to go. goes_later frame.line to g.instruction jump go; turns = g.turns };
      }

  -- ---- traps

  -- Where a trap goes on: the line fits what was thrown, and is behind all lines of which it catches.
  pub record Catches (function : FunCode) (frame : FrameKinds) (t : Trap) : Type 0 where
    pub fits : FitsLine allow code function (at_with frame t.at (R ∷ []))
    pub later : t.to ≤ t.at

  record TrapIsGood (count : ℕ) (t : Trap) : Type 0 where
    target : is_bad_trap_target count t ≡ false
    order : is_bad_trap_order t ≡ false

  no_fault : (s u v : Bool) → fault_of s u v false ≡ None → (s ≡ false) × (v ≡ false)
  no_fault false false false e = (refl, refl)
  no_fault true u v e = cc
  no_fault false true v e = cc
  no_fault false false true e = cc

  trap_is_good : (count : ℕ) (t : Trap) → trap_fault count t ≡ None → TrapIsGood count t
  unfolding trap_fault
  trap_is_good count t e = let x = no_fault (is_bad_trap_target count t) (is_bad_trap_class t) (is_bad_trap_order t) e in record { target = x.0; order = x.1 }

  third : (a b c : Bool) → (a || b || c) ≡ false → c ≡ false
  third false false c e = e
  third true b c e = cc
  third false true c e = cc

  second : (a b : Bool) → not (a && b) ≡ false → b ≡ true
  second true true e = refl
  second true false e = cc
  second false b e = cc

  at_within : (count : ℕ) (t : Trap) → is_bad_trap_target count t ≡ false → t.at < count
  unfolding is_bad_trap_target
  at_within count t e = leb-false count t.at (third (nat_le count t.from) (nat_le count t.to) (nat_le count t.at) e)

  at_behind : (t : Trap) → is_bad_trap_order t ≡ false → t.to ≤ t.at
  unfolding is_bad_trap_order
  at_behind t e = leb-true t.to t.at (second (nat_lt t.from t.to) (nat_le t.to t.at) e)

  pub catches_fit : (function : FunCode) (frame : FrameKinds) → IsWellShaped allow code function → slice_get code frame.function ≡ Some function → frame.locals ≡ function.params ++ function.locals
      → (k : ℕ) (t : Trap) → slice_get function.traps k ≡ Some t → Catches function frame t
  catches_fit function frame w is locals k t e =
      let good = trap_is_good (length function.lines) t (w.traps k t e) in
      let within = at_within (length function.lines) t good.target in
      let many = w.lines.many in
      let shapes = w.lines.shapes in
      let there : slice_get w.lines.shapes t.at ≡ Some (get_or w.lines.shapes t.at []) = slice_get-get_or w.lines.shapes t.at [] (omega (arith, within, many)) in
      let st = w.lines.shaped.each t.at (get_or w.lines.shapes t.at []) there in
      record {
        fits = record {
          is = is;
          locals = locals;
          within = within;
          stack = stands allow code function w.lines.shapes w.lines.shaped t.at (get_or w.lines.shapes t.at []) there ∙ ap Known (sym (st.only (R ∷ []) (catches k t e)));
        };
        later = at_behind t good.order;
      }

  -- ---- where a function begins

  pub begins_fit : (function : FunCode) (k : ℕ) (locals : List Slot) → IsWellShaped allow code function → slice_get code k ≡ Some function → locals ≡ function.params ++ function.locals
      → FitsLine allow code function (record { function = k; line = 0; locals = locals; stack = [] })
  begins_fit function k locals w is same =
      let some = w.some in
      let many = w.lines.many in
      let there : slice_get w.lines.shapes 0 ≡ Some (get_or w.lines.shapes 0 []) = slice_get-get_or w.lines.shapes 0 [] (omega (arith, some, many)) in
      let st = w.lines.shaped.each 0 (get_or w.lines.shapes 0 []) there in
      record {
        is = is;
        locals = same;
        within = w.some;
        stack = stands allow code function w.lines.shapes w.lines.shaped 0 (get_or w.lines.shapes 0 []) there ∙ ap Known (sym (st.only [] begins));
      }
