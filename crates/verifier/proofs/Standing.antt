-- A function whose lines have shapes has no fault at them, and the other way round.
use Rattle.std.proofs.Common.{◌≡◌, ℕ, zero, suc, ◌<◌, ◌≤◌, Bool, true, false, List, [], ◌∷◌, Option, Some, None, length, map, get_or, refl, sym, ap, ◌∙◌, subst, arith}
use Rattle.std.specs.Prelude.{not, slice_get, unwrap_or}
use Rattle.std.specs.List.{range_with_len}
use Rattle.std.proofs.lemmas.Option.{slice_get_within, slice_get-get_or}
use Rattle.std.proofs.lemmas.List.FromFn.{get_or-map-range_with_len, length-map-range_with_len}
use Rattle.pl_code.specs.declared.kinds.Slot.{Slot}
use Rattle.pl_code.specs.declared.code.FunCode.{FunCode}
use Rattle.pl_code.specs.declared.code.Instruction.{Instruction}
use Rattle.allowlist.specs.Allow.{AllowList}
use Rattle.instruction_types.specs.Effects.{flow_of}
use Rattle.instruction_types.specs.Faults.{is_bad_target, is_bad_member, is_bad_jump}
use Rattle.verifier_table.specs.Shapes.{Meeting, Nowhere, Known, Torn, known_of}
use Rattle.verifier.specs.Meets.{goes_to, left_at, stands_at}
use Rattle.verifier.specs.Faults.{has_shape, instruction_fault, fault_of, fault_in, line_fault}
use Rattle.verifier.specs.Shaped.{InstructionFits, LineStands, Shaped, HasShapes}
use Rattle.verifier.proofs.Meeting.{Is, By, is_what_leads}
use Rattle.verifier.proofs.Shaping.{Agrees, by_leads, leads_by, known_left, later}

one_of : {X : Type 0} (o : Option X) (x y : X) → o ≡ Some x → o ≡ Some y → x ≡ y
one_of o x y e g = cc

module _ (allow : AllowList) (functions : List FunCode) (f : FunCode) where
  goes_later : (line to : ℕ) (i : Instruction) → is_bad_jump line i ≡ false → goes_to (flow_of i) line to ≡ true → line < to
  unfolding is_bad_jump
  goes_later line to i j g = later (flow_of i) line to j g

  -- ---- from shapes to what stands there

  shape_there : (shapes : List (List Slot)) (line : ℕ) → line < length shapes → (kinds : List Slot) × (slice_get shapes line ≡ Some kinds)
  shape_there shapes line h = (get_or shapes line [], slice_get-get_or shapes line [] h)

  by_meeting : (m : Meeting) (kinds : List Slot) (P : List Slot → Type 0) → P kinds → ((k : List Slot) → P k → k ≡ kinds) → Is m P → m ≡ Known kinds
  by_meeting Nowhere kinds P led only is = absurd (is kinds led)
  by_meeting (Known k) kinds P led only is = ap Known (only k is.0)
  by_meeting Torn kinds P led only is = absurd (is.1.3 (only is.0 is.1.1 ∙ sym (only is.1.0 is.1.2)))

  stands_here : (shapes : List (List Slot)) → Shaped allow functions f shapes → (line : ℕ) (kinds : List Slot) → slice_get shapes line ≡ Some kinds
      → ((l : ℕ) (ks : List Slot) → l < line → slice_get shapes l ≡ Some ks → stands_at allow functions f l ≡ Known ks) → stands_at allow functions f line ≡ Known kinds
  stands_here shapes s line kinds e ih =
      let st = s.each line kinds e in
      let within = slice_get_within shapes line kinds e in
      let agrees : Agrees allow functions f shapes line = record { stands = λ l ks h g. ih l ks h g; has = λ l h. shape_there shapes l (omega (arith, within, h)) } in
      by_meeting (stands_at allow functions f line) kinds (By allow functions f line line)
      (leads_by allow functions f shapes line line kinds
      (λ l i ks left is g le go.
      let sl = s.each l ks g in
      let same : sl.instruction ≡ i = one_of _ _ _ sl.is is in
      let jump : is_bad_jump l i ≡ false = ap (is_bad_jump l) (sym same) ∙ sl.instruction_fits.jump in
      let before : l < line = goes_later l line i jump go in
      (before, ih l ks before g))
      st.led)
      (λ k b. st.only k (by_leads allow functions f shapes line line line k agrees (omega arith) b))
      (is_what_leads allow functions f line line)

  stands_below : (shapes : List (List Slot)) → Shaped allow functions f shapes → (count line : ℕ) (kinds : List Slot) → line < count → slice_get shapes line ≡ Some kinds → stands_at allow functions f line ≡ Known kinds
  stands_below shapes s zero line kinds h e = absurd (omega arith)
  stands_below shapes s (suc count) line kinds h e = stands_here shapes s line kinds e (λ l ks b g. stands_below shapes s count l ks (omega (arith, h, b)) g)

  -- what stands at a line is its shape
  pub stands : (shapes : List (List Slot)) → Shaped allow functions f shapes → (line : ℕ) (kinds : List Slot) → slice_get shapes line ≡ Some kinds → stands_at allow functions f line ≡ Known kinds
  stands shapes s line kinds e = stands_below shapes s (suc line) line kinds (omega arith) e

  no_fault_where : (line : ℕ) (i : Instruction) (m : Meeting) (kinds : List Slot) → m ≡ Known kinds → InstructionFits allow functions f line kinds i → instruction_fault allow functions f line i m ≡ None
  unfolding instruction_fault
  no_fault_where line i m kinds e fits =
      let shape : not (has_shape (length f.lines) line (flow_of i) (left_at allow functions f i m)) ≡ false =
      ap (λ left. not (has_shape (length f.lines) line (flow_of i) left)) (known_left allow functions f i m kinds e) ∙ ap not fits.fits in
      (λ k. fault_of (fits.target k) (fits.member k) (fits.jump k) (shape k))

  pub shaped_line : (shapes : List (List Slot)) → Shaped allow functions f shapes → (line : ℕ) → line < length shapes → line_fault allow functions f line ≡ None
  unfolding line_fault
  shaped_line shapes s line h =
      let x = shape_there shapes line h in
      let st = s.each line x.0 x.1 in
      ap (fault_in allow functions f line) st.is ∙ no_fault_where line st.instruction (stands_at allow functions f line) x.0 (stands shapes s line x.0 x.1) st.instruction_fits

  -- ---- from no fault to shapes

  kinds_at : ℕ → List Slot
  kinds_at line = unwrap_or (known_of (stands_at allow functions f line)) []

  record Faultless (line : ℕ) : Type 0 where
    known : stands_at allow functions f line ≡ Known (kinds_at line)
    instruction : Instruction
    is : slice_get f.lines line ≡ Some instruction
    fits : InstructionFits allow functions f line (kinds_at line) instruction

  record Good (line : ℕ) (i : Instruction) (m : Meeting) : Type 0 where
    target : is_bad_target functions f i ≡ false
    member : is_bad_member allow i ≡ false
    jump : is_bad_jump line i ≡ false
    shape : has_shape (length f.lines) line (flow_of i) (left_at allow functions f i m) ≡ true

  all_false : (s t u v : Bool) → fault_of s t u v ≡ None → (s ≡ false) × (t ≡ false) × (u ≡ false) × (v ≡ false)
  all_false false false false false e = (refl, refl, refl, refl)
  all_false true t u v e = cc
  all_false false true u v e = cc
  all_false false false true v e = cc
  all_false false false false true e = cc

  not_false : (t : Bool) → not t ≡ false → t ≡ true
  not_false true e = refl
  not_false false e = cc

  good : (line : ℕ) (i : Instruction) (m : Meeting) → instruction_fault allow functions f line i m ≡ None → Good line i m
  unfolding instruction_fault
  good line i m e =
      let x = all_false (is_bad_target functions f i) (is_bad_member allow i) (is_bad_jump line i) (not (has_shape (length f.lines) line (flow_of i) (left_at allow functions f i m))) e in
      record { target = x.0; member = x.1; jump = x.2; shape = not_false _ x.3 }

  known_there : (line : ℕ) (i : Instruction) (m : Meeting) → has_shape (length f.lines) line (flow_of i) (left_at allow functions f i m) ≡ true → m ≡ Known (unwrap_or (known_of m) [])
  unfolding left_at
  known_there line i Nowhere e = cc
  known_there line i Torn e = cc
  known_there line i (Known kinds) e = refl

  faultless_in : (line : ℕ) (o : Option Instruction) → slice_get f.lines line ≡ o → line < length f.lines → fault_in allow functions f line o ≡ None → Faultless line
  unfolding kinds_at
  faultless_in line None e h n = absurd (is_there f.lines line e h)
    where
      is_there : (xs : List Instruction) (line : ℕ) → slice_get xs line ≡ None → line < length xs → ⊥
      is_there [] line e h = absurd (omega arith)
      is_there (x ∷ xs) zero e h = cc
      is_there (x ∷ xs) (suc line) e h = is_there xs line e (omega arith)
  faultless_in line (Some i) e h n =
      let m = stands_at allow functions f line in
      let g = good line i m n in
      let known = known_there line i m g.shape in
      record {
        known = known;
        instruction = i;
        is = e;
        fits = record {
          target = g.target;
          member = g.member;
          jump = g.jump;
          fits = ap (has_shape (length f.lines) line (flow_of i)) (sym (known_left allow functions f i m (kinds_at line) known)) ∙ g.shape;
        };
      }

  faultless : (line : ℕ) → line < length f.lines → line_fault allow functions f line ≡ None → Faultless line
  unfolding line_fault
  faultless line h n = faultless_in line (slice_get f.lines line) refl h n

  shapes_to : ℕ → List (List Slot)
  shapes_to count = map kinds_at (range_with_len 0 count)

  module _ (count : ℕ) (most : count ≤ length f.lines) (none : (line : ℕ) → line < count → line_fault allow functions f line ≡ None) where
    at : (line : ℕ) → line < count → Faultless line
    at line h = faultless line (omega (arith, most)) (none line h)

    long : length (shapes_to count) ≡ count
    unfolding shapes_to
    long = length-map-range_with_len kinds_at 0 count

    shape_is : (line : ℕ) → line < count → slice_get (shapes_to count) line ≡ Some (kinds_at line)
    unfolding shapes_to
    shape_is line h = slice_get-get_or (shapes_to count) line [] (omega (arith, long)) ∙ ap Some (get_or-map-range_with_len kinds_at 0 count line line [] h (omega arith))

    shape_within : (line : ℕ) (kinds : List Slot) → slice_get (shapes_to count) line ≡ Some kinds → line < count
    shape_within line kinds e = omega (arith, slice_get_within (shapes_to count) line kinds e, long)

    kinds_are : (line : ℕ) (kinds : List Slot) → slice_get (shapes_to count) line ≡ Some kinds → kinds_at line ≡ kinds
    kinds_are line kinds e = one_of _ _ _ (shape_is line (shape_within line kinds e)) e

    agrees : Agrees allow functions f (shapes_to count) count
    agrees = record {
      stands = λ line kinds h e. (at line h).known ∙ ap Known (kinds_are line kinds e);
      has = λ line h. (kinds_at line, shape_is line h);
    }

    line_stands : (line : ℕ) → line < count → LineStands allow functions f (shapes_to count) line (kinds_at line)
    line_stands line h =
        let a = at line h in
        let is : Is (Known (kinds_at line)) (By allow functions f line line) = subst (λ m. Is m (By allow functions f line line)) a.known (is_what_leads allow functions f line line) in
        record {
          led = by_leads allow functions f (shapes_to count) count line line (kinds_at line) agrees (omega arith) is.0;
          only = λ others l. is.1 others (leads_by allow functions f (shapes_to count) line line others
              (λ j i ks left e g le go.
              let within = shape_within j ks g in
              let b = at j within in
              let same : b.instruction ≡ i = one_of _ _ _ b.is e in
              let jump : is_bad_jump j i ≡ false = ap (is_bad_jump j) (sym same) ∙ b.fits.jump in
              (goes_later j line i jump go, b.known ∙ ap Known (kinds_are j ks g)))
              l);
          instruction = a.instruction;
          is = a.is;
          instruction_fits = a.fits;
        }

    pub has_shapes : HasShapes allow functions f count
    has_shapes = record {
      shapes = shapes_to count;
      many = long;
      shaped = record { each = λ line kinds e. subst (LineStands allow functions f (shapes_to count) line) (kinds_are line kinds e) (line_stands line (shape_within line kinds e)) };
    }

  -- ---- shapes are unique

  known_one : (m : Meeting) (j k : List Slot) → m ≡ Known j → m ≡ Known k → j ≡ k
  known_one m j k e g = cc

  all_same : (xs ys : List (List Slot)) → length xs ≡ length ys → ((line : ℕ) (j k : List Slot) → slice_get xs line ≡ Some j → slice_get ys line ≡ Some k → j ≡ k) → xs ≡ ys
  all_same [] [] e h = refl
  all_same [] (y ∷ ys) e h = absurd (omega arith)
  all_same (x ∷ xs) [] e h = absurd (omega arith)
  all_same (x ∷ xs) (y ∷ ys) e h =
      let first : x ≡ y = h 0 x y refl refl in
      let rest : xs ≡ ys = all_same xs ys (omega arith) (λ line j k a b. h (suc line) j k a b) in
      (λ i. first i ∷ rest i)

  pub unique : (shapes others : List (List Slot)) → Shaped allow functions f shapes → Shaped allow functions f others → length shapes ≡ length others → shapes ≡ others
  unique shapes others s o e =
      all_same shapes others e (λ line j k a b. known_one (stands_at allow functions f line) j k (stands shapes s line j a) (stands others o line k b))
