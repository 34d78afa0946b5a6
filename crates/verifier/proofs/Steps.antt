-- In well-shaped code what fits a line goes on.
use Rattle.std.proofs.Common.{◌≡◌, ℕ, ◌+◌, ◌<◌, Bool, true, false, ◌||◌, eqb, ltb, List, [], Option, Some, None, length, get_or, refl, sym, ap, ◌∙◌, arith}
use Rattle.std.specs.Prelude.{not, slice_get}
use Rattle.std.proofs.lemmas.Bool.{eqb-true, leb-false, false≢true}
use Rattle.std.proofs.lemmas.Option.{slice_get-get_or}
use borrow.Author.Tests.{ltb-true}
use Rattle.pl_code.specs.declared.kinds.Plain.{Plain}
use Rattle.pl_code.specs.declared.kinds.Plain.TheVariants as plain
use Rattle.pl_code.specs.declared.kinds.Numbered.{Numbered}
use Rattle.pl_code.specs.declared.kinds.Numbered.TheVariants as numbered
use Rattle.pl_code.specs.declared.kinds.Slot.{Slot}
use Rattle.pl_code.specs.declared.code.FunCode.{FunCode}
use Rattle.pl_code.specs.declared.code.Instruction.{Instruction}
use Rattle.pl_code.specs.declared.code.Instruction.TheVariants as code
use Rattle.allowlist.specs.Allow.{AllowList}
use Rattle.instruction_types.specs.declared.flow.Flow.{Flow}
use Rattle.instruction_types.specs.declared.flow.Flow.TheVariants as flow
use Rattle.instruction_types.specs.Effects.{effect_of, plain_flow, numbered_flow, flow_of}
use Rattle.instruction_types.specs.Faults.{is_bad_target, numbered_out}
use Rattle.verifier_table.specs.Shapes.{Meeting, Known}
use Rattle.verifier.specs.Meets.{goes_to, turns_to, left_in}
use Rattle.verifier.specs.Faults.{falls, has_shape}
use Rattle.verifier.specs.Shaped.{Leads, turns, passes, LineStands, IsWellShaped}
use Rattle.verifier.specs.Fits.{FrameKinds, FitsLine, GoesOn, at_with}
use Rattle.verifier.specs.Laws.{FittingGoesOn}
use Rattle.verifier.proofs.Standing.{stands}

-- a jump's target is a line
abbrev TargetWithin : Flow → ℕ → Type 0
TargetWithin flow.GoesOn count = Unit {0}
TargetWithin (flow.Jumps target) count = target < count
TargetWithin (flow.Branches target) count = target < count
TargetWithin (flow.Turns target) count = target < count
TargetWithin flow.Ends count = Unit {0}

plain_within : (p : Plain) (count : ℕ) → TargetWithin (plain_flow p) count
plain_within plain.Null count = tt
plain_within plain.Pop count = tt
plain_within plain.Dup count = tt
plain_within plain.Dup2 count = tt
plain_within plain.DupX1 count = tt
plain_within plain.DupX2 count = tt
plain_within plain.IntToLong count = tt
plain_within plain.LongToInt count = tt
plain_within plain.IntToByte count = tt
plain_within plain.IntToShort count = tt
plain_within plain.IntToChar count = tt
plain_within plain.Concat count = tt
plain_within plain.Same count = tt
plain_within plain.Equal count = tt
plain_within plain.ArrayLength count = tt
plain_within plain.GetIndex count = tt
plain_within plain.PutIndex count = tt
plain_within plain.Iter count = tt
plain_within plain.Has count = tt
plain_within plain.Next count = tt
plain_within plain.Throw count = tt
plain_within plain.Ret count = tt

numbered_within : (functions : List FunCode) (f : FunCode) (n : Numbered) (k : ℕ) → numbered_out functions f n k ≡ false → TargetWithin (numbered_flow n k) (length f.lines)
numbered_within functions f numbered.Load k e = tt
numbered_within functions f numbered.Store k e = tt
numbered_within functions f numbered.Goto k e = leb-false (length f.lines) k e
numbered_within functions f numbered.IfZero k e = leb-false (length f.lines) k e
numbered_within functions f numbered.IfNotZero k e = leb-false (length f.lines) k e
numbered_within functions f numbered.IfNull k e = leb-false (length f.lines) k e
numbered_within functions f numbered.Loop k e = leb-false (length f.lines) k e
numbered_within functions f numbered.List k e = tt
numbered_within functions f numbered.Map k e = tt
numbered_within functions f numbered.Call k e = tt

target_within : (functions : List FunCode) (f : FunCode) (i : Instruction) → is_bad_target functions f i ≡ false → TargetWithin (flow_of i) (length f.lines)
unfolding flow_of is_bad_target
target_within functions f (code.Plain p) e = plain_within p (length f.lines)
target_within functions f (code.Arithmetic op w) e = tt
target_within functions f (code.Dynamic op) e = tt
target_within functions f (code.Int n) e = tt
target_within functions f (code.Long n) e = tt
target_within functions f (code.Quoted q t) e = tt
target_within functions f (code.Numbered n k) e = numbered_within functions f n k e
target_within functions f (code.Boxing p) e = tt
target_within functions f (code.Unboxing p w) e = tt
target_within functions f (code.Cast t w) e = tt
target_within functions f (code.Typed t ty) e = tt
target_within functions f (code.Sized s ty n) e = tt
target_within functions f (code.DefCall w n) e = tt
target_within functions f (code.Invoke m) e = tt
target_within functions f (code.New m) e = tt
target_within functions f (code.Field m) e = tt
target_within functions f (code.Lambda o k n) e = tt
target_within functions f (code.Ref o ty w) e = tt
target_within functions f (code.NewRef o ty) e = tt

-- wherever an instruction goes on there is a line
goes_within : (way : Flow) (line to count : ℕ) → TargetWithin way count → (not (falls way) || ltb (line + 1) count) ≡ true → goes_to way line to ≡ true → to < count
goes_within flow.GoesOn line to count w f g = let e = eqb-true to (line + 1) g in let l = ltb-true (line + 1) count f in omega (arith, e, l)
goes_within (flow.Jumps target) line to count w f g = let e = eqb-true to target g in omega (arith, e, w)
goes_within (flow.Branches target) line to count w f g = by_next (eqb to (line + 1)) refl g
  where
    by_next : (t : Bool) → eqb to (line + 1) ≡ t → (t || eqb to target) ≡ true → to < count
    by_next true e g = let q = eqb-true to (line + 1) e in let l = ltb-true (line + 1) count f in omega (arith, q, l)
    by_next false e g = let q = eqb-true to target g in omega (arith, q, w)
goes_within (flow.Turns target) line to count w f g = let e = eqb-true to (line + 1) g in let l = ltb-true (line + 1) count f in omega (arith, e, l)
goes_within flow.Ends line to count w f g = absurd (false≢true g)

turns_within : (way : Flow) (to count : ℕ) → TargetWithin way count → turns_to way to ≡ true → to < count
turns_within flow.GoesOn to count w g = absurd (false≢true g)
turns_within (flow.Jumps target) to count w g = absurd (false≢true g)
turns_within (flow.Branches target) to count w g = absurd (false≢true g)
turns_within (flow.Turns target) to count w g = let e = eqb-true to target g in omega (arith, e, w)
turns_within flow.Ends to count w g = absurd (false≢true g)

-- what an instruction that fits leaves
record Leaving (count line : ℕ) (way : Flow) (o : Option (List Slot)) : Type 0 where
  left : List Slot
  is : o ≡ Some left
  next : (not (falls way) || ltb (line + 1) count) ≡ true

leaving : (count line : ℕ) (way : Flow) (o : Option (List Slot)) → has_shape count line way o ≡ true → Leaving count line way o
leaving count line way None e = absurd (false≢true e)
leaving count line way (Some left) e = record { left = left; is = refl; next = e }

one_shape : (m : Meeting) (j k : List Slot) → m ≡ Known j → m ≡ Known k → j ≡ k
one_shape m j k e g = cc

module _ (allow : AllowList) (functions : List FunCode) (f : FunCode) (frame : FrameKinds) (w : IsWellShaped allow functions f) (fits : FitsLine allow functions f frame) where
  shapes : List (List Slot)
  shapes = w.lines.shapes

  there : (line : ℕ) → line < length f.lines → (kinds : List Slot) × (slice_get shapes line ≡ Some kinds)
  unfolding shapes
  there line h = let m = w.lines.many in (get_or shapes line [], slice_get-get_or shapes line [] (omega (arith, m, h)))

  shape_here : slice_get shapes frame.line ≡ Some frame.stack
  unfolding shapes
  shape_here =
      let x = there frame.line fits.within in
      x.1 ∙ ap Some (one_shape _ _ _ (stands allow functions f shapes w.lines.shaped frame.line x.0 x.1) fits.stack)

  here : LineStands allow functions f shapes frame.line frame.stack
  unfolding shapes
  here = w.lines.shaped.each frame.line frame.stack shape_here

  -- a line to which these kinds lead has them
  fits_at : (to : ℕ) (kinds : List Slot) → to < length f.lines → Leads allow functions f shapes to kinds → FitsLine allow functions f (at_with frame to kinds)
  unfolding shapes
  fits_at to kinds h l =
      let x = there to h in
      let st = w.lines.shaped.each to x.0 x.1 in
      record {
        is = fits.is;
        locals = fits.locals;
        within = h;
        stack = stands allow functions f shapes w.lines.shaped to x.0 x.1 ∙ ap Known (sym (st.only kinds l));
      }

  line_goes_on : GoesOn allow functions f frame
  line_goes_on =
      let st = here in
      let i = st.instruction in
      let target = target_within functions f i st.instruction_fits.target in
      let leaves = leaving (length f.lines) frame.line (flow_of i) (left_in (effect_of allow functions f i) frame.stack) st.instruction_fits.fits in
      record {
        instruction = i;
        is = st.is;
        left = leaves.left;
        leaves = leaves.is;
        goes = λ to g. fits_at to leaves.left (goes_within (flow_of i) frame.line to (length f.lines) target leaves.next g) (passes frame.line i frame.stack leaves.left to st.is shape_here leaves.is g);
        turns = λ to g. fits_at to [] (turns_within (flow_of i) to (length f.lines) target g) (turns frame.line i to st.is g);
      }

pub fitting_goes_on : FittingGoesOn
fitting_goes_on allow functions f frame w fits = line_goes_on allow functions f frame (w.each frame.function f fits.is) fits
