-- A line that leads on, or breaks.
use Rattle.std.proofs.Common.{◌≡◌, ℕ, ◌+◌, ◌<◌, Bool, true, false, ◌&&◌, ◌||◌, ltb, List, Option, Some, None, length, refl, sym, ap, ◌∙◌, arith}
use Rattle.std.specs.Prelude.{not, slice_index_or, slice_get, option_map, option_and_then}
use Rattle.std.proofs.lemmas.Bool.{false≢true}
use Rattle.pl_code.specs.declared.kinds.Slot.{Slot}
use Rattle.pl_code.specs.declared.code.FunCode.{FunCode}
use Rattle.pl_code.specs.declared.code.Instruction.{Instruction}
use Rattle.pl_code.specs.declared.code.Instruction.TheVariants as code
use Rattle.pl_code.specs.declared.kinds.Numbered.TheVariants as numbered
use Rattle.allowlist.specs.Allow.{AllowList}
use Rattle.instruction_types.specs.Effects.{flow_of, effect_of, calls}
use Rattle.instruction_types.specs.Faults.{is_bad_target, is_bad_member, is_bad_jump}
use Rattle.verifier_table.specs.Shapes.{Table, Meeting, Nowhere, known_of}
use Rattle.verifier.specs.declared.fault.FaultKind.TheVariants.{BadShape}
use Rattle.verifier.specs.Meets.{goes_to, left_at, left_in, led_to, passed, met_if}
use Rattle.verifier.specs.Faults.{fault_of, falls, has_shape, instruction_fault}
use Rattle.verifier.specs.Acts.{Does, MergesInto, PassesOn, at_line}

module _ (allow : AllowList) (functions : List FunCode) (f : FunCode) (line : ℕ) (i : Instruction) where
  -- what the instruction leaves leads on
  pub passes_on : (old mid new : Table) → Does old mid true (left_at allow functions f i (at_line old line)) → MergesInto mid new (goes_to (flow_of i) line) → PassesOn allow functions f line (Some i) old new
  unfolding passed
  passes_on old mid new d l =
      record {
        same = l.same ∙ ap length d.lines;
        each = λ to h.
            let e : length mid.lines ≡ length old.lines = ap length d.lines in
            let within : to < length mid.lines = omega (arith, e) in
            l.each to within ∙ ap (λ ms. met_if (goes_to (flow_of i) line to) mid.stack (slice_index_or ms to Nowhere)) d.lines ∙ ap (λ left. led_to (flow_of i) line to left (at_line old to)) d.stack;
      }

  stands : (left : Option (List Slot)) (stack : List Slot) → Some stack ≡ left → (falls (flow_of i) && not (ltb (line + 1) (length f.lines))) ≡ false → not (has_shape (length f.lines) line (flow_of i) left) ≡ false
  stands left stack e h = ap (λ left. not (has_shape (length f.lines) line (flow_of i) left)) (sym e) ∙ goes (falls (flow_of i)) (ltb (line + 1) (length f.lines)) h
    where
      goes : (s t : Bool) → (s && not t) ≡ false → not (not s || t) ≡ false
      goes true true h = refl
      goes true false h = h
      goes false t h = refl

  -- nothing breaks
  pub no_fault : (old : Table) (stack : List Slot) → is_bad_target functions f i ≡ false → is_bad_member allow i ≡ false → is_bad_jump line i ≡ false
      → Some stack ≡ left_at allow functions f i (at_line old line) → (falls (flow_of i) && not (ltb (line + 1) (length f.lines))) ≡ false → None ≡ instruction_fault allow functions f line i (at_line old line)
  unfolding instruction_fault
  no_fault old stack t m j e h =
      let s = stands (left_at allow functions f i (at_line old line)) stack e h in
      sym (λ k. fault_of (t k) (m k) (j k) (s k))

  -- it goes on, and has no next line
  breaks_last : (left : Option (List Slot)) → (falls (flow_of i) && not (ltb (line + 1) (length f.lines))) ≡ true → not (has_shape (length f.lines) line (flow_of i) left) ≡ true
  breaks_last None h = refl
  breaks_last (Some left) h = ends (falls (flow_of i)) (ltb (line + 1) (length f.lines)) h
    where
      ends : (s t : Bool) → (s && not t) ≡ true → not (not s || t) ≡ true
      ends true true h = h
      ends true false h = refl
      ends false t h = absurd (false≢true h)

  pub last_fault : (old : Table) → is_bad_target functions f i ≡ false → is_bad_member allow i ≡ false → is_bad_jump line i ≡ false
      → (falls (flow_of i) && not (ltb (line + 1) (length f.lines))) ≡ true → Some BadShape ≡ instruction_fault allow functions f line i (at_line old line)
  unfolding instruction_fault
  last_fault old t m j h =
      let s = breaks_last (left_at allow functions f i (at_line old line)) h in
      sym (λ k. fault_of (t k) (m k) (j k) (s k))

  -- it leaves nothing
  pub unfit_fault : (old : Table) → is_bad_target functions f i ≡ false → is_bad_member allow i ≡ false → is_bad_jump line i ≡ false
      → None ≡ left_at allow functions f i (at_line old line) → Some BadShape ≡ instruction_fault allow functions f line i (at_line old line)
  unfolding instruction_fault
  unfit_fault old t m j e =
      let s = ap (λ left. not (has_shape (length f.lines) line (flow_of i) left)) (sym e) in
      sym (λ k. fault_of (t k) (m k) (j k) (s k))

-- ---- a call

-- what a call does is what its instruction leaves
pub call_does : (allow : AllowList) (functions : List FunCode) (f : FunCode) (i : Instruction) (number : ℕ) (m : Meeting) (old mid new : Table) (fits : Bool) → i ≡ code.Numbered numbered.Call number
    → Some mid.stack ≡ known_of m → mid.lines ≡ old.lines → Does mid new fits (left_in (option_map calls (slice_get functions number)) mid.stack) → Does old new fits (left_at allow functions f i m)
unfolding left_at effect_of
call_does allow functions f i number m old mid new fits call known same d =
    record {
      stack = d.stack ∙ ap (option_and_then (left_in (effect_of allow functions f (code.Numbered numbered.Call number)))) known ∙ ap (λ i. left_at allow functions f i m) (sym call);
      lines = d.lines ∙ same;
    }
