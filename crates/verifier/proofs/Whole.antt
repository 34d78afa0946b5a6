-- Code breaks nowhere exactly where it is well shaped.
use Rattle.std.proofs.Common.{◌≡◌, ℕ, zero, suc, ◌+◌, ◌<◌, ◌≤◌, Bool, true, false, cond, eqb, List, [], ◌∷◌, Option, Some, None, inl, inr, length, refl, sym, ap, ◌∙◌, subst, arith}
use Rattle.std.specs.Prelude.{slice_get, option_map}
use Rattle.std.proofs.Math.Dec.{eqb-suc-zero}
use Rattle.std.proofs.lemmas.Bool.Decides.{eqb_tells}
use Rattle.pl_code.specs.declared.code.FunCode.{FunCode}
use Rattle.pl_code.specs.declared.code.Trap.{Trap}
use Rattle.allowlist.specs.Allow.{AllowList}
use Rattle.verifier.specs.declared.fault.FaultKind.{FaultKind}
use Rattle.verifier.specs.declared.fault.FaultKind.TheVariants.{BadShape}
use Rattle.verifier.specs.Faults.{line_fault, trap_fault, found, first_from, lines_fault, traps_fault, behind, or_next, function_fault, functions_fault, code_fault, told_fault, line_count, shape_fault}
use Rattle.verifier.specs.Shaped.{HasShapes, IsWellShaped, IsWellShapedCode}
use Rattle.verifier.specs.Laws.{ShapesAreUnique, SoundIsWellShaped, BreaksWhereShapesEnd}
use Rattle.verifier.proofs.Standing.{shaped_line, has_shapes, unique}
use Rattle.verifier.proofs.Counting.{untold}

pub shapes_are_unique : ShapesAreUnique
shapes_are_unique allow functions f shapes others s o e = unique allow functions f shapes others s o e

-- ---- the first of some lines

found_none : (n : ℕ) (o : Option FaultKind) (rest : Option (ℕ × FaultKind)) → found n o rest ≡ None → (o ≡ None) × (rest ≡ None)
found_none n None rest e = (refl, e)
found_none n (Some k) rest e = cc

none_from : (fault : ℕ → Option FaultKind) (n count : ℕ) → first_from fault n count ≡ None → (line : ℕ) → n ≤ line → line < n + count → fault line ≡ None
none_from fault n zero e line a b = absurd (omega arith)
none_from fault n (suc count) e line a b =
    let x = found_none n (fault n) (first_from fault (suc n) count) e in
    elim (eqb_tells line n) [
      | inl q ↦ ap fault q.1 ∙ x.0
      | inr q ↦ let ne : ¬ (line ≡ n) = q.1 in none_from fault (suc n) count x.1 line (omega (arith, ne)) (omega arith)
    ]

from_none : (fault : ℕ → Option FaultKind) (n count : ℕ) → ((line : ℕ) → n ≤ line → line < n + count → fault line ≡ None) → first_from fault n count ≡ None
from_none fault n zero h = refl
from_none fault n (suc count) h =
    ap (λ o. found n o (first_from fault (suc n) count)) (h n (omega arith) (omega arith)) ∙ from_none fault (suc n) count (λ line a b. h line (omega arith) (omega arith))

-- a line that breaks first
record First (fault : ℕ → Option FaultKind) (n count line : ℕ) (kind : FaultKind) : Type 0 where
  from : n ≤ line
  within : line < n + count
  breaks : fault line ≡ Some kind
  before : (j : ℕ) → n ≤ j → j < line → fault j ≡ None

abbrev line_in : Option (ℕ × FaultKind) → ℕ
line_in None = 0
line_in (Some p) = p.0

abbrev kind_in : FaultKind → Option (ℕ × FaultKind) → FaultKind
kind_in d None = d
kind_in d (Some p) = p.1

first_in : (fault : ℕ → Option FaultKind) (n count line : ℕ) (kind : FaultKind) (o : Option FaultKind) → fault n ≡ o → found n o (first_from fault (suc n) count) ≡ Some (line, kind)
    → (first_from fault (suc n) count ≡ Some (line, kind) → First fault (suc n) count line kind) → First fault n (suc count) line kind
first_in fault n count line kind (Some k) e h ih =
    let here : n ≡ line = ap line_in h in
    let is : k ≡ kind = ap (kind_in kind) h in
    record { from = omega (arith, here); within = omega (arith, here); breaks = ap fault (sym here) ∙ e ∙ ap Some is; before = λ j a b. absurd (omega (arith, here)) }
first_in fault n count line kind None e h ih =
    let x = ih h in
    record {
      from = omega (arith, x.from);
      within = omega (arith, x.within);
      breaks = x.breaks;
      before = λ j a b. elim (eqb_tells j n) [ inl q ↦ ap fault q.1 ∙ e | inr q ↦ let ne : ¬ (j ≡ n) = q.1 in x.before j (omega (arith, ne)) b ];
    }

first_is : (fault : ℕ → Option FaultKind) (n count line : ℕ) (kind : FaultKind) → first_from fault n count ≡ Some (line, kind) → First fault n count line kind
first_is fault n zero line kind e = cc
first_is fault n (suc count) line kind e = first_in fault n count line kind (fault n) refl e (λ h. first_is fault (suc n) count line kind h)

module _ (allow : AllowList) (functions : List FunCode) (f : FunCode) where
  lines_none : lines_fault allow functions f ≡ None → HasShapes allow functions f (length f.lines)
  unfolding lines_fault
  lines_none e = has_shapes allow functions f (length f.lines) (omega arith) (λ line h. none_from (line_fault allow functions f) 0 (length f.lines) e line (omega arith) (omega arith))

  none_lines : HasShapes allow functions f (length f.lines) → lines_fault allow functions f ≡ None
  unfolding lines_fault
  none_lines h = from_none (line_fault allow functions f) 0 (length f.lines) (λ line a b. shaped_line allow functions f h.shapes h.shaped line (let m = h.many in omega (arith, m)))

  breaks_where : (line : ℕ) (kind : FaultKind) → lines_fault allow functions f ≡ Some (line, kind) → (line < length f.lines) × HasShapes allow functions f line × ¬ (HasShapes allow functions f (line + 1))
  unfolding lines_fault
  breaks_where line kind e =
      let x = first_is (line_fault allow functions f) 0 (length f.lines) line kind e in
      let within : line < length f.lines = omega (arith, x.within) in (
        within,
        has_shapes allow functions f line (omega (arith, within)) (λ j h. x.before j (omega arith) h),
        λ h. let m = h.many in let none = shaped_line allow functions f h.shapes h.shaped line (omega (arith, m)) in let some = x.breaks in cc,
      )

pub breaks_where_shapes_end : BreaksWhereShapesEnd
breaks_where_shapes_end allow functions f line kind e = breaks_where allow functions f line kind e

-- ---- traps

traps_none : (count n : ℕ) (traps : List Trap) → traps_fault count n traps ≡ None → (k : ℕ) (t : Trap) → slice_get traps k ≡ Some t → trap_fault count t ≡ None
traps_none count n [] e k t g = let wrong : None ≡ Some t = g in cc
traps_none count n (u ∷ traps) e zero t g = let same : u ≡ t = cc in ap (trap_fault count) (sym same) ∙ (found_none n (trap_fault count u) (traps_fault count (suc n) traps) e).0
traps_none count n (u ∷ traps) e (suc k) t g = traps_none count (suc n) traps (found_none n (trap_fault count u) (traps_fault count (suc n) traps) e).1 k t g

none_traps : (count n : ℕ) (traps : List Trap) → ((k : ℕ) (t : Trap) → slice_get traps k ≡ Some t → trap_fault count t ≡ None) → traps_fault count n traps ≡ None
none_traps count n [] h = refl
none_traps count n (u ∷ traps) h = ap (λ o. found n o (traps_fault count (suc n) traps)) (h 0 u refl) ∙ none_traps count (suc n) traps (λ k t g. h (suc k) t g)

-- ---- functions

behind_none : (n : ℕ) (o : Option (ℕ × FaultKind)) → behind n o ≡ None → o ≡ None
behind_none n None e = refl
behind_none n (Some p) e = cc

next_none : (o next : Option (ℕ × FaultKind)) → or_next o next ≡ None → (o ≡ None) × (next ≡ None)
next_none None next e = (refl, e)
next_none (Some p) next e = cc

some_lines : (n : ℕ) → eqb n 0 ≡ false → 0 < n
some_lines zero e = cc
some_lines (suc n) e = omega arith

no_lines : (n : ℕ) → 0 < n → eqb n 0 ≡ false
no_lines zero h = absurd (omega arith)
no_lines (suc n) h = eqb-suc-zero n

module _ (allow : AllowList) (functions : List FunCode) (f : FunCode) where
  parts : Option (ℕ × FaultKind)
  parts = or_next (behind 1 (traps_fault (length f.lines) 0 f.traps)) (behind (1 + length f.traps) (lines_fault allow functions f))

  by_count : (t : Bool) → eqb (length f.lines) 0 ≡ t → cond t (Some (0, BadShape)) parts ≡ None → (eqb (length f.lines) 0 ≡ false) × (parts ≡ None)
  by_count true e h = cc
  by_count false e h = (e, h)

  function_none : function_fault allow functions f ≡ None → IsWellShaped allow functions f
  unfolding function_fault parts
  function_none e =
      let x = by_count (eqb (length f.lines) 0) refl e in
      let y = next_none (behind 1 (traps_fault (length f.lines) 0 f.traps)) (behind (1 + length f.traps) (lines_fault allow functions f)) x.1 in
      record {
        some = some_lines (length f.lines) x.0;
        traps = traps_none (length f.lines) 0 f.traps (behind_none 1 (traps_fault (length f.lines) 0 f.traps) y.0);
        lines = lines_none allow functions f (behind_none (1 + length f.traps) (lines_fault allow functions f) y.1);
      }

  none_function : IsWellShaped allow functions f → function_fault allow functions f ≡ None
  unfolding function_fault
  none_function w =
      (λ i. cond (no_lines (length f.lines) w.some i) (Some (0, BadShape))
      (or_next (behind 1 (none_traps (length f.lines) 0 f.traps w.traps i)) (behind (1 + length f.traps) (none_lines allow functions f w.lines i))))

module _ (allow : AllowList) (functions : List FunCode) where
  functions_none : (n : ℕ) (fs : List FunCode) → functions_fault allow functions n fs ≡ None → (k : ℕ) (f : FunCode) → slice_get fs k ≡ Some f → IsWellShaped allow functions f
  functions_none n [] e k f g = let wrong : None ≡ Some f = g in cc
  functions_none n (h ∷ fs) e zero f g =
      let same : h ≡ f = cc in
      subst (IsWellShaped allow functions) same (function_none allow functions h (behind_none n (function_fault allow functions h) (next_none (behind n (function_fault allow functions h)) (functions_fault allow functions (n + line_count h) fs) e).0))
  functions_none n (h ∷ fs) e (suc k) f g =
      functions_none (n + line_count h) fs (next_none (behind n (function_fault allow functions h)) (functions_fault allow functions (n + line_count h) fs) e).1 k f g

  none_functions : (n : ℕ) (fs : List FunCode) → ((k : ℕ) (f : FunCode) → slice_get fs k ≡ Some f → IsWellShaped allow functions f) → functions_fault allow functions n fs ≡ None
  none_functions n [] h = refl
  none_functions n (f ∷ fs) h =
      ap (λ o. or_next (behind n o) (functions_fault allow functions (n + line_count f) fs)) (none_function allow functions f (h 0 f refl)) ∙ none_functions (n + line_count f) fs (λ k g e. h (suc k) g e)

code_none : (allow : AllowList) (functions : List FunCode) → code_fault allow functions ≡ None → IsWellShapedCode allow functions
code_none allow [] e = cc
code_none allow (f ∷ fs) e = record { some = omega arith; each = functions_none allow (f ∷ fs) 2 (f ∷ fs) e }

none_code : (allow : AllowList) (functions : List FunCode) → IsWellShapedCode allow functions → code_fault allow functions ≡ None
none_code allow [] w = let s = w.some in absurd (omega (arith, s))
none_code allow (f ∷ fs) w = none_functions allow (f ∷ fs) 2 (f ∷ fs) w.each

pub sound_is_well_shaped : SoundIsWellShaped
unfolding shape_fault
sound_is_well_shaped allow code = (
  λ e. code_none allow code.functions (untold (code_fault allow code.functions) (sym e)),
  λ w. ap (option_map told_fault) (none_code allow code.functions w),
)
