-- Labels that are still to be bound.
use Rattle.std.proofs.Common.{◌≡◌, ℕ, zero, suc, ◌<◌, ◌≤◌, List, [], ◌∷◌, ◌++◌, length, Option, None, refl, sym, ap, ◌∙◌, subst, arith}
use Rattle.std.specs.Prelude.{slice_get, slice_set}
use Rattle.codegen.specs.Sound.{AreFree}
use Rattle.codegen.proofs.Back.{before, seam, one_longer}

more_free : (labels more : List (Option ℕ)) (limit : ℕ) (bs : List ℕ) → AreFree labels limit bs → AreFree (labels ++ more) limit bs
more_free labels more limit [] h = tt
more_free labels more limit (b ∷ bs) h = (h.0, before labels more b None h.1, more_free labels more b bs h.2)

wider : (labels : List (Option ℕ)) (limit other : ℕ) (bs : List ℕ) → limit ≤ other → AreFree labels limit bs → AreFree labels other bs
wider labels limit other [] e h = tt
wider labels limit other (b ∷ bs) e h = (omega (arith, h.0), h.1, h.2)

-- a new label is bound before the others
pub fresh_one : (labels later : List (Option ℕ)) (label : ℕ) (bs : List ℕ) → label ≡ length labels → later ≡ labels ++ None ∷ [] → AreFree labels (length labels) bs → AreFree later (length later) (label ∷ bs)
fresh_one labels later label bs e is h =
    subst (λ (ls : List (Option ℕ)). AreFree ls (length ls) (label ∷ bs)) (sym is) (
      omega (arith, e, one_longer labels None),
      ap (slice_get (labels ++ None ∷ [])) e ∙ seam labels None [],
      subst (λ (n : ℕ). AreFree (labels ++ None ∷ []) n bs) (sym e) (more_free labels (None ∷ []) (length labels) bs h),
    )

set_other : (xs : List (Option ℕ)) (k at : ℕ) (y : Option ℕ) → at < k → slice_get (slice_set xs k y) at ≡ slice_get xs at
set_other [] k at y h = refl
set_other (x ∷ xs) zero at y h = absurd (omega (arith, h))
set_other (x ∷ xs) (suc k) zero y h = refl
set_other (x ∷ xs) (suc k) (suc at) y h = set_other xs k at y (omega (arith, h))

set_length : (xs : List (Option ℕ)) (k : ℕ) (y : Option ℕ) → length (slice_set xs k y) ≡ length xs
set_length [] k y = refl
set_length (x ∷ xs) zero y = refl
set_length (x ∷ xs) (suc k) y = ap suc (set_length xs k y)

set_free : (labels : List (Option ℕ)) (k limit : ℕ) (y : Option ℕ) (bs : List ℕ) → limit ≤ k → AreFree labels limit bs → AreFree (slice_set labels k y) limit bs
set_free labels k limit y [] e h = tt
set_free labels k limit y (b ∷ bs) e h = (h.0, set_other labels k b y (omega (arith, e, h.0)) ∙ h.1, set_free labels k b y bs (omega (arith, e, h.0)) h.2)

-- the one that is bound first gets its line
pub bound_one : (labels later : List (Option ℕ)) (label : ℕ) (line : Option ℕ) (bs : List ℕ) → later ≡ slice_set labels label line → AreFree labels (length labels) (label ∷ bs) → AreFree later (length later) bs
bound_one labels later label line bs is h =
    subst (λ (ls : List (Option ℕ)). AreFree ls (length ls) bs) (sym is)
    (wider (slice_set labels label line) label (length (slice_set labels label line)) bs (omega (arith, h.0, set_length labels label line)) (set_free labels label label line bs (omega arith) h.2))
