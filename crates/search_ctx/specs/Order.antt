-- Values in order.
use Rattle.std.specs.Prelude.{ℕ, List, [], ◌∷◌}
use Rattle.std.specs.List.{dedup}
use Rattle.std.specs.declared.cmp.Ordering.{Ordering}
use Rattle.std.specs.Ordering.{nat_cmp, match_ordering}
use Rattle.std.specs.Cmp.Lexicographic.{slice_cmp}
use Rattle.std.specs.Str.{bytes_eq}

-- with a value before the first that is not below it
abbrev pub in_place : {X : Type 0} → (X → X → Ordering) → X → List X → List X
in_place cmp x [] = x ∷ []
in_place cmp x (y ∷ ys) = match_ordering (cmp x y) (x ∷ y ∷ ys) (x ∷ y ∷ ys) (y ∷ in_place cmp x ys)

-- the values in rising order, each as often as it is there
abbrev pub in_order : {X : Type 0} → (X → X → Ordering) → List X → List X
in_order cmp [] = []
in_order cmp (x ∷ xs) = in_place cmp x (in_order cmp xs)

-- texts in the order of their bytes, each once
abbrev pub once_in_order : List (List ℕ) → List (List ℕ)
once_in_order words = dedup bytes_eq (in_order (slice_cmp nat_cmp) words)
