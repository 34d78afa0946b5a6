-- Stacks, each a list that begins with its top.
use Rattle.std.specs.declared.alloc.Global.{Global}
use Rattle.std.specs.declared.vec.Vec.{Vec}
use Rattle.std.specs.Prelude.{◌≡◌, ◌<◌, ℕ, zero, suc, length, reverse, take, List, [], ◌∷◌, Option, Some, None}

-- so many from the top, the uppermost last, before some others, and what is left; none where there are not so many
abbrev pub gathered : {A : Type 0} → ℕ → List A → List A → Option (List A × List A)
gathered zero xs others = Some (others, xs)
gathered (suc n) [] others = None
gathered (suc n) (x ∷ xs) others = gathered n xs (x ∷ others)

-- what is taken, and what is left
abbrev pub Takes : {A : Type 0} → ℕ → List A → List A → Option (Vec A Global) → Type 0
Takes n old new None = gathered n old [] ≡ None
Takes n old new (Some taken) = gathered n old [] ≡ Some (taken.items, new)

-- two are taken, the upper one last; where there are not so many, nothing is left
abbrev pub PopsTwo : {A : Type 0} → List A → List A → Option (A × A) → Type 0
PopsTwo old new None = (length old < 2) × (new ≡ [])
PopsTwo old new (Some p) = old ≡ p.1 ∷ p.0 ∷ new

-- so many from the bottom
abbrev pub lowest : {A : Type 0} → ℕ → List A → List A
lowest height xs = reverse (take height (reverse xs))
