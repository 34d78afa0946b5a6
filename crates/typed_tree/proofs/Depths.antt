-- How deep the parts of an expression are.
use Rattle.std.proofs.Common.{rules, ℕ, ◌<◌, ◌++◌, ◌∷◌, [], List, ◌≡◌, All, Some}
use Rattle.std.proofs.lemmas.List.Elements.{All-pop}
use Rattle.typed_tree.specs.declared.typed.Typed.{Typed, size-Typed}
use Rattle.typed_tree.specs.declared.typed.Node.TheViews.{the_lemmas}
use Rattle.typed_tree.specs.Depths.{above}

pub all_below : (parts : List Typed) → All (λ (x : Typed). size-Typed x < above parts) parts
all_below parts = search (rules, the_lemmas)

-- the last part taken off
pub left_below : (bound : ℕ) (old new : List Typed) (last : Typed) → old ≡ new ++ last ∷ [] → All (λ (x : Typed). size-Typed x < bound) old
    → All (λ (x : Typed). size-Typed x < bound) new
left_below bound old new last is all = (All-pop (λ (x : Typed). size-Typed x < bound) old new (Some last) is all).0

pub last_below : (bound : ℕ) (old new : List Typed) (last : Typed) → old ≡ new ++ last ∷ [] → All (λ (x : Typed). size-Typed x < bound) old → size-Typed last < bound
last_below bound old new last is all = (All-pop (λ (x : Typed). size-Typed x < bound) old new (Some last) is all).1
