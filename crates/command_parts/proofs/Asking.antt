-- Names that are asked for.
use Rattle.std.proofs.Common.{◌≡◌, ℕ, List, [], ◌∷◌, ◌++◌, Option, refl, sym, ap, ◌∙◌, append-nil, append_assoc}
use Rattle.outer_io.specs.Asking.{AsksFront}
use Rattle.command_parts.specs.Asking.{AsksBy}
use Rattle.command_parts.proofs.Delivering.{some_content}

-- no name was
pub asks_none : (old names : List (List ℕ)) → AsksFront old old names
asks_none old names = record { front = []; behind = names; parts = refl; asked = sym (append-nil old) }

-- a front of some names is one of more
pub asks_more : (old new names more : List (List ℕ)) → AsksFront old new names → AsksFront old new (names ++ more)
asks_more old new names more h =
    record { front = h.front; behind = h.behind ++ more; parts = sym (append_assoc h.front h.behind more) ∙ ap (λ (xs : List (List ℕ)). xs ++ more) h.parts; asked = h.asked }

-- a name, and then a front of others
pub asks_then : (old mid new : List (List ℕ)) (name : List ℕ) (names : List (List ℕ)) → mid ≡ old ++ name ∷ [] → AsksFront mid new names → AsksFront old new (name ∷ names)
asks_then old mid new name names is h = record {
  front = name ∷ h.front;
  behind = h.behind;
  parts = ap (λ (xs : List (List ℕ)). name ∷ xs) h.parts;
  asked = h.asked ∙ ap (λ (xs : List (List ℕ)). xs ++ h.front) is ∙ append_assoc old (name ∷ []) h.front;
}

-- names that hang on no content
pub asks_always : (known : Option (List ℕ → Option (List ℕ))) (old new : List (List ℕ)) (names : (List ℕ → Option (List ℕ)) → List (List ℕ))
    → ((content : List ℕ → Option (List ℕ)) → AsksFront old new (names content)) → AsksBy known old new names
asks_always known old new names h = let c = some_content known in record { content = c.0; shown = c.1; front = h c.0 }
