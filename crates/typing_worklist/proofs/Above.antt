-- Parts that were put on a stack are those above its height.
use Rattle.std.proofs.Common.{◌≡◌, ℕ, suc, ◌+◌, ◌-◌, List, [], ◌∷◌, ◌++◌, length, append-nil, Some, ap, ◌∙◌, arith}
use Rattle.typing_rules.specs.Outcomes.{Out}
use Rattle.plain_stack.specs.Stacks.{gathered}
use Rattle.typing_actions.specs.Stacks.{some_gathered, above}
use Rattle.typing_worklist.specs.Machine.{stacked}

pub stacked_length : {A : Type 0} (xs below : List A) → length (stacked xs below) ≡ length xs + length below
stacked_length [] below = omega arith
stacked_length (x ∷ xs) below = stacked_length xs (x ∷ below) ∙ omega arith

height_of : {A : Type 0} (xs below : List A) → length (stacked xs below) - length below ≡ length xs
height_of xs below = let e : length (stacked xs below) ≡ length xs + length below = stacked_length xs below in omega (arith, e)

gathered_more : {A : Type 0} (m : ℕ) (xs below others : List A) → gathered (length xs + m) (stacked xs below) others ≡ gathered m below (xs ++ others)
gathered_more m [] below others = let e : 0 + m ≡ m = omega arith in ap (λ n. gathered n below others) e
gathered_more m (x ∷ xs) below others = let e : suc (length xs) + m ≡ length xs + suc m = omega arith in
    ap (λ n. gathered n (stacked xs (x ∷ below)) others) e ∙ gathered_more (suc m) xs (x ∷ below) others

gathered_stacked : {A : Type 0} (xs below : List A) → gathered (length xs) (stacked xs below) [] ≡ Some (xs, below)
gathered_stacked xs below = let e : length xs ≡ length xs + 0 = omega arith in
    ap (λ n. gathered n (stacked xs below) []) e ∙ gathered_more 0 xs below [] ∙ ap (λ ys. Some (ys, below)) (append-nil xs)

pub above_stacked : {A B : Type 0} (xs below : List A) (f : List A → List A → Out B) → above (length below) (stacked xs below) f ≡ f xs below
above_stacked xs below f = ap (λ n. some_gathered (gathered n (stacked xs below) []) f) (height_of xs below) ∙ ap (λ o. some_gathered o f) (gathered_stacked xs below)
