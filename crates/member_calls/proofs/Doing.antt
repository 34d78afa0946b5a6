-- What a member does, by whose it is.
use Rattle.std.proofs.Common.{◌≡◌, ◌||◌, ℕ, Bool, true, false, Some, None, List, refl, ◌∙◌, is_some, cond}
use Rattle.std.proofs.lemmas.Bool.{cond-true, cond-false}
use Rattle.pl_types.specs.Host.{HostMeaning}
use Rattle.object_values.specs.declared.value.Value.{Value}
use Rattle.object_heap.specs.Effects.{Effect}
use Rattle.object_heap.specs.Store.{Store}
use Rattle.number_ops.specs.Members as numbers
use Rattle.number_ops.specs.Outcomes as number_outcomes
use Rattle.api_text.specs.Members as texts
use Rattle.api_text.specs.Outcomes as text_outcomes
use Rattle.container_calls.specs.Members.{is_of_containers, does_container}
use Rattle.member_calls.specs.Members.{is_of_numbers, is_of_texts, is_of_host, is_built, asked_of_host, does}

pub does_of_numbers : (host : HostMeaning) (number : ℕ) (arguments : List Value) (store : Store) → is_of_numbers number ≡ true
    → does host number arguments store ≡ Some (number_outcomes.effect store (numbers.does_numbered store.objects number arguments))
unfolding does
does_of_numbers host number arguments store h = cond-true (is_of_numbers number) _ _ h

pub does_of_texts : (host : HostMeaning) (number : ℕ) (arguments : List Value) (store : Store) → is_of_numbers number ≡ false → is_of_texts number ≡ true
    → does host number arguments store ≡ Some (text_outcomes.effect store (texts.does_numbered store.objects number arguments))
unfolding does
does_of_texts host number arguments store h t = cond-false (is_of_numbers number) _ _ h ∙ cond-true (is_of_texts number) _ _ t

pub does_of_containers : (host : HostMeaning) (number : ℕ) (arguments : List Value) (store : Store) → is_of_numbers number ≡ false → is_of_texts number ≡ false → is_of_containers number ≡ true
    → does host number arguments store ≡ Some (does_container store number arguments)
unfolding does
does_of_containers host number arguments store h t i =
    cond-false (is_of_numbers number) _ _ h ∙ cond-false (is_of_texts number) _ _ t ∙ cond-true (is_of_containers number) _ _ i

pub does_of_host : (host : HostMeaning) (number : ℕ) (arguments : List Value) (store : Store) → is_of_numbers number ≡ false → is_of_texts number ≡ false → is_of_containers number ≡ false
    → is_of_host number ≡ true
    → does host number arguments store ≡ Some (text_outcomes.effect store (asked_of_host host number arguments))
unfolding does
does_of_host host number arguments store h t i o =
    cond-false (is_of_numbers number) _ _ h ∙ cond-false (is_of_texts number) _ _ t ∙ cond-false (is_of_containers number) _ _ i ∙ cond-true (is_of_host number) _ _ o

pub does_of_others : (host : HostMeaning) (number : ℕ) (arguments : List Value) (store : Store) → is_of_numbers number ≡ false → is_of_texts number ≡ false → is_of_containers number ≡ false
    → is_of_host number ≡ false
    → does host number arguments store ≡ None
unfolding does
does_of_others host number arguments store h t i o =
    cond-false (is_of_numbers number) _ _ h ∙ cond-false (is_of_texts number) _ _ t ∙ cond-false (is_of_containers number) _ _ i ∙ cond-false (is_of_host number) _ _ o

one_acts : (a b c d : Bool) (x y z w : Effect) → is_some (cond a (Some x) (cond b (Some y) (cond c (Some z) (cond d (Some w) None)))) ≡ (((a || b) || c) || d)
one_acts true b c d x y z w = refl
one_acts false true c d x y z w = refl
one_acts false false true d x y z w = refl
one_acts false false false true x y z w = refl
one_acts false false false false x y z w = refl

pub built_act : (host : HostMeaning) (number : ℕ) (arguments : List Value) (store : Store) → is_some (does host number arguments store) ≡ (is_built number || is_of_host number)
unfolding does is_built
built_act host number arguments store = one_acts (is_of_numbers number) (is_of_texts number) (is_of_containers number) (is_of_host number) _ _ _ _
