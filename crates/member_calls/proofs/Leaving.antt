-- A member takes no object away and changes the kind of none.
use Rattle.std.proofs.Common.{ℕ, List}
use Rattle.std.proofs.lemmas.Bool.{cond_both}
use Rattle.pl_types.specs.Host.{HostMeaning}
use Rattle.object_values.specs.declared.value.Value.{Value}
use Rattle.object_heap.specs.Store.{Store}
use Rattle.number_ops.specs.declared.outcome.Outcome.{Outcome as NumberOutcome}
use Rattle.number_ops.specs.declared.outcome.Outcome.TheVariants as number
use Rattle.number_ops.specs.Members as numbers
use Rattle.number_ops.specs.Outcomes as number_outcomes
use Rattle.api_text.specs.Members as texts
use Rattle.container_calls.specs.Laws.{EffectLeaves}
use Rattle.container_calls.specs.Members.{is_of_containers}
use Rattle.container_calls.proofs.Leaving.{container_leaves}
use Rattle.container_calls.proofs.LeavingTexts.{text_member_leaves}
use Rattle.container_calls.proofs.There.{text_leaves, there_refl, throw_leaves}
use Rattle.member_calls.specs.Laws.{ActLeaves}
use Rattle.member_calls.specs.Members.{is_of_numbers, is_of_texts, is_of_host, asked_of_host, does}

pub number_leaves : (store : Store) (told : NumberOutcome) → EffectLeaves store.objects (number_outcomes.effect store told)
number_leaves store (number.Gives value) = there_refl store.objects
number_leaves store (number.Makes units) = text_leaves store units
number_leaves store (number.Throws raised message) = throw_leaves store (number_outcomes.class_raised raised) message
number_leaves store number.NoMemory = there_refl store.objects

pub act_leaves : (host : HostMeaning) (number : ℕ) (arguments : List Value) (store : Store) → ActLeaves store.objects (does host number arguments store)
unfolding does
act_leaves host number arguments store =
    cond_both (is_of_numbers number) _ _ (ActLeaves store.objects) (λ _. number_leaves store (numbers.does_numbered store.objects number arguments))
    (λ _. cond_both (is_of_texts number) _ _ (ActLeaves store.objects) (λ _. text_member_leaves store (texts.does_numbered store.objects number arguments))
    (λ _. cond_both (is_of_containers number) _ _ (ActLeaves store.objects) (λ _. container_leaves store number arguments)
    (λ _. cond_both (is_of_host number) _ _ (ActLeaves store.objects) (λ _. text_member_leaves store (asked_of_host host number arguments)) (λ _. tt))))
