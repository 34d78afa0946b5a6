-- What comes of a member fits the store.
use Rattle.std.proofs.Common.{ℕ, ℤ, ◌-◌, Option, Some, None, List, length}
use Rattle.std.proofs.lemmas.Bool.{cond_both}
use Rattle.pl_types.specs.Host.{HostMeaning}
use Rattle.object_values.specs.declared.value.Value.{Value}
use Rattle.object_heap.specs.Fits.{Rules, Fits, AllFit, EffectFits}
use Rattle.object_heap.specs.Store.{Store}
use Rattle.number_ops.specs.Members as numbers
use Rattle.number_ops.specs.Outcomes as number_outcomes
use Rattle.number_ops.proofs.Keeping as number_keeping
use Rattle.api_text.specs.Members as texts
use Rattle.api_text.specs.Outcomes as text_outcomes
use Rattle.api_text.proofs.Keeping as text_keeping
use Rattle.api_text.proofs.KeepingMembers as text_members
use Rattle.container_calls.specs.Members.{is_of_containers}
use Rattle.container_calls.proofs.Keeping.{container_fits}
use Rattle.member_calls.specs.Laws.{ActFits}
use Rattle.member_calls.specs.Members.{is_of_numbers, is_of_texts, is_of_host, first_of_host, longs_in, given_by_host, does}

pub number_fits : (rules : Rules) (store : Store) (number : ℕ) (arguments : List Value) → Fits rules store.objects
    → EffectFits rules (number_outcomes.effect store (numbers.does_numbered store.objects number arguments))
number_fits rules store number arguments f =
    number_keeping.settled rules store (numbers.does_numbered store.objects number arguments) f
    (number_keeping.numbered_fits (length store.objects) store.objects (numbers.numbered number) arguments)

text_fits : (rules : Rules) (store : Store) (number : ℕ) (arguments : List Value) → Fits rules store.objects → AllFit (length store.objects) arguments
    → EffectFits rules (text_outcomes.effect store (texts.does_numbered store.objects number arguments))
text_fits rules store number arguments f h =
    text_keeping.settled rules store (texts.does_numbered store.objects number arguments) f
    (text_members.found_fits rules store.objects (texts.numbered number) arguments h)

given_fits : (rules : Rules) (store : Store) (given : Option ℤ) → text_keeping.OutcomeFits rules store.objects (given_by_host given)
unfolding text_outcomes.says
given_fits rules store None = tt
given_fits rules store (Some number) = tt

-- a function of the host gives a long, or throws
pub host_fits : (rules : Rules) (store : Store) (given : Option ℤ) → Fits rules store.objects → EffectFits rules (text_outcomes.effect store (given_by_host given))
host_fits rules store given f = text_keeping.settled rules store (given_by_host given) f (given_fits rules store given)

pub act_fits : (host : HostMeaning) (rules : Rules) (store : Store) (number : ℕ) (arguments : List Value) → Fits rules store.objects → AllFit (length store.objects) arguments
    → ActFits rules (does host number arguments store)
unfolding does
act_fits host rules store number arguments f h =
    cond_both (is_of_numbers number) _ _ (ActFits rules) (λ _. number_fits rules store number arguments f)
    (λ _. cond_both (is_of_texts number) _ _ (ActFits rules) (λ _. text_fits rules store number arguments f h)
    (λ _. cond_both (is_of_containers number) _ _ (ActFits rules) (λ _. container_fits rules store number arguments f h)
    (λ _. cond_both (is_of_host number) _ _ (ActFits rules) (λ _. host_fits rules store (host (number - first_of_host) (longs_in arguments)) f) (λ _. tt))))
