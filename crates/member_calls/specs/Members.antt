-- What members do, by their numbers: those of the catalogue, and behind them the functions of the host. What a call of a member comes
-- to is said here alone, in the meaning of a script and in the meaning of its code, and nothing that cites it goes by the member.
use Rattle.std.specs.Prelude.{ℕ, ℤ, ◌-◌, Bool, Option, Some, None, List, [], ◌∷◌, codes, is_some, nat_le, if◌then◌else◌, ◌||◌}
use Rattle.pl_types.specs.Host.{HostMeaning}
use Rattle.object_values.specs.declared.value.Value.{Value}
use Rattle.object_values.specs.declared.value.Value.TheVariants as v
use Rattle.object_heap.specs.Effects.{Effect}
use Rattle.object_heap.specs.Store.{Store}
use Rattle.api_text.specs.Members as texts
use Rattle.api_text.specs.Outcomes as text_outcomes
use Rattle.api_text.specs.declared.outcome.ExceptionClass.TheVariants.{IllegalArgument}
use Rattle.api_text.specs.declared.outcome.Outcome.{Outcome}
use Rattle.api_text.specs.declared.outcome.Outcome.TheVariants as outcome
use Rattle.container_calls.specs.Members.{is_of_containers, does_container}
use Rattle.number_ops.specs.Members as numbers
use Rattle.number_ops.specs.Outcomes as number_outcomes

-- a member of Object, Comparable, Number and its classes, Character, Boolean or Math
unfoldable pub is_of_numbers : ℕ → Bool
is_of_numbers number = is_some (numbers.numbered number)

-- a member of CharSequence, String, StringBuilder or an exception
unfoldable pub is_of_texts : ℕ → Bool
is_of_texts number = is_some (texts.numbered number)

-- whether a member is built: of those of containers not all are, and those of the prelude, of functions and hidden ones are not
unfoldable pub is_built : ℕ → Bool
is_built number = (is_of_numbers number || is_of_texts number) || is_of_containers number

-- ---- functions of the host

-- the members of the catalogue come before them
abbrev pub first_of_host : ℕ
first_of_host = 228

unfoldable pub is_of_host : ℕ → Bool
is_of_host number = nat_le first_of_host number

-- the longs among arguments
abbrev pub longs_in : List Value → List ℤ
longs_in [] = []
longs_in (v.Long number ∷ arguments) = number ∷ longs_in arguments
longs_in (other ∷ arguments) = longs_in arguments

-- a long, or an exception where the host gives none
abbrev pub given_by_host : Option ℤ → Outcome
given_by_host (Some number) = outcome.Gives (v.Long number)
given_by_host None = text_outcomes.says IllegalArgument (codes "host function refused")

abbrev pub asked_of_host : HostMeaning → ℕ → List Value → Outcome
asked_of_host host number arguments = given_by_host (host (number - first_of_host) (longs_in arguments))

-- ---- calls

-- What comes of the call of a member with these arguments, the receiver first, on this store: a value or an exception, and the store
-- that is paid, or no room for it. Of a member of the catalogue that is not built nothing is said.
unfoldable pub does : HostMeaning → ℕ → List Value → Store → Option Effect
does host number arguments store =
    if is_of_numbers number then Some (number_outcomes.effect store (numbers.does_numbered store.objects number arguments))
    else (if is_of_texts number then Some (text_outcomes.effect store (texts.does_numbered store.objects number arguments))
    else (if is_of_containers number then Some (does_container store number arguments)
    else (if is_of_host number then Some (text_outcomes.effect store (asked_of_host host number arguments))
    else None)))
