-- The members of a list that ask for each element of another collection, or for each of its own items in one: containsAll, removeAll
-- and retainAll.
use Rattle.std.specs.Prelude.{◌≡◌, ℕ, ◌-◌, ◌++◌, nat_lt, true, false, Option, Some, List, [], ◌∷◌, Result, Ok, Err, length, slice_get}
use Rattle.object_values.specs.declared.object.Guard.TheVariants as g
use Rattle.object_values.specs.declared.object.Object.{Object}
use Rattle.object_values.specs.declared.object.Object.TheVariants as o
use Rattle.object_values.specs.declared.value.Value.{Value}
use Rattle.object_values.specs.declared.value.Value.TheVariants as v
use Rattle.object_heap.specs.Objects.{changed_by}
use Rattle.container_parts.specs.declared.containers.Container.{Container}
use Rattle.container_values.specs.Elements.{collection_at, entry_keys_of, map_shown, values_of}
use Rattle.container_outcomes.specs.declared.comparing.Compared.{Compared}
use Rattle.container_outcomes.specs.declared.comparing.Compared.TheVariants.{Same}
use Rattle.container_outcomes.specs.declared.outcome.Outcome.{Outcome}
use Rattle.container_outcomes.specs.declared.outcome.Outcome.TheVariants.{Becomes}
use Rattle.container_outcomes.specs.Choices.{with_one}
use Rattle.container_outcomes.specs.Comparing.{where_equal}
use Rattle.container_outcomes.specs.Guards.{where_open}
use Rattle.container_outcomes.specs.Outcomes.{flag, too_deep, too_large}
use Rattle.api_map.specs.declared.bulk.Bulk.{Bulk}
use Rattle.api_map.specs.declared.bulk.Choice.{Choice}
use Rattle.api_map.specs.declared.bulk.Choice.TheVariants as choice
use Rattle.api_map.specs.declared.bulk.SiftErr.{SiftErr}
use Rattle.api_map.specs.declared.bulk.SiftErr.TheVariants as sift_err
use Rattle.api_map.specs.declared.sources.Source.{Source}
use Rattle.api_map.specs.declared.sources.Source.TheVariants.{Items}
use Rattle.api_map.specs.Bulk.{choice_of}
use Rattle.api_map.specs.Holding.{entry_in, value_in}
use Rattle.api_map.specs.Sources.{source_at}
use Rattle.api_list.specs.Arguments.{list_at}

-- ---- containsAll

-- whether each is there, in their order: the first that is not ends it, and so does a comparison that stops
abbrev pub and_then : Compared → Compared → Compared
and_then Same rest = rest
and_then found rest = found

abbrev pub all_there : (Value → Compared) → List Value → Compared
all_there test [] = Same
all_there test (value ∷ values) = and_then (test value) (all_there test values)

-- the elements that are values, and the entries that a view shows, which go by their map and their keys
abbrev pub all_in : List Object → ℕ → Container → Compared
all_in objects list container =
    and_then (all_there (value_in objects (Items list)) (values_of objects container)) (all_there (entry_in objects (Items list) (map_shown container)) (entry_keys_of objects container))

abbrev pub all_held : List Object → ℕ → Container → Outcome
all_held objects list container = where_equal (all_in objects list container) (flag true) (flag false)

abbrev pub contains_all_of : List Object → Option Container → ℕ → Outcome
contains_all_of objects source list = with_one (all_held objects list) source

-- ---- removeAll and retainAll

-- the items that stay, or why a comparison stopped
pub data Sifted : Type 0 where
  Left : (items : List Value) → Sifted
  TooDeep : Sifted
  TooLarge : Sifted

abbrev pub with_left : Value → Sifted → Sifted
with_left item (Left items) = Left (item ∷ items)
with_left item TooDeep = TooDeep
with_left item TooLarge = TooLarge

abbrev pub chosen : Choice → Value → Sifted → Sifted
chosen choice.Stays item rest = with_left item rest
chosen choice.Goes item rest = rest
chosen choice.Deep item rest = TooDeep
chosen choice.Large item rest = TooLarge

abbrev pub sift : (Value → Choice) → List Value → Sifted
sift choose [] = Left []
sift choose (item ∷ items) = chosen (choose item) item (sift choose items)

abbrev pub choose : List Object → Bulk → Source → Value → Choice
choose objects bulk source item = choice_of bulk (value_in objects source item)

-- what the code says of it, and of one item behind those that stay
abbrev pub Sifts : Sifted → Result (List Value) SiftErr → Type 0
Sifts sifted (Ok items) = sifted ≡ Left items
Sifts sifted (Err sift_err.Deep) = sifted ≡ TooDeep
Sifts sifted (Err sift_err.Large) = sifted ≡ TooLarge
Sifts sifted (Err sift_err.NoMemory) = Unit {0}

abbrev pub Put : Choice → Value → List Value → List Value → Type 0
Put choice.Stays item old new = new ≡ old ++ item ∷ []
Put choice.Goes item old new = new ≡ old
Put choice.Deep item old new = ⊥
Put choice.Large item old new = ⊥

abbrev pub Stops : Choice → SiftErr → Type 0
Stops is sift_err.Deep = is ≡ choice.Deep
Stops is sift_err.Large = is ≡ choice.Large
Stops is sift_err.NoMemory = Unit {0}

abbrev pub SiftsOne : {A : Type 0} → Choice → Value → List Value → List Value → Result A SiftErr → Type 0
SiftsOne is item old new (Ok _) = Put is item old new
SiftsOne is item old new (Err cause) = Stops is cause

-- a list with the items that stay: each that goes raises the change count by 1; and whether any went
abbrev pub list_left : ℕ → ℕ → ℕ → ℕ → Sifted → Outcome
list_left id class changes before (Left left) = Becomes id (o.List class left g.Open (changed_by changes (before - length left))) (v.Bool (nat_lt (length left) before))
list_left id class changes before TooDeep = too_deep
list_left id class changes before TooLarge = too_large

abbrev pub sifted_in : List Object → Bulk → Source → ℕ → Option Object → Outcome
sifted_in objects bulk source id (Some (o.List class items guard changes)) = list_left id class changes (length items) (sift (choose objects bulk source) items)
sifted_in objects bulk source id found = flag false

abbrev pub sifted_by : List Object → Bulk → ℕ → Source → Outcome
sifted_by objects bulk list source = sifted_in objects bulk source list (slice_get objects list)

abbrev pub sifted_of : Bulk → List Object → Option Source → ℕ → Outcome
sifted_of bulk objects source list = where_open objects list (with_one (sifted_by objects bulk list) source)

-- ---- the members, by their names

abbrev pub contains_all : List Object → List Value → Outcome
contains_all objects arguments = with_one (contains_all_of objects (collection_at objects arguments 1)) (list_at objects arguments 0)

abbrev pub sift_all : Bulk → List Object → List Value → Outcome
sift_all bulk objects arguments = with_one (sifted_of bulk objects (source_at objects arguments 1)) (list_at objects arguments 0)
