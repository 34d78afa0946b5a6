-- The members that ask for each element of another collection: containsAll, removeAll and retainAll.
use Rattle.std.specs.Prelude.{◌≡◌, ℕ, ◌-◌, nat_lt, Bool, true, false, Option, Some, List, [], ◌∷◌, Result, Ok, Err, length, slice_get, if◌then◌else◌}
use Rattle.object_values.specs.declared.object.Guard.TheVariants as g
use Rattle.object_values.specs.declared.object.Object.{Object}
use Rattle.object_values.specs.declared.object.Object.TheVariants as o
use Rattle.object_values.specs.declared.object.Part.{Part}
use Rattle.object_values.specs.declared.object.Part.TheVariants as part
use Rattle.object_values.specs.declared.value.Value.{Value}
use Rattle.object_values.specs.declared.value.Value.TheVariants as v
use Rattle.object_values.specs.Pairs.{with_pair}
use Rattle.object_heap.specs.Objects.{changed_by}
use Rattle.object_heap.specs.Parts.{guard_of}
use Rattle.api_map.specs.declared.arguments.Keyed.{Keyed}
use Rattle.api_map.specs.declared.arguments.Keyed.TheVariants.{Set, View}
use Rattle.api_map.specs.declared.bulk.Bulk.{Bulk}
use Rattle.api_map.specs.declared.bulk.Bulk.TheVariants.{Remove, Retain}
use Rattle.api_map.specs.declared.bulk.Choice.{Choice}
use Rattle.api_map.specs.declared.bulk.Choice.TheVariants as choice
use Rattle.api_map.specs.declared.bulk.Search.{Search}
use Rattle.api_map.specs.declared.bulk.SiftErr.{SiftErr}
use Rattle.api_map.specs.declared.bulk.SiftErr.TheVariants as sift_err
use Rattle.container_outcomes.specs.declared.outcome.Outcome.{Outcome}
use Rattle.container_outcomes.specs.declared.outcome.Outcome.TheVariants.{Becomes, Gives}
use Rattle.container_outcomes.specs.declared.comparing.Compared.{Compared}
use Rattle.container_outcomes.specs.declared.comparing.Compared.TheVariants as c
use Rattle.api_map.specs.declared.sources.Source.{Source}
use Rattle.api_map.specs.declared.sources.Source.TheVariants.{Items, Pairs}
use Rattle.api_map.specs.Arguments.{holder_of, keyed_at}
use Rattle.container_outcomes.specs.Choices.{with_one}
use Rattle.api_map.specs.Collections.{found_in}
use Rattle.container_outcomes.specs.Guards.{is_open}
use Rattle.api_map.specs.Holding.{entry_in, value_in}
use Rattle.container_outcomes.specs.Outcomes.{flag, not_simple, too_deep, too_large, unsupported}
use Rattle.container_outcomes.specs.Comparing.{where_equal}
use Rattle.api_map.specs.Sources.{elements, source_at}

-- ---- containsAll

-- goes on where it is true
abbrev pub found_and : Outcome → Outcome → Outcome
found_and (Gives (v.Bool true)) rest = rest
found_and told rest = told

abbrev pub is_true : Outcome → Bool
is_true (Gives (v.Bool is)) = is
is_true told = false

-- each element in its order, as `contains` asks for one; the first that is not there ends it
abbrev pub each_found : (Value → Outcome) → List Value → Outcome
each_found found [] = flag true
each_found found (value ∷ values) = found_and (found value) (each_found found values)

-- whether an entry of a view is there; it is no key
abbrev pub entry_found_in : List Object → Keyed → ℕ → Value → Outcome
entry_found_in objects (Set id) from key = not_simple
entry_found_in objects (View map part.Keys) from key = not_simple
entry_found_in objects (View map part.Values) from key = where_equal (entry_in objects (Pairs map part.Values) from key) (flag true) (flag false)
entry_found_in objects (View map part.Entries) from key = where_equal (entry_in objects (Pairs map part.Entries) from key) (flag true) (flag false)

abbrev pub shown_found : List Object → Keyed → ℕ → Part → Outcome
shown_found objects keyed from part.Keys = each_found (found_in objects keyed) (elements objects (Pairs from part.Keys))
shown_found objects keyed from part.Values = each_found (found_in objects keyed) (elements objects (Pairs from part.Values))
shown_found objects keyed from part.Entries = each_found (entry_found_in objects keyed from) (elements objects (Pairs from part.Keys))

abbrev pub all_found : List Object → Keyed → Source → Outcome
all_found objects keyed (Items id) = each_found (found_in objects keyed) (elements objects (Items id))
all_found objects keyed (Pairs from part) = shown_found objects keyed from part

abbrev pub contains_all_of : List Object → Option Source → Keyed → Outcome
contains_all_of objects source keyed = with_one (all_found objects keyed) source

-- ---- removeAll and retainAll

-- whether the element that a part shows of a pair is one of another collection's
abbrev pub shown_in : List Object → Search → Value × Value → Part → Compared
shown_in objects search pair part.Keys = value_in objects search.source pair.0
shown_in objects search pair part.Values = value_in objects search.source pair.1
shown_in objects search pair part.Entries = entry_in objects search.source search.map pair.0

abbrev pub choice_of : Bulk → Compared → Choice
choice_of Remove c.Same = choice.Goes
choice_of Remove c.Other = choice.Stays
choice_of Remove c.Deep = choice.Deep
choice_of Remove c.Large = choice.Large
choice_of Retain c.Same = choice.Stays
choice_of Retain c.Other = choice.Goes
choice_of Retain c.Deep = choice.Deep
choice_of Retain c.Large = choice.Large

abbrev pub choose : List Object → Search → Value × Value → Choice
choose objects search pair = choice_of search.bulk (shown_in objects search pair search.part)

-- the pairs that stay, or why a comparison stopped
pub data Sifted : Type 0 where
  Left : (pairs : List (Value × Value)) → Sifted
  TooDeep : Sifted
  TooLarge : Sifted

abbrev pub with_left : Value × Value → Sifted → Sifted
with_left pair (Left pairs) = Left (pair ∷ pairs)
with_left pair TooDeep = TooDeep
with_left pair TooLarge = TooLarge

abbrev pub chosen : Choice → Value × Value → Sifted → Sifted
chosen choice.Stays pair rest = with_left pair rest
chosen choice.Goes pair rest = rest
chosen choice.Deep pair rest = TooDeep
chosen choice.Large pair rest = TooLarge

abbrev pub sift : (Value × Value → Choice) → List (Value × Value) → Sifted
sift choose [] = Left []
sift choose (pair ∷ pairs) = chosen (choose pair) pair (sift choose pairs)

-- what the code says of it
abbrev pub Sifts : Sifted → Result (List (Value × Value)) SiftErr → Type 0
Sifts sifted (Ok pairs) = sifted ≡ Left pairs
Sifts sifted (Err sift_err.Deep) = sifted ≡ TooDeep
Sifts sifted (Err sift_err.Large) = sifted ≡ TooLarge
Sifts sifted (Err sift_err.NoMemory) = Unit {0}

-- what the code says of one pair, behind those that stay
abbrev pub Put : Choice → Value × Value → List (Value × Value) → List (Value × Value) → Type 0
Put choice.Stays pair old new = new ≡ with_pair old pair.0 pair.1
Put choice.Goes pair old new = new ≡ old
Put choice.Deep pair old new = ⊥
Put choice.Large pair old new = ⊥

abbrev pub Stops : Choice → SiftErr → Type 0
Stops is sift_err.Deep = is ≡ choice.Deep
Stops is sift_err.Large = is ≡ choice.Large
Stops is sift_err.NoMemory = Unit {0}

abbrev pub SiftsOne : {A : Type 0} → Choice → Value × Value → List (Value × Value) → List (Value × Value) → Result A SiftErr → Type 0
SiftsOne is pair old new (Ok _) = Put is pair old new
SiftsOne is pair old new (Err cause) = Stops is cause

-- a map and a set with the pairs that stay: each that goes raises the change count by 1; and whether any went
abbrev pub map_sifted : ℕ → ℕ → ℕ → ℕ → Sifted → Outcome
map_sifted id class changes before (Left left) = Becomes id (o.Map class left g.Open (changed_by changes (before - length left))) (v.Bool (nat_lt (length left) before))
map_sifted id class changes before TooDeep = too_deep
map_sifted id class changes before TooLarge = too_large

abbrev pub set_sifted : ℕ → ℕ → ℕ → ℕ → Sifted → Outcome
set_sifted id class changes before (Left left) = Becomes id (o.Set class left g.Open (changed_by changes (before - length left))) (v.Bool (nat_lt (length left) before))
set_sifted id class changes before TooDeep = too_deep
set_sifted id class changes before TooLarge = too_large

abbrev pub sifted_in : ℕ → (Value × Value → Choice) → Option Object → Outcome
sifted_in id choose (Some (o.Map class pairs guard changes)) = map_sifted id class changes (length pairs) (sift choose pairs)
sifted_in id choose (Some (o.Set class items guard changes)) = set_sifted id class changes (length items) (sift choose items)
sifted_in id choose found = flag false

abbrev pub part_of : Keyed → Part
part_of (Set id) = part.Keys
part_of (View map part) = part

abbrev pub search_of : Bulk → Keyed → Source → Search
search_of bulk keyed source = record { bulk = bulk; source = source; map = holder_of keyed; part = part_of keyed }

abbrev pub sifted_by : List Object → Bulk → Keyed → Source → Outcome
sifted_by objects bulk keyed source = sifted_in (holder_of keyed) (choose objects (search_of bulk keyed source)) (slice_get objects (holder_of keyed))

abbrev pub sifted_of : Bulk → List Object → Option Source → Keyed → Outcome
sifted_of bulk objects source keyed = if is_open (guard_of objects (holder_of keyed)) then with_one (sifted_by objects bulk keyed) source else unsupported

-- ---- the members, by their names

abbrev pub contains_all : List Object → List Value → Outcome
contains_all objects arguments = with_one (contains_all_of objects (source_at objects arguments 1)) (keyed_at objects arguments 0)

abbrev pub sift_all : Bulk → List Object → List Value → Outcome
sift_all bulk objects arguments = with_one (sifted_of bulk objects (source_at objects arguments 1)) (keyed_at objects arguments 0)
