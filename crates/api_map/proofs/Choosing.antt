-- What choices by a key, and the text of a walk, keep.
use Rattle.std.proofs.Common.{◌≡◌, Bool, true, false, List, refl, if◌then◌else◌}
use Rattle.object_values.specs.declared.object.Object.{Object}
use Rattle.object_values.specs.declared.value.Value.{Value}
use Rattle.object_values.specs.Values.{is_simple}
use Rattle.object_heap.specs.Fits.{Rules}
use Rattle.value_walks.specs.Texts.{Text, Wrote, TooDeep, TooLarge}
use Rattle.container_outcomes.specs.declared.outcome.Raised.TheVariants as raised
use Rattle.container_outcomes.specs.declared.outcome.Outcome.{Outcome}
use Rattle.container_outcomes.specs.Laws.{OutcomeFits}
use Rattle.container_outcomes.specs.Outcomes.{not_simple}
use Rattle.container_outcomes.proofs.Fitting.{says_fits}
use Rattle.api_map.specs.Arguments.{with_key}
use Rattle.api_map.specs.Maps as maps

pub field_fits : (rules : Rules) (objects : List Object) (walk : Text) → OutcomeFits rules objects (maps.followed_by walk maps.no_field)
unfolding maps.no_field
field_fits rules objects (Wrote text visits) = tt
field_fits rules objects TooDeep = says_fits rules objects raised.IllegalState _
field_fits rules objects TooLarge = says_fits rules objects raised.IllegalState _

pub tested_fits : (rules : Rules) (objects : List Object) (test : Bool) (told : Outcome) → (test ≡ true → OutcomeFits rules objects told) → OutcomeFits rules objects (if test then told else not_simple)
tested_fits rules objects true told h = h refl
tested_fits rules objects false told h = says_fits rules objects raised.IllegalArgument _

pub key_fits : (rules : Rules) (objects : List Object) (key : Value) (told : Outcome) → (is_simple key ≡ true → OutcomeFits rules objects told) → OutcomeFits rules objects (with_key key told)
key_fits rules objects key told h = tested_fits rules objects (is_simple key) told h
