-- Acts on what is written to.
use Rattle.std.specs.Prelude.{ℕ, List, ◌∷◌, Option, Ok}
use Rattle.pl_tree.specs.declared.operator.BinaryOperator.{BinaryOperator}
use Rattle.pl_tree.specs.declared.operator.Step as tree
use Rattle.typed_tree.specs.declared.operation.Gives.{Gives}
use Rattle.typing_rules.specs.declared.part.Place.TheVariants as place
use Rattle.typing_rules.specs.Outcomes.{Out}
use Rattle.allowlist.specs.Allow.{AllowList}
use Rattle.typing_rules.specs.Rules.Locations as locations
use Rattle.typing_rules.specs.Rules.Places as places
use Rattle.typing_actions.specs.declared.config.Config.{Config}
use Rattle.typing_actions.specs.Stacks.{one, two, with_part, with_place}

abbrev pub written : ℕ → List ℕ → Config → Out Config
written at name c = with_place c (places.written at name c.state)

-- what is no name is not written to
abbrev pub fixed : Config → Out Config
fixed c = one c.parts (λ x rest. Ok (record c { parts = rest; places = place.Fixed ∷ c.places }))

-- a name, a number and an element of a value, and where an assignment stands that reads too
abbrev pub named : AllowList → Option ℕ → ℕ → List ℕ → Config → Out Config
named allow by at name c = one c.parts (λ x rest. with_place (record c { parts = rest }) (locations.name_location allow by at name x))

abbrev pub numbered : AllowList → Option ℕ → ℕ → List ℕ → Config → Out Config
numbered allow by at digits c = one c.parts (λ x rest. with_place (record c { parts = rest }) (locations.number_location allow by at digits x))

abbrev pub indexed : AllowList → Option ℕ → ℕ → Config → Out Config
indexed allow by at c = two c.parts (λ x i rest. with_place (record c { parts = rest }) (locations.index_location allow by at x i))

abbrev pub assign : ℕ → Option BinaryOperator → Config → Out Config
assign at operator c = one c.parts (λ x rest. one c.places (λ p others. with_part (record c { places = others }) rest (places.assign_of at operator p x)))

abbrev pub step : ℕ → tree.Step → Gives → Config → Out Config
step at by gives c = one c.places (λ p others. with_part (record c { places = others }) c.parts (places.step_of at by gives p))
