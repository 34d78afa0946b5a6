use Rattle.std.proofs.Common.{◌≡◌, drop}
use Rattle.object_values.specs.declared.value.Value.TheVariants.{Str}
use Rattle.api_list.specs.Searching as spec
use Rattle.api_list.proofs.searching.first_text.Given as goal

-- the search through all comes to what the search through those that are left comes to
abbrev pub invariant-loop-at : goal.invariant-loop-at
invariant-loop-at l = spec.first_same_from (Str l.units) 0 l.items ≡ spec.first_same_from (Str l.units) l.at (drop l.at l.items)
