-- What texts are written to: with room for so many units.
use Rattle.std.specs.Prelude.{ℕ, ◌-◌, nat_le, Option, Some, None, List, ◌++◌, length, if◌then◌else◌}
use Rattle.value_walks.specs.declared.outputs.Output.{Output}
use Rattle.value_walks.specs.declared.outputs.Output.TheVariants.{Kept, Over}

-- Units behind what is kept, while there is room for them. Where there is none, nothing is kept from then on
unfoldable pub put : Output → List ℕ → Output
put (Kept units room) more = if nat_le (length more) room then Kept (units ++ more) (room - length more) else Over
put Over more = Over

-- what is kept of all that was written
abbrev pub kept_in : Output → Option (List ℕ)
kept_in (Kept units room) = Some units
kept_in Over = None
