-- Whether some name is empty turns on those that are left.
use Rattle.std.proofs.Common.{◌≡◌, drop}
use Rattle.pipe_fields.specs.Fields.{none_empty}
use Rattle.pipe_fields.proofs.field.none_empty.Given as goal

abbrev pub invariant-loop-name : goal.invariant-loop-name
invariant-loop-name l = none_empty l.names ≡ none_empty (drop l.name-index l.names)
