-- What may be changed. Of what is frozen nothing may be, and neither of the map of a document's fields; what is taken out, and every
-- item, is taken from or written into what is open alone.
use Rattle.std.specs.Prelude.{ℕ, Bool, true, false, Option, Some, None, List, if◌then◌else◌}
use Rattle.object_values.specs.declared.object.Guard.{Guard}
use Rattle.object_values.specs.declared.object.Guard.TheVariants as g
use Rattle.object_values.specs.declared.object.Object.{Object}
use Rattle.object_heap.specs.Parts.{guard_of}
use Rattle.container_outcomes.specs.declared.outcome.Outcome.{Outcome}
use Rattle.container_outcomes.specs.Outcomes.{unsupported}

-- whether anything may be changed
abbrev pub is_open : Option Guard → Bool
is_open None = true
is_open (Some g.Open) = true
is_open (Some g.Frozen) = false
is_open (Some (g.Keys keys)) = false
is_open (Some g.Mapped) = false

-- goes on where an object may be changed
abbrev pub where_open : List Object → ℕ → Outcome → Outcome
where_open objects id told = if is_open (guard_of objects id) then told else unsupported
