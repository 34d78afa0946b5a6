-- Comparing values, and what comes of a search for one.
use Rattle.std.specs.Prelude.{ℕ, true, false, List}
use Rattle.object_values.specs.declared.object.Object.{Object}
use Rattle.object_values.specs.declared.value.Value.{Value}
use Rattle.value_walks.specs.declared.TheConstants.{VISITS}
use Rattle.value_walks.specs.declared.equality.Walked.{Walked}
use Rattle.value_walks.specs.declared.equality.Walked.TheVariants as w
use Rattle.value_walks.specs.Equality.{equal_entries_of, equal_of}
use Rattle.container_outcomes.specs.declared.comparing.Compared.{Compared}
use Rattle.container_outcomes.specs.declared.comparing.Compared.TheVariants as c
use Rattle.container_outcomes.specs.declared.comparing.Found.{Found}
use Rattle.container_outcomes.specs.declared.comparing.Found.TheVariants as f
use Rattle.container_outcomes.specs.declared.outcome.Outcome.{Outcome}
use Rattle.container_outcomes.specs.Outcomes.{too_deep, too_large}

abbrev pub compared_by : Walked → Compared
compared_by (w.On true visits) = c.Same
compared_by (w.On false visits) = c.Other
compared_by w.Deep = c.Deep
compared_by w.Large = c.Large

-- deep equality of two values, by a walk of its own
unfoldable pub comparison : List Object → Value → Value → Compared
comparison objects a b = compared_by (equal_of objects a b VISITS)

-- deep equality of two entries, each by its map and its key, by a walk of its own: as of two entries that are objects
unfoldable pub entry_comparison : List Object → ℕ → Value → ℕ → Value → Compared
entry_comparison objects map key other_map other_key = compared_by (equal_entries_of objects map key other_map other_key VISITS)

abbrev pub where_equal : Compared → Outcome → Outcome → Outcome
where_equal c.Same same other = same
where_equal c.Other same other = other
where_equal c.Deep same other = too_deep
where_equal c.Large same other = too_large

-- a search that is at a place where the comparison comes to this, with what comes of the rest
abbrev pub found_by : ℕ → Compared → Found → Found
found_by at c.Same rest = f.At at
found_by at c.Other rest = rest
found_by at c.Deep rest = f.Deep
found_by at c.Large rest = f.Large

abbrev pub where_found : Found → (ℕ → Outcome) → Outcome → Outcome
where_found (f.At at) found none = found at
where_found f.Nowhere found none = none
where_found f.Deep found none = too_deep
where_found f.Large found none = too_large
