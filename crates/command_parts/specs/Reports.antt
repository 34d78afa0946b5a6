-- Reports, as what is told.
use Rattle.std.specs.Prelude.{◌≡◌, ℕ, List, [], map, string_bytes}
use Rattle.command_parts.specs.declared.status.Status.{Status}
use Rattle.command_parts.specs.declared.status.Status.TheVariants as s
use Rattle.command_parts.specs.declared.report.Report.{Report}
use Rattle.command_parts.specs.Told.{Told}

-- the listings of a report
abbrev pub texts_of : Report → List (List ℕ)
texts_of r = map string_bytes r.listings.items

-- it has no listing, and counts nothing
abbrev pub IsQuiet : Report → Type 0
IsQuiet r = (texts_of r ≡ []) × (r.steps ≡ 0)

abbrev pub ReportsBy : Status → Told → Report → Type 0
ReportsBy s.Done told r = (texts_of r ≡ told.listings) × (r.steps ≡ told.steps)
ReportsBy s.SomeErrors told r = (texts_of r ≡ told.listings) × (r.steps ≡ told.steps)
ReportsBy other told r = IsQuiet r

-- With status 0 or 1 a report has the listings and the count that are told; with every other it is quiet.
abbrev pub Reports : Told → Report → Type 0
Reports told r = ReportsBy r.status told r
