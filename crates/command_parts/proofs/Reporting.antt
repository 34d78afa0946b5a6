-- Reports that are quiet.
use Rattle.std.proofs.Common.{◌≡◌, ◌≢◌, [], refl, sym, ◌∙◌}
use Rattle.command_parts.specs.declared.status.Status.{Status}
use Rattle.command_parts.specs.declared.status.Status.TheVariants as s
use Rattle.command_parts.specs.declared.report.Report.{Report}
use Rattle.command_parts.specs.Told.{Told}
use Rattle.command_parts.specs.Reports.{IsQuiet, ReportsBy, Reports}

quiet_by : (status : Status) (told : Told) (r : Report) → IsQuiet r → status ≢ s.Done → status ≢ s.SomeErrors → ReportsBy status told r
quiet_by s.Done told r quiet done errors = absurd (done refl)
quiet_by s.SomeErrors told r quiet done errors = absurd (errors refl)
quiet_by s.Refused told r quiet done errors = quiet
quiet_by s.ReadFault told r quiet done errors = quiet
quiet_by s.WriteFault told r quiet done errors = quiet
quiet_by s.NoMemory told r quiet done errors = quiet
quiet_by s.InputLong told r quiet done errors = quiet
quiet_by s.Usage told r quiet done errors = quiet
quiet_by s.FileFault told r quiet done errors = quiet
quiet_by s.FileAbsent told r quiet done errors = quiet
quiet_by s.FileLong told r quiet done errors = quiet

-- a quiet report of a run that counts nothing, whatever is told
pub quiet_reports : (told : Told) (r : Report) → IsQuiet r → r.status ≢ s.Done → r.status ≢ s.SomeErrors → Reports told r
quiet_reports told r = quiet_by r.status told r

uncounted_by : (status : Status) (told : Told) (r : Report) → IsQuiet r → told.listings ≡ [] → told.steps ≡ 0 → ReportsBy status told r
uncounted_by s.Done told r quiet listings steps = (quiet.0 ∙ sym listings, quiet.1 ∙ sym steps)
uncounted_by s.SomeErrors told r quiet listings steps = (quiet.0 ∙ sym listings, quiet.1 ∙ sym steps)
uncounted_by s.Refused told r quiet listings steps = quiet
uncounted_by s.ReadFault told r quiet listings steps = quiet
uncounted_by s.WriteFault told r quiet listings steps = quiet
uncounted_by s.NoMemory told r quiet listings steps = quiet
uncounted_by s.InputLong told r quiet listings steps = quiet
uncounted_by s.Usage told r quiet listings steps = quiet
uncounted_by s.FileFault told r quiet listings steps = quiet
uncounted_by s.FileAbsent told r quiet listings steps = quiet
uncounted_by s.FileLong told r quiet listings steps = quiet

-- .. or of any run that is told to count nothing
pub uncounted_reports : (told : Told) (r : Report) → IsQuiet r → told.listings ≡ [] → told.steps ≡ 0 → Reports told r
uncounted_reports told r = uncounted_by r.status told r
