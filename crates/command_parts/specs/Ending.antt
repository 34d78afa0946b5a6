-- How a run ends that ends before its work.
use Rattle.std.specs.Prelude.{◌≡◌, ℕ, List, Option, string_bytes}
use Rattle.command_parts.specs.declared.status.Status.{Status}
use Rattle.command_parts.specs.declared.status.Status.TheVariants as s
use Rattle.command_parts.specs.declared.stop.Stop.{Stop}
use Rattle.command_parts.specs.declared.stop.Stop.TheVariants as stop
use Rattle.command_parts.specs.Told.{uncounted}
use Rattle.command_parts.specs.Writing.{Writes}

-- The refusal line was written whole, or a front of it where the sink failed or memory ran out; every other stop writes nothing.
abbrev pub EndsSo : Stop → Status → Option (List ℕ) → Option (List ℕ) → Type 0
EndsSo (stop.Refused line) status old new = Writes (uncounted s.Refused (string_bytes line)) status old new
EndsSo stop.FileAbsent status old new = (status ≡ s.FileAbsent) × (new ≡ old)
EndsSo stop.FileLong status old new = (status ≡ s.FileLong) × (new ≡ old)
EndsSo stop.FileFault status old new = (status ≡ s.FileFault) × (new ≡ old)
EndsSo stop.NoMemory status old new = (status ≡ s.NoMemory) × (new ≡ old)
