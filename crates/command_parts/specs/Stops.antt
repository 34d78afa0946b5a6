-- Why a command ends before its work: something is told and nothing else, or a file failed, or memory.
use Rattle.std.specs.Prelude.{◌≡◌, Option, Some, None, Result, Ok, Err, IfSome, string_bytes}
use Rattle.command_parts.specs.declared.status.Status.TheVariants as s
use Rattle.command_parts.specs.declared.stop.Stop.{Stop}
use Rattle.command_parts.specs.declared.stop.Stop.TheVariants as stop
use Rattle.command_parts.specs.Told.{Told, silent, uncounted}

-- what is told; a fault and want of memory tell nothing
abbrev pub stop_told : Stop → Option Told
stop_told (stop.Refused line) = Some (uncounted s.Refused (string_bytes line))
stop_told stop.FileAbsent = Some (silent s.FileAbsent)
stop_told stop.FileLong = Some (silent s.FileLong)
stop_told stop.FileFault = None
stop_told stop.NoMemory = None

-- The answer, seen by a view, is what the definition says, or what is told where it says so. A fault and want of memory are free.
abbrev pub ComesSo : {X Y : Type 0} → (X → Y) → Result X Stop → Result Y Told → Type 0
ComesSo seen (Ok x) meaning = meaning ≡ Ok (seen x)
ComesSo seen (Err stop) meaning = IfSome (stop_told stop) (λ told. meaning ≡ Err told)
