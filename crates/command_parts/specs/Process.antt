-- How a process ends.
use Rattle.std.specs.Prelude.{ℕ}
use Rattle.command_parts.specs.declared.status.Status.{Status}
use Rattle.command_parts.specs.declared.status.Status.TheVariants as s

abbrev pub exit_status_of : Status → ℕ
exit_status_of s.Done = 0
exit_status_of s.SomeErrors = 1
exit_status_of s.Refused = 2
exit_status_of s.ReadFault = 3
exit_status_of s.WriteFault = 4
exit_status_of s.NoMemory = 5
exit_status_of s.InputLong = 6
exit_status_of s.Usage = 7
exit_status_of s.FileFault = 8
exit_status_of s.FileAbsent = 9
exit_status_of s.FileLong = 10
