use Rattle.std.proofs.Common.{◌≡◌, length}
use Rattle.allowlist.specs.Files.{lines_of, read_lines, allowlist_of}
use Rattle.allowlist.proofs.allow.Allow.read.Given as goal

abbrev pub invariant-loop-rest : goal.invariant-loop-rest
invariant-loop-rest l = allowlist_of l.bytes ≡ read_lines l.number (record { inside = l.inside; allow = l.allow }) (lines_of l.rest)

abbrev pub decreases-loop-rest : goal.decreases-loop-rest
decreases-loop-rest l = length l.rest
