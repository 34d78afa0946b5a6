use Rattle.std.proofs.Common.{◌≡◌, ◌-◌, length}
use Rattle.allowlist.specs.Lines.{brackets_at}
use Rattle.allowlist.proofs.scan.brackets_at.Given as goal

abbrev pub invariant-loop-depth : goal.invariant-loop-depth
invariant-loop-depth l = brackets_at (length l.text) 0 l.text ≡ brackets_at (length l.text - l.depth) l.depth l.rest
