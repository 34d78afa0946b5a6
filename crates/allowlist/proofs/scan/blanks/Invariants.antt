use Rattle.std.proofs.Common.{◌≡◌, ◌+◌, drop}
use Rattle.std.specs.List.{prefix_len}
use Rattle.allowlist.specs.Lines.{is_blank}
use Rattle.allowlist.proofs.scan.blanks.Given as goal

abbrev pub invariant-loop-at : goal.invariant-loop-at
invariant-loop-at l = prefix_len is_blank l.text ≡ l.at + prefix_len is_blank (drop l.at l.text)
