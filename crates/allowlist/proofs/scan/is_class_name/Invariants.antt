use Rattle.std.proofs.Common.{◌≡◌, true, drop}
use Rattle.allowlist.specs.Lines.{names_joined}
use Rattle.allowlist.proofs.scan.is_class_name.Given as goal

abbrev pub invariant-loop-byte : goal.invariant-loop-byte
invariant-loop-byte l = names_joined true l.word ≡ names_joined l.begins (drop l.byte-index l.word)
