use Rattle.std.proofs.Common.{◌≡◌, drop}
use Rattle.std.specs.Str.{bytes_eq}
use Rattle.allowlist.specs.Allow.{dotted}
use Rattle.allowlist.proofs.names.is_dotted.Given as goal

abbrev pub invariant-loop-at : goal.invariant-loop-at
invariant-loop-at l = bytes_eq (dotted l.class) l.name ≡ bytes_eq (dotted (drop l.at l.class)) (drop l.at l.name)
