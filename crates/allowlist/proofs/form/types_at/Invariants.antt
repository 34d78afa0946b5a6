use Rattle.std.proofs.Common.{◌≡◌, ◌-◌, length, map}
use Rattle.allowlist.specs.Lines.{types_at}
use Rattle.allowlist.specs.Seen.{seen_text}
use Rattle.allowlist.proofs.Scans.{behind}
use Rattle.allowlist.proofs.form.types_at.Given as goal

abbrev pub invariant-loop-turn : goal.invariant-loop-turn
invariant-loop-turn l = types_at (length l.text) l.text ≡ behind (map seen_text l.made.items) (types_at (length l.text - l._turn) l.rest)
