use Rattle.std.proofs.Common.{◌≡◌, drop, map}
use Rattle.allowlist.specs.Files.{spells_all}
use Rattle.allowlist.specs.Seen.{seen_text}
use Rattle.allowlist.proofs.declares.spells_all.Given as goal

abbrev pub invariant-loop-at : goal.invariant-loop-at
invariant-loop-at l = spells_all l.types (map seen_text l.texts) ≡ spells_all (drop l.at l.types) (map seen_text (drop l.at l.texts))
