use Rattle.std.proofs.Common.{map, sym, ◌∙◌}
use Rattle.std.proofs.lemmas.List.{length-map}
use Rattle.allowlist.specs.Seen.{seen_text}
use Rattle.allowlist.proofs.Spelling.{other_lengths}
use Rattle.allowlist.proofs.declares.spells_all.Goals as goal

pub returns-then-types-texts : goal.returns-then-types-texts
returns-then-types-texts c = sym (other_lengths c.args.types.now (map seen_text c.args.texts.now) (λ e. c.if-types-texts.true (e ∙ length-map c.args.texts.now seen_text)))
