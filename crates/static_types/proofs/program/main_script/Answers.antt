use Rattle.std.proofs.Common.{List, subst}
use Rattle.typing_rules.specs.declared.header.Header.{Header}
use Rattle.typing_rules.specs.Outcomes.{Keeps}
use Rattle.typing_rules.specs.Typing as spec
use Rattle.static_types.proofs.program.main_script.Goals as goal

pub returns : goal.returns
returns c = subst (λ (hs : List Header). Keeps (spec.main_of c.args.allow.now c.args.context.now hs c.args.tree.now.statements) c.main.result) c.as_slice.ensures c.main.ensures
