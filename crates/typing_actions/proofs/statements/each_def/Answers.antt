use Rattle.typing_actions.proofs.Begins.{each_def_from}
use Rattle.typing_actions.proofs.statements.each_def.Goals as goal

pub returns : goal.returns
returns c = each_def_from _ _ _ _ _ _ _ c.in_ok-x.ensures c.each_begun.ensures
