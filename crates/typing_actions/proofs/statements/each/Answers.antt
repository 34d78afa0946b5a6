use Rattle.typing_actions.proofs.Begins.{each_from}
use Rattle.typing_actions.proofs.statements.each.Goals as goal

pub returns : goal.returns
returns c = each_from c.args.at c.args.name.now c.args.of.now c.in_ok-to.to c.in_ok-x.x c.args.config.now c.take_part.new.self c.each_begun.new.config c.each_begun.result c.in_ok-x.ensures c.in_ok-to.ensures c.each_begun.ensures
