use Rattle.codegen.specs.Worklist.{items_of}
use Rattle.codegen.proofs.Rows.{close_back}
use Rattle.codegen.proofs.Agreeing.{keeps_closed}
use Rattle.codegen.proofs.scopes.close.Goals as goal

pub returns-clause-back : goal.returns-clause-back
returns-clause-back c = close_back _ (items_of c.args.worklist.now) c.args.config.now c.args.height _ c.lower.ensures

pub returns-clause-sound : goal.returns-clause-sound
returns-clause-sound c = keeps_closed _ _ c.args.config.now c.args.height _ c.lower.ensures
