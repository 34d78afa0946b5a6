use Rattle.codegen.proofs.Whole.{begun}
use Rattle.codegen.proofs.functions.begin.Goals as goal

pub returns-clause-begun : goal.returns-clause-begun
returns-clause-begun c = begun c.args.f.now _ c.new-params.result c.new-params.ensures c.representation_of.ensures c.in_ok-scope.ensures.scope c.new.ensures c.new-2.ensures c.new-3.ensures c.new-4.ensures c.new-5.ensures
