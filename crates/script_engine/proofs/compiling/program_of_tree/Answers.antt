-- What keeps to typing answers it.
use Rattle.script_engine.proofs.Compiled.{keeps_exact, keeps_only}
use Rattle.static_types.specs.Typing.{typing_of}
use Rattle.script_engine.proofs.compiling.program_of_tree.Goals as goal

pub returns-clause-exact : goal.returns-clause-exact
returns-clause-exact c = keeps_exact (typing_of c.args.allow.now c.args.context.now c.args.tree.now) c.elaborate.result c.elaborate.ensures.exact

pub returns-clause-only : goal.returns-clause-only
returns-clause-only c = keeps_only (typing_of c.args.allow.now c.args.context.now c.args.tree.now) c.elaborate.result c.elaborate.ensures.exact
