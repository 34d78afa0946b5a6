use Rattle.compiler_relation.proofs.Example.{stands}
use Rattle.compiler_relation.proofs.laws.small_program.Goals as goal

pub returns : goal.returns
returns c = stands
