use Rattle.compiler_relation.proofs.Covers.Statements.{catches_cover}
use Rattle.compiler_relation.proofs.traps.covering_laws.Goals as goal

pub returns : goal.returns
returns c = catches_cover c.name_laws.ensures.named
