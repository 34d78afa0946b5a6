use Rattle.pl_types.proofs.Agreement.{rows_agree, none_iff}
use Rattle.pl_types.proofs.Shapes.{from_void_cast, to_void_cast}
use Rattle.pl_types.proofs.casting.cast_laws.Goals as goal

pub returns-clause-agree : goal.returns-clause-agree
returns-clause-agree c = rows_agree

pub returns-clause-none : goal.returns-clause-none
returns-clause-none c = none_iff

pub returns-clause-void : goal.returns-clause-void
returns-clause-void c below other w = (from_void_cast below other w, to_void_cast below other w)
