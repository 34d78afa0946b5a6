use Rattle.number_ops.proofs.Related.{equality_gives_flags, equality_makes_nothing, casts_give_primitives, casts_make_nothing, throws_alone}
use Rattle.number_ops.proofs.laws.relation_laws.Goals as goal

pub returns-clause-flags : goal.returns-clause-flags
returns-clause-flags c = equality_gives_flags

pub returns-clause-makes_nothing : goal.returns-clause-makes_nothing
returns-clause-makes_nothing c = equality_makes_nothing

pub returns-clause-primitives : goal.returns-clause-primitives
returns-clause-primitives c = casts_give_primitives

pub returns-clause-casts_make_nothing : goal.returns-clause-casts_make_nothing
returns-clause-casts_make_nothing c = casts_make_nothing

pub returns-clause-throws : goal.returns-clause-throws
returns-clause-throws c = throws_alone
