use Rattle.container_calls.proofs.Owners.{built_alone, built_owners, built_stand, join_is_named}
use Rattle.container_calls.proofs.laws.built_laws.Goals as goal

pub returns-clause-owners : goal.returns-clause-owners
returns-clause-owners c = built_owners

pub returns-clause-alone : goal.returns-clause-alone
returns-clause-alone c = built_alone

pub returns-clause-stand : goal.returns-clause-stand
returns-clause-stand c = built_stand

pub returns-clause-join : goal.returns-clause-join
returns-clause-join c = join_is_named
