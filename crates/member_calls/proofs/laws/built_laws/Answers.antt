use Rattle.allowlist.proofs.Tables.{length-catalogue}
use Rattle.member_calls.proofs.Doing.{built_act}
use Rattle.member_calls.proofs.Owners.{built_alone, built_owners, built_stand}
use Rattle.member_calls.proofs.laws.built_laws.Goals as goal

pub returns-clause-act : goal.returns-clause-act
returns-clause-act c = built_act

pub returns-clause-owners : goal.returns-clause-owners
returns-clause-owners c = built_owners

pub returns-clause-alone : goal.returns-clause-alone
returns-clause-alone c = built_alone

pub returns-clause-stand : goal.returns-clause-stand
returns-clause-stand c = built_stand

pub returns-clause-host : goal.returns-clause-host
returns-clause-host c = length-catalogue
