use Rattle.value_typing.proofs.Calls.{typed_calls_pass}
use Rattle.value_typing.proofs.Members.{members_keep_types, host_keeps_types}
use Rattle.value_typing.proofs.laws.members_keep_types.Goals as goal

pub returns-clause-members : goal.returns-clause-members
returns-clause-members c = members_keep_types

pub returns-clause-tested : goal.returns-clause-tested
returns-clause-tested c = typed_calls_pass

pub returns-clause-host : goal.returns-clause-host
returns-clause-host c = host_keeps_types
