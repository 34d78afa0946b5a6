use Rattle.def_resolve.proofs.Members.{read_at}
use Rattle.function_calls.proofs.naming.method_at.Goals as goal

pub returns : goal.returns
returns c = read_at c.args.method c.member_type.result.now c.member_type.ensures
