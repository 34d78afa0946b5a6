use Rattle.def_resolve.proofs.Members.{read_at}
use Rattle.def_access.proofs.Listing.{listed_within}
use Rattle.function_calls.proofs.aim.member_at.Goals as goal

pub member_type-requires : goal.member_type-requires
member_type-requires c = listed_within c.args.allow.now.members c.args.number c.requires

pub returns : goal.returns
returns c = read_at c.args.number c.member_type.result.now c.member_type.ensures
