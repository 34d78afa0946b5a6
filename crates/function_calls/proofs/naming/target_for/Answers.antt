use Rattle.std.proofs.Common.{◌≤◌, length, arith}
use Rattle.allowlist.specs.Catalogue.{catalogue}
use Rattle.function_calls.proofs.Confined.{callee_listed}
use Rattle.function_calls.proofs.naming.target_for.Goals as goal

pub returns-in-Some-clause-listed : goal.returns-in-Some-clause-listed
returns-in-Some-clause-listed c =
    let whole : length catalogue ≤ length c.args.own.now.members = omega (arith, c.member_count.ensures.is, c.member_count.ensures.whole) in
    callee_listed c.args.own.now c.in-Some.class c.args.name.now c.args.arity c.resolve.result c.resolve.ensures.confined whole
