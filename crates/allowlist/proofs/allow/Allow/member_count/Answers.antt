use Rattle.std.proofs.Common.{arith}
use Rattle.allowlist.proofs.Tables.{length-catalogue}
use Rattle.allowlist.proofs.allow.Allow.member_count.Goals as goal

pub returns-clause-whole : goal.returns-clause-whole
returns-clause-whole c = omega (arith, length-catalogue, c.self.invariant.1, c.len.ensures)
