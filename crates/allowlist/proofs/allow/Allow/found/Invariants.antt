use Rattle.std.proofs.Common.{◌≡◌, length}
use Rattle.allowlist.specs.Accessors.{seen_name}
use Rattle.allowlist.specs.Allow.{first_along, member_of}
use Rattle.allowlist.proofs.Members.{own_of}
use Rattle.allowlist.proofs.allow.Allow.found.Given as goal

abbrev pub invariant-loop-lineage : goal.invariant-loop-lineage
invariant-loop-lineage l = member_of l.self l.class (seen_name l.name) l.arity ≡ first_along (own_of l.self (seen_name l.name) l.arity) l.lineage

abbrev pub decreases-loop-lineage : goal.decreases-loop-lineage
decreases-loop-lineage l = length l.lineage
