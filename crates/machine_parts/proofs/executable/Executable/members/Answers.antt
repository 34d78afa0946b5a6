use Rattle.std.proofs.Common.{◌≡◌, length, subst}
use Rattle.machine_parts.specs.Code.{TextCode}
use Rattle.machine_parts.proofs.Most.{both_members}
use Rattle.machine_parts.proofs.executable.Executable.members.Goals as goal

pub returns : goal.returns
returns c =
    both_members c.args.self.now c.members-one.result c.members-other.result c.larger.result
    (subst (λ (t : TextCode). c.members-one.result ≡ length t.allow.members) c.script.ensures c.members-one.ensures)
    (subst (λ (t : TextCode). c.members-other.result ≡ length t.allow.members) c.prelude.ensures c.members-other.ensures)
    c.larger.ensures.one c.larger.ensures.other
