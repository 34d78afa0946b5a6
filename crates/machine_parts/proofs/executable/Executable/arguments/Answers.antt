use Rattle.std.proofs.Common.{subst}
use Rattle.machine_parts.specs.Code.{TextCode}
use Rattle.machine_parts.proofs.Most.{TakesWithin, both_arguments}
use Rattle.machine_parts.proofs.executable.Executable.arguments.Goals as goal

pub returns : goal.returns
returns c =
    both_arguments c.args.self.now c.arguments-one.result c.arguments-other.result c.larger.result
    (subst (λ (t : TextCode). TakesWithin t c.arguments-one.result) c.script.ensures c.arguments-one.ensures)
    (subst (λ (t : TextCode). TakesWithin t c.arguments-other.result) c.prelude.ensures c.arguments-other.ensures)
    c.larger.ensures.one c.larger.ensures.other
