use Rattle.std.proofs.Common.{subst}
use Rattle.machine_parts.specs.Handlers.{AreFirst, AreNext}
use Rattle.machine_parts.proofs.handlers.Handlers.new.Goals as goal

pub invariant_of-result : goal.invariant_of-result
invariant_of-result c = (
  subst (λ traps. AreFirst traps c.in_ok-firsts.firsts) c.as_slice.ensures.value c.in_ok-firsts.ensures,
  subst (λ traps. AreNext traps c.in_ok-nexts.nexts) c.as_slice-2.ensures.value c.in_ok-nexts.ensures,
)
