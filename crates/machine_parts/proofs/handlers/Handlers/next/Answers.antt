use Rattle.std.proofs.Common.{ap, sym, ◌∙◌, slice_get}
use Rattle.machine_parts.proofs.Handling.{next_is}
use Rattle.machine_parts.proofs.handlers.Handlers.next.Goals as goal

pub returns-in-Some-clause-none : goal.returns-in-Some-clause-none
returns-in-Some-clause-none c = λ line between over trap here is_over behind below there.
    next_is c.self.inside.traps.items c.self.inside.nexts line c.args.place c.in-Some.next.now between over trap c.self.invariant.1 (sym c.in-Some.ensures.value)
    (ap (λ traps. slice_get traps c.args.place) c.self.view_is ∙ here) is_over behind below (ap (λ traps. slice_get traps between) c.self.view_is ∙ there)
