use Rattle.std.proofs.Common.{ap, sym, ◌∙◌, slice_get}
use Rattle.machine_parts.proofs.Handling.{first_is}
use Rattle.machine_parts.proofs.handlers.Handlers.first.Goals as goal

pub returns-in-Some : goal.returns-in-Some
returns-in-Some c = λ place trap below there.
    first_is c.self.inside.traps.items c.self.inside.firsts c.args.line c.in-Some.place.now place trap c.self.invariant.0 (sym c.in-Some.ensures.value) below
    (ap (λ traps. slice_get traps place) c.self.view_is ∙ there)
