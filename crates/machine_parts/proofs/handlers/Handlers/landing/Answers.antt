use Rattle.std.proofs.Common.{◌+◌, sym, ap, ◌∙◌, arith}
use Rattle.machine_parts.specs.Handlers.{catches, line_of}
use Rattle.machine_parts.specs.Worlds.{world_of}
use Rattle.machine_parts.proofs.Handling.{skips, found, none_left, caught, not_caught, passes, passes_one}
use Rattle.machine_parts.proofs.handlers.Handlers.landing.Goals as goal

pub traps-init : goal.traps-init
traps-init c =
    skips (catches c.args.line c.args.id (world_of c.args.world.now)) c.args.self.now 0 c.first-place.result (omega arith)
    (λ k trap low high there. not_caught c.args.line c.args.id (world_of c.args.world.now) trap (c.first-place.ensures k trap high there))

pub traps-preserved-then-not-covers : goal.traps-preserved-then-not-covers
traps-preserved-then-not-covers c =
    c.traps.invariant
    ∙ passes_one c.args.line c.args.id (world_of c.args.world.now) c.args.self.now c.traps.place (c.traps.place + 1) c.in-Some.trap.now (sym c.in-Some.ensures.value) (sym c.covers.ensures ∙ c.if-not-covers.true) (omega arith)

pub traps-preserved : goal.traps-preserved
traps-preserved c =
    c.traps.invariant
    ∙ passes c.args.line c.args.id (world_of c.args.world.now) c.args.self.now c.traps.place c.next-place.result c.in-Some.trap.now (sym c.in-Some.ensures.value) (sym c.is_instance.ensures ∙ c.if-is_instance.false)
    c.next-place.ensures.behind
    (λ between trap. c.next-place.ensures.none c.args.line between c.in-Some.trap.now trap (sym c.in-Some.ensures.value) (sym c.covers.ensures ∙ c.if-not-covers.false))

pub returns-then-is_instance : goal.returns-then-is_instance
returns-then-is_instance c =
    ap line_of
    (sym (c.traps.invariant
    ∙ found (catches c.args.line c.args.id (world_of c.args.world.now)) c.args.self.now c.traps.place c.in-Some.trap.now (sym c.in-Some.ensures.value)
    (caught c.args.line c.args.id (world_of c.args.world.now) c.in-Some.trap.now (sym c.covers.ensures ∙ c.if-not-covers.false) (sym c.is_instance.ensures ∙ c.if-is_instance.true))))

pub returns-in-None : goal.returns-in-None
returns-in-None c =
    ap line_of
    (sym (c.traps.invariant ∙ none_left (catches c.args.line c.args.id (world_of c.args.world.now)) c.args.self.now c.traps.place (sym c.in-None.ensures.value)))
