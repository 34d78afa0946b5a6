use Rattle.std.proofs.Common.{◌≡◌, ◌<◌, length, get_or, ltb, sym, ap, ◌∙◌}
use Rattle.std.proofs.Math.ListN.{set}
use borrow.Author.Tests.{ltb-true}
use Rattle.verifier_table.specs.Shapes.{Table, Nowhere, meets}
use Rattle.verifier_table.specs.Nodes.{stack_at}
use Rattle.verifier_table.proofs.Places.{within_set, seen_set}
use Rattle.verifier_table.proofs.table.ShapeTable.merge.Goals as goal

pub invariant_of-self : goal.invariant_of-self
invariant_of-self c = (c.self.invariant.0, within_set _ c.self.inside.places.items c.args.line c.meeting-met.result c.self.invariant.1 c.meeting-met.ensures.within)

pub returns-in-Some : goal.returns-in-Some
returns-in-Some c =
    let inside = c.self.inside in
    let here = c.in-Some.ensures.lookup in
    let before : c.in-Some.place.now ≡ get_or inside.places.items c.args.line c.in-Some.place.now = here.1 ∙ ap (λ ps. get_or ps c.args.line c.in-Some.place.now) c.deref.ensures.value in
    let within : c.args.line < length inside.places.items = ltb-true _ _ (sym (here.0 ∙ ap (λ ps. ltb c.args.line (length ps)) c.deref.ensures.value)) in
    let lines = seen_set inside.stacks inside.places.items c.args.line c.meeting-met.result c.in-Some.place.now inside.top before within c.meeting-met.ensures.seen in
    let stack : stack_at inside.stacks inside.top ≡ c.args.self.now.stack = ap (λ (t : Table). t.stack) c.self.view_is in
    (λ i. record { stack = stack i; lines = lines i }) ∙ ap (λ (t : Table). record { stack = c.args.self.now.stack; lines = set t.lines c.args.line (meets (get_or t.lines c.args.line Nowhere) t.stack) }) c.self.view_is
