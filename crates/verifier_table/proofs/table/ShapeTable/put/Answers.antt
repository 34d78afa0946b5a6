use Rattle.std.proofs.Common.{◌∷◌, ap, ◌∙◌}
use Rattle.verifier_table.specs.Shapes.{Table}
use Rattle.verifier_table.proofs.Places.{within_grown, seen_grown}
use Rattle.verifier_table.proofs.table.ShapeTable.put.Goals as goal

pub invariant_of-self-2 : goal.invariant_of-self-2
invariant_of-self-2 c =
    let g = c.in_ok-self-inside.ensures.ok in
    (g.within, within_grown c.self.inside.stacks c.with.new.self _ _ g c.self.inside.places.items c.self.invariant.1)

pub returns : goal.returns
returns c =
    let g = c.in_ok-self-inside.ensures.ok in
    let lines = seen_grown c.self.inside.stacks c.with.new.self _ _ g c.self.inside.places.items c.self.invariant.1 ∙ ap (λ (t : Table). t.lines) c.self.view_is in
    let stack = g.is ∙ ap (λ (t : Table). c.args.kind ∷ t.stack) c.self.view_is in
    (λ i. record { stack = stack i; lines = lines i })
