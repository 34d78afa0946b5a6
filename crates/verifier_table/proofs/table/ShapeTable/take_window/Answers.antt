use Rattle.std.proofs.Common.{◌≡◌, take, drop, Some, refl, sym, ap, ◌∙◌}
use Rattle.verifier_table.specs.Shapes.{Table}
use Rattle.verifier_table.specs.Nodes.{stack_at}
use Rattle.verifier_table.specs.Windows.{numeral_of}
use Rattle.verifier_table.proofs.Numerals.{window_fits, window_differs}
use Rattle.verifier_table.proofs.table.ShapeTable.take_window.Goals as goal

pub returns-in-None-clause-stack : goal.returns-in-None-clause-stack
returns-in-None-clause-stack c kinds many is =
    let stack : stack_at c.self.inside.stacks c.self.inside.top ≡ c.args.self.now.stack = ap (λ (t : Table). t.stack) c.self.view_is in
    window_differs kinds c.args.self.now.stack many (λ same. c.in-None.ensures (ap (λ s. numeral_of (take 31 s)) stack ∙ same ∙ sym is)) _ refl

pub returns-in-Some-clause-stack : goal.returns-in-Some-clause-stack
returns-in-Some-clause-stack c kinds many is =
    let stack : stack_at c.self.inside.stacks c.self.inside.top ≡ c.args.self.now.stack = ap (λ (t : Table). t.stack) c.self.view_is in
    ap Some (c.in-Some.ensures.2 ∙ ap (drop 31) stack) ∙ sym (window_fits kinds c.args.self.now.stack (ap (λ s. numeral_of (take 31 s)) (sym stack) ∙ c.in-Some.ensures.1 ∙ is))
