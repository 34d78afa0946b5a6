use Rattle.std.proofs.Common.{sym, ◌∙◌, arith}
use Rattle.verifier_table.proofs.Linked.{shown_length, shown_measure}
use Rattle.verifier_table.proofs.stacks.Stacks.under.Goals as goal

pub index-node-requires : goal.index-node-requires
index-node-requires c = omega (arith, shown_length c.self.inside.nodes.items c.args.self.now c.self.invariant.0 c.self.view_is, c.self.inside.nodes.ok)

pub returns-then-node-window : goal.returns-then-node-window
returns-then-node-window c =
    let measure = shown_measure c.self.inside.nodes.items c.args.self.now c.self.invariant.0 c.self.invariant.1 c.self.view_is c.args.at c.index-node.result.now c.requires c.index-node.ensures in
    (measure.within, sym measure.window ∙ c.if-node-window.true, measure.under)

pub returns-else-node-window : goal.returns-else-node-window
returns-else-node-window c same =
    let measure = shown_measure c.self.inside.nodes.items c.args.self.now c.self.invariant.0 c.self.invariant.1 c.self.view_is c.args.at c.index-node.result.now c.requires c.index-node.ensures in
    c.if-node-window.false (measure.window ∙ same)
