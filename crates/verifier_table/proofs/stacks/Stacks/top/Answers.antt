use Rattle.std.proofs.Common.{arith}
use Rattle.verifier_table.proofs.Linked.{shown_length, shown_first, shown_top}
use Rattle.verifier_table.proofs.stacks.Stacks.top.Goals as goal

pub index-node-requires : goal.index-node-requires
index-node-requires c = omega (arith, shown_length c.self.inside.nodes.items c.args.self.now c.self.invariant.0 c.self.view_is, c.self.inside.nodes.ok)

pub returns-then-at-eq0 : goal.returns-then-at-eq0
returns-then-at-eq0 c = shown_first c.self.inside.nodes.items c.args.self.now c.self.view_is c.args.at c.if-at-eq0.true

pub returns-else-at-eq0 : goal.returns-else-at-eq0
returns-else-at-eq0 c =
    shown_top c.self.inside.nodes.items c.args.self.now c.self.invariant.0 c.self.view_is c.args.at c.index-node.result.now c.requires c.index-node.ensures c.if-at-eq0.false
