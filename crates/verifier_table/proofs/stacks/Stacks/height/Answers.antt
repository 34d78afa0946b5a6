use Rattle.std.proofs.Common.{arith}
use Rattle.verifier_table.proofs.Linked.{shown_length, shown_measure}
use Rattle.verifier_table.proofs.stacks.Stacks.height.Goals as goal

pub index-requires : goal.index-requires
index-requires c = omega (arith, shown_length c.self.inside.nodes.items c.args.self.now c.self.invariant.0 c.self.view_is, c.self.inside.nodes.ok)

pub returns : goal.returns
returns c =
    (shown_measure c.self.inside.nodes.items c.args.self.now c.self.invariant.0 c.self.invariant.1 c.self.view_is c.args.at c.index.result.now c.requires c.index.ensures).height
