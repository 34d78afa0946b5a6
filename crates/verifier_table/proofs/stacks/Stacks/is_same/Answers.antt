use Rattle.verifier_table.proofs.Linked.{shown_test}
use Rattle.verifier_table.proofs.stacks.Stacks.is_same.Goals as goal

pub returns : goal.returns
returns c = shown_test c.self.inside.nodes.items c.args.self.now c.self.invariant.0 c.self.view_is c.args.a c.args.b c.requires.first c.requires.second
