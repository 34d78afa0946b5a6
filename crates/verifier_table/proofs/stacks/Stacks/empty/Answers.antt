use Rattle.std.proofs.Common.{refl, arith}
use Rattle.verifier_table.proofs.Linked.{shown_length, shown_first}
use Rattle.verifier_table.proofs.stacks.Stacks.empty.Goals as goal

pub returns-clause-within : goal.returns-clause-within
returns-clause-within c = omega (arith, shown_length c.self.inside.nodes.items c.args.self.now c.self.invariant.0 c.self.view_is, c.self.invariant.0.some)

pub returns-clause-empty : goal.returns-clause-empty
returns-clause-empty c = shown_first c.self.inside.nodes.items c.args.self.now c.self.view_is 0 refl
