use Rattle.std.proofs.Common.{◌≡◌, ◌<◌, length, drop}
use Rattle.verifier_table.specs.Nodes.{stack_at}
use Rattle.verifier_table.proofs.stacks.Stacks.below.Given as goal

abbrev pub invariant-loop : goal.invariant-loop
invariant-loop l = (l.place < length l.self) × (stack_at l.self l.place ≡ drop l.counter (stack_at l.self l.at))
