use Rattle.std.proofs.Common.{◌≡◌, [], reverse}
use Rattle.plain_stack.specs.Stacks.{gathered}
use Rattle.plain_stack.proofs.stack.Stack.take.Given as goal

-- what is taken so far, and how many are still to be
abbrev pub invariant-loop-left : goal.invariant-loop-left
invariant-loop-left g l = gathered l.fn.count l.initial.self [] ≡ gathered l.left l.self (reverse l.taken.items)

abbrev pub decreases-loop-left : goal.decreases-loop-left
decreases-loop-left g l = l.left
