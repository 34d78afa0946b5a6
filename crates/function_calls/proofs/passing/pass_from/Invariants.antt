use Rattle.std.proofs.Common.{◌≡◌, ◌+◌, length}
use Rattle.function_calls.specs.Coming.{Taken}
use Rattle.function_calls.specs.Passing.{passed_from}
use Rattle.function_calls.proofs.passing.pass_from.Given as goal

-- what is left to pass, from here, is what all comes to, and the interfaces that were met are taken
abbrev pub invariant-params : goal.invariant-params
invariant-params l =
    (passed_from l.fn.texts l.fn.allow l.fn.params l.fn.from l.fn.heap l.fn.values ≡ passed_from l.fn.texts l.fn.allow l.left l.at l.heap l.values) × Taken l.fn.texts l.fn.allow l.fn.heap l.heap
    × (l.at + length l.left ≡ l.fn.from + length l.fn.params)

abbrev pub decreases-params : goal.decreases-params
decreases-params l = length l.left
