use Rattle.std.proofs.Common.{◌≡◌, length}
use Rattle.function_calls.specs.Targets.{function_in}
use Rattle.function_calls.proofs.texts.function_in.Given as goal

-- what is left to look through, from here, has the function that all have
abbrev pub invariant-works : goal.invariant-works
invariant-works l = function_in l.fn.works l.fn.member ≡ function_in l.left l.fn.member

abbrev pub decreases-works : goal.decreases-works
decreases-works l = length l.left
