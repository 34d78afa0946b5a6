use Rattle.std.proofs.Common.{◌≡◌, map, take}
use Rattle.instruction_types.specs.Faults.{is_value_function}
use Rattle.verifier.proofs.signatures.all_values.Given as goal

abbrev pub invariant-loop-function : goal.invariant-loop-function
invariant-loop-function l = l.values ≡ map is_value_function (take l.function-index l.functions)
