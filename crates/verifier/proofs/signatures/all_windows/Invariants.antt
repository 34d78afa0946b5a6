use Rattle.std.proofs.Common.{take}
use Rattle.verifier.specs.Signed.{AllCut}
use Rattle.verifier.proofs.signatures.all_windows.Given as goal

abbrev pub invariant-loop-function : goal.invariant-loop-function
invariant-loop-function l = AllCut (take l.function-index l.functions) l.windows
