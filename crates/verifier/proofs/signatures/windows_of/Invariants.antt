use Rattle.verifier.proofs.Cutting.{CutSoFar}
use Rattle.verifier.proofs.signatures.windows_of.Given as goal

abbrev pub invariant-loop-done : goal.invariant-loop-done
invariant-loop-done l = CutSoFar l.params l.windows l.done
