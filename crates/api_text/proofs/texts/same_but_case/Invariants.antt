-- The texts are one but for case where what is left of them is.
use Rattle.std.proofs.Common.{◌≡◌, length}
use Rattle.api_text.specs.Texts as spec
use Rattle.api_text.proofs.texts.same_but_case.Given as goal

abbrev pub invariant-loop-unit : goal.invariant-loop-unit
invariant-loop-unit l = spec.same_but_case l.text l.other ≡ spec.same_but_case l.left l.right

abbrev pub decreases-loop-unit : goal.decreases-loop-unit
decreases-loop-unit l = length l.left
