use Rattle.std.proofs.Common.{◌≡◌, length}
use Rattle.std.specs.Prelude.{is_some}
use Rattle.pl_types.specs.Texts.{type_of_full}
use Rattle.verifier_soundness.proofs.types.is_full_type.Given as goal

abbrev pub invariant-brackets : goal.invariant-brackets
invariant-brackets l = is_some (type_of_full l.word) ≡ is_some (type_of_full l.text)

abbrev pub decreases-brackets : goal.decreases-brackets
decreases-brackets l = length l.word
