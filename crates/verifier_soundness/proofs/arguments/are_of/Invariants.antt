use Rattle.std.proofs.Common.{◌≡◌, length}
use Rattle.verifier_table.specs.Shapes.{same_kinds}
use Rattle.verifier_soundness.specs.Fits.{kinds_of}
use Rattle.verifier_soundness.proofs.arguments.are_of.Given as goal

abbrev pub invariant-words : goal.invariant-words
invariant-words l = same_kinds (kinds_of l.words_left) l.kinds_left ≡ same_kinds (kinds_of l.words) l.kinds

abbrev pub decreases-words : goal.decreases-words
decreases-words l = length l.words_left
