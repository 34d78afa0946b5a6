-- The text gets shorter.
use Rattle.std.proofs.Common.{length}
use Rattle.pl_types.proofs.ty.Ty.+of_full_text.Given as goal

abbrev pub decreases-of_full_text : goal.decreases-of_full_text
decreases-of_full_text l = length l.text.now
