-- What is written, and then what is left with its occurrences replaced.
use Rattle.std.proofs.Common.{◌≡◌, ◌++◌, length}
use Rattle.api_text.specs.Pieces as spec
use Rattle.api_text.proofs.pieces.replaced_in.Given as goal

abbrev pub invariant-loop-left : goal.invariant-loop-left
invariant-loop-left l = spec.replaced_times (length l.text) l.target l.by l.text ≡ l.out.items ++ spec.replaced_times l._left l.target l.by l.rest
