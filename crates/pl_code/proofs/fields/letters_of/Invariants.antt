use Rattle.std.proofs.Common.{◌≡◌, ◌++◌, drop}
use Rattle.std.specs.Prelude.{option_map}
use Rattle.pl_code.specs.Lines.{letters_of}
use Rattle.pl_code.proofs.fields.letters_of.Given as goal

abbrev pub invariant-loop-letter : goal.invariant-loop-letter
invariant-loop-letter l = letters_of l.text ≡ option_map (λ slots. l.slots ++ slots) (letters_of (drop l.letter-index l.text))
