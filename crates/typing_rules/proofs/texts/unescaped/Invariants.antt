use Rattle.std.proofs.Common.{◌≡◌, ◌++◌, length, IsUtf8}
use Rattle.std.specs.String.{string_bytes}
use Rattle.typing_rules.specs.Rules.Literals.{unescaped}
use Rattle.typing_rules.proofs.texts.unescaped.Given as goal

-- what the pieces so far stand for, and what is left
abbrev pub invariant-pieces : goal.invariant-pieces
invariant-pieces l = (unescaped l.fn.written ≡ string_bytes l.text ++ unescaped l.rest) × IsUtf8 l.rest

abbrev pub decreases-pieces : goal.decreases-pieces
decreases-pieces l = length l.rest
