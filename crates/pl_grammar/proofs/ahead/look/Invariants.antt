use Rattle.std.proofs.Common.{◌≡◌, ℕ, List, take}
use Rattle.pl_grammar.specs.Ahead as spec
use Rattle.pl_grammar.specs.Lexeme.{lexemes}
use Rattle.pl_grammar.proofs.ahead.look.Given as goal

abbrev pub invariant-loop-token : goal.invariant-loop-token
invariant-loop-token l = (text : List ℕ) → spec.seen l.fn.from (lexemes text (take l.token-index l.tokens)) ≡ l.state
