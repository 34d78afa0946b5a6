use Rattle.std.proofs.Common.{sym, subst}
use Rattle.pl_lexer.specs.declared.token.Kind.TheVariants.{DotInteger}
use Rattle.pl_lexer.specs.Lexeme.{token}
use Rattle.pl_lexer.specs.Longest.{LeadsBy}
use Rattle.pl_lexer.specs.Numbers.{dot_number_of}
use Rattle.pl_lexer.proofs.Integers.{dot_number_leads}
use Rattle.pl_lexer.proofs.numbers.dot_number_found.Goals as goal

pub returns : goal.returns
returns c = let text = c.args.text.now in subst (λ n. LeadsBy (λ bytes _. dot_number_of bytes) text n (token DotInteger)) (sym c.whole_length.ensures.length) (dot_number_leads text c.requires)
