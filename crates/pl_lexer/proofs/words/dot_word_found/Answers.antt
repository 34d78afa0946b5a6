use Rattle.std.proofs.Common.{sym, subst}
use Rattle.pl_lexer.specs.declared.token.Kind.TheVariants.{DotName}
use Rattle.pl_lexer.specs.Lexeme.{token}
use Rattle.pl_lexer.specs.Longest.{LeadsBy}
use Rattle.pl_lexer.specs.Words.{dot_word_of}
use Rattle.pl_lexer.proofs.Named.{dot_word_leads}
use Rattle.pl_lexer.proofs.words.dot_word_found.Goals as goal

pub returns : goal.returns
returns c = subst (λ n. LeadsBy (λ bytes _. dot_word_of bytes) c.args.text.now n (token DotName)) (sym c.name_bytes.ensures) (dot_word_leads c.args.text.now c.requires)
