-- The reading of the parser's control, by the rows of the grammar alone.
use Rattle.pl_grammar.specs.Parses.{Parses}
use Rattle.pl_grammar_plain.specs.PlainParses.{PlainParses}
use Rattle.pl_parser.proofs.Plainly.{answers_too}
use Rattle.pl_parser.proofs.parse.Goals as goal

pub returns-clause-exact : goal.returns-clause-exact
returns-clause-exact c =
    let same = c.plain_laws.ensures.same c.args.text.now c.args.tokens.now in
    answers_too (λ tree. tree) (Parses c.args.text.now c.args.tokens.now) (PlainParses c.args.text.now c.args.tokens.now) (λ answer is. (same answer).0 is) c.parse_by.result c.parse_by.ensures.exact

pub returns-clause-only : goal.returns-clause-only
returns-clause-only c = λ reading is. c.parse_by.ensures.only reading ((c.plain_laws.ensures.same c.args.text.now c.args.tokens.now reading).1 is)
