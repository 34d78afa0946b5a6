use Rattle.std.proofs.Common.{sym, ◌∙◌, subst}
use Rattle.pl_lexer.specs.declared.token.Kind.TheVariants.{Integer}
use Rattle.pl_lexer.specs.Lexeme.{token}
use Rattle.pl_lexer.specs.Longest.{LeadsBy}
use Rattle.pl_lexer.specs.Numbers.{number_of}
use Rattle.pl_lexer.proofs.Decimals.{decimal_leads, number_leads, goes_behind}
use Rattle.pl_lexer.proofs.numbers.number_found.Goals as goal

pub returns-then-goes_decimal : goal.returns-then-goes_decimal
returns-then-goes_decimal c =
    let text = c.args.text.now in
    decimal_leads text c.requires (goes_behind text _ _ _ c.whole_length-whole.ensures.length c.split_at.ensures.back (sym c.goes_decimal.ensures ∙ c.if-goes_decimal.true))

pub returns-else-goes_decimal : goal.returns-else-goes_decimal
returns-else-goes_decimal c =
    let text = c.args.text.now in
    let goes = goes_behind text _ _ _ c.whole_length-whole.ensures.length c.split_at.ensures.back (sym c.goes_decimal.ensures ∙ c.if-goes_decimal.false) in
    subst (λ n. LeadsBy (λ bytes _. number_of bytes) text n (token Integer)) (sym c.integer_length.ensures) (number_leads text c.requires goes)
