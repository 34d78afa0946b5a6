use Rattle.std.proofs.Common.{sym, ◌∙◌}
use Rattle.pl_lexer.specs.Enclosed.{slash_of}
use Rattle.pl_lexer.specs.Tables.{sign_of}
use Rattle.pl_lexer.proofs.Closing.{line_leads_at, signs_at, second_long}
use Rattle.pl_lexer.proofs.Tested.{Finds-agree}
use Rattle.pl_lexer.proofs.enclosed.slash_found.Goals as goal

pub split_at-requires : goal.split_at-requires
split_at-requires c = second_long 47 c.args.text.now (sym c.second_is.ensures ∙ c.if-second_is.true)

pub returns-then-second_is : goal.returns-then-second_is
returns-then-second_is c = line_leads_at _ _ _ (sym c.second_is.ensures ∙ c.if-second_is.true) c.split_at.ensures.back c.line_bytes.ensures

pub returns : goal.returns
returns c = Finds-agree (λ bytes _. sign_of bytes) slash_of c.args.text.now c.sign_found.result (signs_at c.args.text.now (sym c.second_is.ensures ∙ c.if-second_is.false) (sym c.second_is-2.ensures ∙ c.if-second_is-2.false)) c.sign_found.ensures
