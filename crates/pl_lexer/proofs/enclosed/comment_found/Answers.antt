use Rattle.pl_lexer.proofs.Closing.{comment_leads_at, no_comment_at, second_long}
use Rattle.pl_lexer.proofs.enclosed.comment_found.Goals as goal

pub split_at-requires : goal.split_at-requires
split_at-requires c = second_long 42 c.args.text.now c.requires

pub returns-in-Some : goal.returns-in-Some
returns-in-Some c = comment_leads_at _ _ _ c.requires c.split_at.ensures.back c.in-Some.ensures.length

pub returns-in-None : goal.returns-in-None
returns-in-None c = no_comment_at _ _ c.requires c.split_at.ensures.back c.in-None.ensures.length
