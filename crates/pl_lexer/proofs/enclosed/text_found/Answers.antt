use Rattle.pl_lexer.proofs.Closing.{text_leads_at, no_text_at}
use Rattle.pl_lexer.proofs.enclosed.text_found.Goals as goal

pub returns-in-Some : goal.returns-in-Some
returns-in-Some c = text_leads_at _ _ _ _ c.requires c.split_at.ensures.front c.split_at.ensures.back c.in-Some.ensures.length

pub returns-in-None : goal.returns-in-None
returns-in-None c = no_text_at _ _ _ c.requires c.split_at.ensures.front c.split_at.ensures.back c.in-None.ensures.length
