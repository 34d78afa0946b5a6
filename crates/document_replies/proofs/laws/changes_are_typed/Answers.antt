use Rattle.document_replies.proofs.Changing.{changes_all_typed}
use Rattle.document_replies.proofs.laws.changes_are_typed.Goals as goal

pub returns : goal.returns
returns c = changes_all_typed c.lines_are_typed.ensures
