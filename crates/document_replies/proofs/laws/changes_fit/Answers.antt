use Rattle.document_replies.proofs.Changing.{changes_all_fit}
use Rattle.document_replies.proofs.laws.changes_fit.Goals as goal

pub returns : goal.returns
returns c = changes_all_fit c.lines_fit.ensures
