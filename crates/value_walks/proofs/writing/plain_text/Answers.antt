use Rattle.value_walks.proofs.Behind.{written_nothing}
use Rattle.value_walks.proofs.writing.plain_text.Goals as goal

pub returns-in-Ref : goal.returns-in-Ref
returns-in-Ref c = rw c.in-Ref.is (written_nothing c.args.out.now c.args.visits)
