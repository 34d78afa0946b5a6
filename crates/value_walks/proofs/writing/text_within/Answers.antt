use Rattle.value_walks.proofs.writing.text_within.Goals as goal

pub returns : goal.returns
returns c = c.text_written.ensures c.args.room _ (rw c.new-out.ensures at c.push_text-walked.ensures)
