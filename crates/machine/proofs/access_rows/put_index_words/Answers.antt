use Rattle.machine.proofs.access_rows.put_index_words.Goals as goal

pub put_index_values-requires : goal.put_index_values-requires
put_index_values-requires c = record { reached = c.requires.reached.within c.args.run.now.frames.top.text }
