use Rattle.machine.proofs.access_rows.get_index_words.Goals as goal

pub get_index_values-requires : goal.get_index_values-requires
get_index_values-requires c = record { reached = c.requires.reached.within c.args.run.now.frames.top.text }
