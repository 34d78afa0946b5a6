use Rattle.machine.proofs.access_rows.put_name_words.Goals as goal

pub put_name_values-requires-clause-reached : goal.put_name_values-requires-clause-reached
put_name_values-requires-clause-reached c = c.requires.reached.within c.args.run.now.frames.top.text
