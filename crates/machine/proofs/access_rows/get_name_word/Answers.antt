use Rattle.machine.proofs.access_rows.get_name_word.Goals as goal

pub get_name_value-requires-clause-reached : goal.get_name_value-requires-clause-reached
get_name_value-requires-clause-reached c = c.requires.reached.within c.args.run.now.frames.top.text
