use Rattle.api_text.proofs.making.lowered.Goals as goal

pub returns : goal.returns
returns c = c.of_units.ensures c.args.heap.now _ c.lower_units.ensures
