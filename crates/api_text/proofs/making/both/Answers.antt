use Rattle.api_text.proofs.making.both.Goals as goal

pub returns : goal.returns
returns c = c.of_units.ensures c.args.heap.now _ c.joined_units.ensures
