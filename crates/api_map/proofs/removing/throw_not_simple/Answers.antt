use Rattle.api_map.proofs.removing.throw_not_simple.Goals as goal

pub returns : goal.returns
returns c = record { does = c.settle.ensures.does _ c.not_simple-told.ensures; memory = c.settle.ensures.memory _ c.not_simple-told.ensures }
