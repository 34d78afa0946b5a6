use Rattle.api_map.proofs.removing.throw_deep.Goals as goal

pub returns : goal.returns
returns c = record { does = c.settle.ensures.does _ c.too_deep-told.ensures; memory = c.settle.ensures.memory _ c.too_deep-told.ensures }
