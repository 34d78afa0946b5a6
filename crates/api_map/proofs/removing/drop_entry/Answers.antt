use Rattle.api_map.proofs.removing.drop_entry.Goals as goal

pub returns : goal.returns
returns c = record { does = c.settle.ensures.does _ c.key_dropped-told.ensures; memory = c.settle.ensures.memory _ c.key_dropped-told.ensures }
