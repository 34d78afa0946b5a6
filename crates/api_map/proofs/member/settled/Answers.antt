use Rattle.api_map.proofs.member.settled.Goals as goal

pub returns : goal.returns
returns c = record { does = c.settle.ensures.does _ c.tells-told.ensures; memory = c.settle.ensures.memory _ c.tells-told.ensures }
