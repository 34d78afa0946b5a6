use Rattle.api_text.proofs.member.called.Goals as goal

pub returns-in_default : goal.returns-in_default
returns-in_default c = record { does = c.settle.ensures.does _ c.does.ensures; memory = c.settle.ensures.memory _ c.does.ensures }
