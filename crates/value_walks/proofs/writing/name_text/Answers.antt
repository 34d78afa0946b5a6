use Rattle.value_walks.proofs.Behind.{unnamed}
use Rattle.value_walks.proofs.writing.name_text.Goals as goal

pub returns-in_default : goal.returns-in_default
returns-in_default c =
    unnamed c.args.object.now c.args.out.now c.args.visits c.in_default.not-Iter c.in_default.not-Builder c.in_default.not-Fun c.in_default.not-Exc
