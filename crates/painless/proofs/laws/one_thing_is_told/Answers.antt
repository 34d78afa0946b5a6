use Rattle.painless.proofs.Once.{tells_some, tells_once}
use Rattle.painless.proofs.laws.one_thing_is_told.Goals as goal

pub returns-clause-some : goal.returns-clause-some
returns-clause-some c = λ words content codes input are.
    tells_some c.script_laws.ensures.answered c.script_laws.ensures.ends c.code_laws.ensures.counted content input words codes are

pub returns-clause-once : goal.returns-clause-once
returns-clause-once c = λ words content codes input a b h k.
    tells_once c.script_laws.ensures.answered_once c.script_laws.ensures.ends_once c.code_laws.ensures.once content input words codes a b h k
