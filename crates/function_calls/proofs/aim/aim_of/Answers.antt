use Rattle.function_calls.specs.Targets.{aim_of}
use Rattle.function_calls.proofs.Aiming.{aim_listed, if_listed_aim}
use Rattle.function_calls.proofs.aim.aim_of.Goals as goal

pub returns-clause-listed : goal.returns-clause-listed
returns-clause-listed c =
    let texts = c.args.texts.now in
    let allow = c.args.allow.now in
    if_listed_aim allow (aim_of texts allow c.args.heap.now.objects c.args.values.now) c.values_aim.result c.values_aim.ensures (aim_listed texts allow c.args.heap.now.objects c.args.values.now)
