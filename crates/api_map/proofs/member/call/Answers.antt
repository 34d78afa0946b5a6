use Rattle.std.proofs.Common.{Some}
use Rattle.object_heap.proofs.Keeping.{answers_fit}
use Rattle.api_map.specs.Members.{does_found}
use Rattle.container_outcomes.specs.Outcomes.{effect}
use Rattle.api_map.proofs.Keeping.{found_fits}
use Rattle.container_outcomes.proofs.Settling.{settled}
use Rattle.api_map.proofs.member.call.Goals as goal

pub returns-in-Some-clause-keeps : goal.returns-in-Some-clause-keeps
returns-in-Some-clause-keeps c = λ rules f h.
    let told = does_found c.args.heap.now.objects (Some c.in-Some.member) c.args.args.now in
    answers_fit rules (effect c.args.heap.now told) c.args.heap.now c.called.new.heap c.called.result c.called.ensures.does f
    (settled rules c.args.heap.now told f (found_fits rules c.args.heap.now.objects (Some c.in-Some.member) c.args.args.now f h))
