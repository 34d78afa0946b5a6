use Rattle.std.proofs.Common.{Some}
use Rattle.object_heap.proofs.Keeping.{answers_fit}
use Rattle.api_iter.specs.Members.{does_found}
use Rattle.api_iter.proofs.Keeping.{found_fits}
use Rattle.api_iter.proofs.member.call.Goals as goal

pub returns-in-Some-clause-keeps : goal.returns-in-Some-clause-keeps
returns-in-Some-clause-keeps c = λ rules f h.
    answers_fit rules (does_found c.args.heap.now (Some c.in-Some.member) c.args.args.now) c.args.heap.now c.called.new.heap c.called.result c.called.ensures.does f
    (found_fits rules c.args.heap.now (Some c.in-Some.member) c.args.args.now f h)
