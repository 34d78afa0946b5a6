use Rattle.std.proofs.Common.{length}
use Rattle.object_heap.proofs.Keeping.{answers_fit}
use Rattle.number_ops.specs.Members.{does_numbered, members, numbered}
use Rattle.number_ops.specs.Outcomes.{effect}
use Rattle.number_ops.proofs.Keeping.{numbered_fits, settled}
use Rattle.api_list.specs.declared.comparing.TheConstants.{COMPARE_TO}
use Rattle.api_list.proofs.comparing.compare.Goals as goal

pub returns-clause-does : goal.returns-clause-does
unfolding members numbered
returns-clause-does c = c.call.ensures.exact

pub returns-clause-memory : goal.returns-clause-memory
unfolding members numbered
returns-clause-memory c = c.call.ensures.memory

pub returns-clause-keeps : goal.returns-clause-keeps
returns-clause-keeps c = λ rules f.
    let told = does_numbered c.args.heap.now.objects COMPARE_TO c.args.args.now in
    answers_fit rules (effect c.args.heap.now told) c.args.heap.now c.call.new.heap c.call.result c.call.ensures.exact f
    (settled rules c.args.heap.now told f (numbered_fits (length c.args.heap.now.objects) c.args.heap.now.objects (numbered COMPARE_TO) c.args.args.now))
