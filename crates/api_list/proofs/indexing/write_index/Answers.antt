use Rattle.object_heap.proofs.Keeping.{answers_fit}
use Rattle.container_outcomes.specs.Outcomes.{effect}
use Rattle.container_outcomes.proofs.Settling.{settled}
use Rattle.api_list.specs.Indexing as indexing
use Rattle.api_list.proofs.Indexed.{write_index_fits}
use Rattle.api_list.proofs.indexing.write_index.Goals as goal

pub returns-clause-does : goal.returns-clause-does
returns-clause-does c = c.settle.ensures.does _ c.write-told.ensures

pub returns-clause-memory : goal.returns-clause-memory
returns-clause-memory c = c.settle.ensures.memory _ c.write-told.ensures

pub returns-clause-keeps : goal.returns-clause-keeps
returns-clause-keeps c = λ rules f h t.
    let told = indexing.write_index c.args.heap.now.objects c.args.args.now in
    answers_fit rules (effect c.args.heap.now told) c.args.heap.now c.settle.new.heap c.settle.result (c.settle.ensures.does told c.write-told.ensures) f
    (settled rules c.args.heap.now told f (write_index_fits rules c.args.heap.now.objects c.args.args.now h t))
