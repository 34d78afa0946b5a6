use Rattle.std.proofs.Common.{rules}
use Rattle.api_text.specs.Builders.{insert}
use Rattle.api_text.specs.Outcomes.{Tells}
use Rattle.api_text.proofs.Needing.{insert_needs, wants}
use Rattle.api_text.proofs.builders.insert.Goals as goal

pub returns-in-Some-Some-Some-clause-memory : goal.returns-in-Some-Some-Some-clause-memory
returns-in-Some-Some-Some-clause-memory c = wants _ _ (insert_needs c.args.heap.now.objects c.args.args.now)

pub returns-in_default-clause-does : goal.returns-in_default-clause-does
returns-in_default-clause-does c =
    let error : Tells c.args.heap.now (insert c.args.heap.now.objects c.args.args.now) c.null_error.result = search rules in
    c.settle.ensures.does _ error
