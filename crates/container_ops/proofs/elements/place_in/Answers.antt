use Rattle.std.proofs.Common.{length, rules, to_z-of_z}
use Rattle.container_calls.specs.Indexing.{counted}
use Rattle.container_calls.specs.Lists.{place_of}
use Rattle.container_outcomes.specs.Outcomes.{Tells, array_index_error}
use Rattle.container_ops.specs.Elements.{item_written}
use Rattle.container_ops.proofs.Landing.{refused}
use Rattle.container_ops.proofs.elements.place_in.Goals as goal

pub returns-in-Err : goal.returns-in-Err
returns-in-Err c = λ item.
    let count = length c.args.items.now in
    let told : Tells (array_index_error c.in-Err.index count) c.array_index_error.result = search rules in
    refused count (counted count c.args.at) c.in-Err.index (place_of count (counted count c.args.at)) (item_written c.args.id item) c.array_index_error.result
    (rw (to_z-of_z c.ranges.at) at c.in-Err.ensures) told
