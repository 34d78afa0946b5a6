use Rattle.std.proofs.Common.{◌≡◌, sym, ◌∙◌, rules}
use Rattle.def_access.specs.Access.{place_in}
use Rattle.def_access.proofs.Coming.{item_written, item_written_ends}
use Rattle.def_access.proofs.indexing.write_item.Goals as goal

pub returns-in-Ok : goal.returns-in-Ok
returns-in-Ok c =
    let place : c.place_in.result ≡ place_in c.index_of.new.heap.objects c.args.receiver.now c.in-Ok.at = search rules in
    item_written c.args.heap.now c.index_of.new.heap c.args.receiver.now c.args.index.now c.args.value.now c.args.number c.in-Ok.at c.place_in.result (sym c.is_built.ensures ∙ c.if-not-is_built.false)
    c.in-Ok.ensures place

pub returns-in-Err : goal.returns-in-Err
returns-in-Err c =
    item_written_ends c.args.heap.now c.index_of.new.heap c.args.receiver.now c.args.index.now c.args.value.now c.args.number c.in-Err.answer (sym c.is_built.ensures ∙ c.if-not-is_built.false) c.in-Err.ensures
