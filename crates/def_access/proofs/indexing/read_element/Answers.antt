use Rattle.std.proofs.Common.{rules}
use Rattle.object_heap.specs.Effects.{Answers}
use Rattle.container_ops.specs.Elements.{element_given}
use Rattle.def_access.proofs.Coming.{element_read}
use Rattle.def_access.proofs.indexing.read_element.Goals as goal

pub returns-in-Ok : goal.returns-in-Ok
returns-in-Ok c =
    let given : Answers (element_given c.index_of.new.heap c.args.receiver.now c.in-Ok.at) c.index_of.new.heap c.element_given.new.heap c.element_given.result = search rules in
    element_read c.args.heap.now c.index_of.new.heap c.element_given.new.heap c.args.receiver.now c.args.index.now c.in-Ok.at c.element_given.result c.in-Ok.ensures given
