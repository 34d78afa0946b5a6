use Rattle.std.proofs.Common.{rules}
use Rattle.def_access.specs.Access.{own_element_written}
use Rattle.def_access.specs.Coming.{ActsAs}
use Rattle.def_access.proofs.Coming.{element_put}
use Rattle.def_access.proofs.indexing.write_element.Goals as goal

pub returns-in-Ok : goal.returns-in-Ok
returns-in-Ok c =
    let put : ActsAs (own_element_written c.index_of.new.heap c.args.receiver.now c.args.value.now c.in-Ok.at) c.index_of.new.heap c.write_own.new.heap c.write_own.result = search rules in
    element_put c.args.heap.now c.index_of.new.heap c.write_own.new.heap c.args.receiver.now c.args.index.now c.args.value.now c.in-Ok.at c.write_own.result c.in-Ok.ensures put
