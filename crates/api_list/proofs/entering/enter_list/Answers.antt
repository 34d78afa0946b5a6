use Rattle.std.proofs.Common.{◌++◌, true, refl}
use Rattle.object_values.specs.declared.value.Value.TheVariants as v
use Rattle.object_heap.specs.Objects.{renewed_by}
use Rattle.object_heap.specs.Store.{with_change}
use Rattle.api_list.proofs.Entries.{unpaid}
use Rattle.api_list.proofs.entering.enter_list.Goals as goal

pub returns-else-has_room : goal.returns-else-has_room
returns-else-has_room c =
    (unpaid c.args.heap.now (with_change (c.args.heap.now.objects ++ c.args.made) c.args.list (renewed_by c.args.object)) c.args.count (v.Bool true) c.requires.all (c.has_room.ensures.no c.if-has_room.false), refl)
