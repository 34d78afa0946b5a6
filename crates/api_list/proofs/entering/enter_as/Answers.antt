use Rattle.std.proofs.Common.{◌++◌, length, List, subst, true}
use Rattle.object_values.specs.declared.object.Object.{Object}
use Rattle.object_values.specs.declared.value.Value.TheVariants as v
use Rattle.object_heap.specs.Effects.{Answers, gives_paid}
use Rattle.object_heap.specs.Objects.{renewed_by}
use Rattle.object_heap.specs.Store.{with_change}
use Rattle.container_values.specs.Elements.{entry_keys_of, entry_references, map_shown}
use Rattle.container_values.proofs.Places.{length_references}
use Rattle.api_list.proofs.Entries.{entries_made, list_made}
use Rattle.api_list.proofs.entering.enter_as.Goals as goal

pub enter_list-requires : goal.enter_list-requires
enter_list-requires c =
    let objects = c.args.heap.now.objects in
    let keys = entry_keys_of objects c.args.container in record {
      made = entries_made objects (map_shown c.args.container) keys c.in-Ok.made c.entry_count-count.result c.in-Ok.ensures c.entry_count-count.ensures;
      all = list_made objects c.args.list c.args.at (map_shown c.args.container) keys (entry_references objects c.args.container) c.args.object c.in-Ok.made c.entry_count-count.result c.in-Ok.ensures c.entry_count-count.ensures
          (length_references (length objects) (length keys)) c.requires;
    }

pub returns-in-Ok : goal.returns-in-Ok
returns-in-Ok c =
    subst (λ (m : List Object). Answers (gives_paid c.args.heap.now (with_change (c.args.heap.now.objects ++ m) c.args.list (renewed_by c.args.object)) (v.Bool true)) c.args.heap.now c.enter_list.new.heap c.enter_list.result)
    c.in-Ok.ensures c.enter_list.ensures
