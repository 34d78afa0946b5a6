use Rattle.std.proofs.Common.{[], ◌∷◌}
use Rattle.object_heap.proofs.Retiring.{came_behind}
use Rattle.object_heap.proofs.heap.Heap.place.Goals as goal

pub invariant_of-self : goal.invariant_of-self
invariant_of-self c =
    came_behind c.push_object.result c.self.inside.settled c.push_object.new.objects.items c.self.inside.objects.items (c.args.object ∷ []) c.push_object.ensures.ok c.push_object.ensures.err c.self.invariant
