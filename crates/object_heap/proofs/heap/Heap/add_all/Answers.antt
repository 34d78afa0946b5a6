use Rattle.object_heap.proofs.Retiring.{retired_more}
use Rattle.object_heap.proofs.heap.Heap.add_all.Goals as goal

pub invariant_of-self : goal.invariant_of-self
invariant_of-self c = rw c.in-Ok.ensures.ok (retired_more c.self.inside.settled c.self.inside.objects.items c.args.more c.self.invariant)
