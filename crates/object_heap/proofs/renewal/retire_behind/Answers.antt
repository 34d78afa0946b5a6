use Rattle.std.proofs.Common.{◌≡◌, ℕ, length, sym, subst, arith}
use Rattle.object_heap.specs.Fronts.{AreRetired}
use Rattle.object_heap.proofs.Fronting.{retired_behind}
use Rattle.object_heap.proofs.Retiring.{all_retired}
use Rattle.object_heap.proofs.renewal.retire_behind.Goals as goal

pub returns-clause-whole : goal.returns-clause-whole
returns-clause-whole c = rw c.retire_all.ensures (sym (retired_behind c.args.front.now c.args.objects.now.items c.len-frozen.ensures.frozen))

pub returns-clause-count : goal.returns-clause-count
returns-clause-count c =
    let n : c.len-count.result ≡ length c.retire_all.new.objects.items = omega (arith, c.len-count.ensures) in
    subst (λ (k : ℕ). AreRetired k c.retire_all.new.objects.items) (sym n) (rw c.retire_all.ensures (all_retired c.args.objects.now.items))
