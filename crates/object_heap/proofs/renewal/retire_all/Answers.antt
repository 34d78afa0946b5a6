use Rattle.std.proofs.Common.{◌∙◌, add-one, arith}
use Rattle.object_heap.proofs.Retiring.{one_more, all_of_them}
use Rattle.object_heap.proofs.renewal.retire_all.Goals as goal

pub loop-at-preserved : goal.loop-at-preserved
loop-at-preserved c = rw (add-one, c.retire_at.ensures, c.loop-at.invariant) (one_more _ _)

pub returns : goal.returns
returns c = c.loop-at.invariant ∙ all_of_them c.loop-at.at c.args.objects.now.items (omega (arith, c.len-at-end.ensures))
