use Rattle.std.proofs.Common.{◌∙◌, add-one, arith}
use Rattle.search_ctx.proofs.Taking.{one_more, all_of_them}
use Rattle.search_ctx.proofs.doc.order_all.Goals as goal

pub loop-at-preserved : goal.loop-at-preserved
loop-at-preserved c = rw (add-one, c.order_at.ensures, c.loop-at.invariant) (one_more _ _)

pub returns : goal.returns
returns c = c.loop-at.invariant ∙ all_of_them c.loop-at.at c.args.values.now.items (omega (arith, c.len-at-end.ensures))
