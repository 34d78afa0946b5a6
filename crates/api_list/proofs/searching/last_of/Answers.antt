use Rattle.std.proofs.Common.{◌∙◌, length, refl, sym, arith}
use Rattle.std.proofs.lemmas.Option.{slice_get_read}
use Rattle.api_list.proofs.Steps.{last_passed}
use Rattle.api_list.proofs.searching.last_of.Goals as goal

pub loop-passed-preserved : goal.loop-passed-preserved
loop-passed-preserved c =
    c.loop-passed.invariant
    ∙ last_passed c.args.heap.now.objects c.args.value.now c.args.items.now (length c.args.items.now) c.loop-passed.passed _ c.index-items-at.result refl (omega (arith, c.loop-passed-test.true))
    (slice_get_read c.args.items.now (length c.args.items.now) _ c.index-items-at.result refl (omega (arith, c.loop-passed-test.true)) c.index-items-at.is) (sym c.in-Other.ensures)
