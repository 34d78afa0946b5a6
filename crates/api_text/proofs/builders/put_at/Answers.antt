use Rattle.std.proofs.Common.{◌≡◌, None, length, ap, sym, subst, to_z-of_z}
use Rattle.object_heap.specs.Parts.{units_of}
use Rattle.api_text.specs.Builders.{put_at, put_in}
use Rattle.api_text.specs.Outcomes.{Tells}
use Rattle.api_text.specs.Sequences.{index_error, place_within}
use Rattle.api_text.proofs.builders.put_at.Goals as goal

pub returns-in-None : goal.returns-in-None
returns-in-None c =
    let store = c.args.heap.now in
    let units = units_of store.objects c.args.builder in
    let none : None ≡ place_within 0 (length units) c.args.at = rw (to_z-of_z c.ranges.at, c.units-count.ensures) at c.in-None.ensures in
    let told : put_at c.args.builder units c.args.at c.args.text.now ≡ index_error c.args.at (length units) = ap (put_in c.args.builder units c.args.at c.args.text.now) (sym none) in
    let error : Tells store (index_error c.args.at (length units)) c.index_error.result = rw (to_z-of_z c.ranges.at, c.units-count.ensures) at c.index_error.ensures in
    c.settle.ensures.does _ (subst (λ outcome. Tells store outcome c.index_error.result) (sym told) error)
