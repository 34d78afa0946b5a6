use Rattle.std.proofs.Common.{sym, subst, to_z-of_z}
use Rattle.object_heap.specs.Effects.{Answers}
use Rattle.object_heap.specs.Parts.{units_of}
use Rattle.api_text.specs.Outcomes.{Tells, effect}
use Rattle.api_text.proofs.Splicing.{below_zero, not_below_zero}
use Rattle.api_text.proofs.builders.resized.Goals as goal

pub returns-then-count-lt0 : goal.returns-then-count-lt0
returns-then-count-lt0 c =
    let store = c.args.heap.now in
    let units = units_of store.objects c.args.builder in
    let told = below_zero c.args.builder units c.args.count (rw (to_z-of_z c.ranges.count) at c.if-count-lt0.true) in
    let error = rw (to_z-of_z c.ranges.count, c.units-before.ensures) at c.index_error.ensures in
    c.settle.ensures.does _ (subst (λ outcome. Tells store outcome c.index_error.result) (sym told) error)

pub returns : goal.returns
returns c =
    let store = c.args.heap.now in
    let units = units_of store.objects c.args.builder in
    let told = not_below_zero c.args.builder units c.args.count (rw (to_z-of_z c.ranges.count) at c.if-count-lt0.false) in
    subst (λ outcome. Answers (effect store outcome) store c.set_there.new.heap c.set_there.result) told (rw (to_z-of_z c.ranges.count) at c.set_there.ensures)
