use Rattle.std.proofs.Common.{◌≡◌, Some, None, length, ap, sym, subst, to_z-of_z, ◌∙◌}
use Rattle.object_heap.specs.Effects.{Answers}
use Rattle.object_heap.specs.Parts.{units_of}
use Rattle.api_text.specs.Builders.{deleted, deleted_in, deleted_there}
use Rattle.api_text.specs.Outcomes.{Tells, effect}
use Rattle.api_text.specs.Sequences.{index_error, place_before}
use Rattle.api_text.proofs.Splicing.{deleted_is}
use Rattle.api_text.proofs.builders.deleted.Goals as goal

pub returns-in-Some : goal.returns-in-Some
returns-in-Some c =
    let store = c.args.heap.now in
    let units = units_of store.objects c.args.builder in
    let place = c.in-Some.place in
    let found : Some place ≡ place_before (length units) c.args.at = rw (to_z-of_z c.ranges.at, c.units-count.ensures) at c.in-Some.ensures in
    let told : deleted_there c.args.builder units place ≡ deleted store.objects c.args.builder c.args.at = ap (deleted_in c.args.builder units c.args.at) found in
    subst (λ outcome. Answers (effect store outcome) store c.spliced.new.heap c.spliced.result) (deleted_is c.args.builder units place ∙ told) c.spliced.ensures

pub returns-in-None : goal.returns-in-None
returns-in-None c =
    let store = c.args.heap.now in
    let units = units_of store.objects c.args.builder in
    let none : None ≡ place_before (length units) c.args.at = rw (to_z-of_z c.ranges.at, c.units-count.ensures) at c.in-None.ensures in
    let told : deleted store.objects c.args.builder c.args.at ≡ index_error c.args.at (length units) = ap (deleted_in c.args.builder units c.args.at) (sym none) in
    let error : Tells store (index_error c.args.at (length units)) c.index_error.result = rw (to_z-of_z c.ranges.at, c.units-count.ensures) at c.index_error.ensures in
    c.settle.ensures.does _ (subst (λ outcome. Tells store outcome c.index_error.result) (sym told) error)
