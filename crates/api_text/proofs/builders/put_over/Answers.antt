use Rattle.std.proofs.Common.{◌≡◌, Some, None, length, refl, sym, subst, to_z-of_z}
use Rattle.object_heap.specs.Parts.{units_of}
use Rattle.value_walks.specs.declared.TheConstants.{VISITS}
use Rattle.value_walks.specs.Texts.{text_of}
use Rattle.api_text.specs.Outcomes.{Tells}
use Rattle.api_text.specs.Sequences.{index_error, place_within}
use Rattle.api_text.proofs.Room.{no_place_to_insert, no_room_to_insert}
use Rattle.api_text.proofs.builders.put_over.Goals as goal

pub returns-in-Some : goal.returns-in-Some
returns-in-Some c =
    let store = c.args.heap.now in
    let units = units_of store.objects c.args.builder in
    let there = rw (to_z-of_z c.ranges.at, c.units-count.ensures) at c.in-Some.ensures in
    (no_room_to_insert store c.args.builder c.args.at _ (text_of store.objects c.args.value.now VISITS) c.requires.builder there c.requires.longer, refl)

pub returns-in-None : goal.returns-in-None
returns-in-None c =
    let store = c.args.heap.now in
    let units = units_of store.objects c.args.builder in
    let none : None ≡ place_within 0 (length units) c.args.at = rw (to_z-of_z c.ranges.at, c.units-count.ensures) at c.in-None.ensures in
    let told = no_place_to_insert store.room c.args.builder units c.args.at (text_of store.objects c.args.value.now VISITS) none c.requires.longer in
    let error : Tells store (index_error c.args.at (length units)) c.index_error.result = rw (to_z-of_z c.ranges.at, c.units-count.ensures) at c.index_error.ensures in
    c.settle.ensures.does _ (subst (λ outcome. Tells store outcome c.index_error.result) told error)
