use Rattle.std.proofs.Common.{◌+◌, ◌∙◌, [], ◌∷◌, ap, sym, drop, map}
use Rattle.std.proofs.lemmas.Result.{err_from_is_err_and}
use Rattle.serde_json.specs.View.{view, members_view}
use Rattle.json_bridge.specs.Giving as spec
use Rattle.json_bridge.specs.Giving.{AValue, node_at}
use Rattle.json_bridge.proofs.Naming.{key_fails, key_holds, names_put}
use Rattle.json_bridge.proofs.Walking.{ends_first, met, item_made, item_ends, member_made, member_ends}
use Rattle.json_bridge.proofs.giving.+giving.Goals as goal

pub value_at-returns-clause-value : goal.value_at-returns-clause-value
value_at-returns-clause-value t c = rw (met c.args.levels c.args.nodes.now c.args.heap.now.objects (AValue c.args.value.now) c.if-levels-eq0.false c.if-nodes-eq0.false) c.value_given.ensures.value

pub value_at-returns-clause-error : goal.value_at-returns-clause-error
value_at-returns-clause-error t c = rw (met c.args.levels c.args.nodes.now c.args.heap.now.objects (AValue c.args.value.now) c.if-levels-eq0.false c.if-nodes-eq0.false) c.value_given.ensures.error

pub held_given-returns-in-List-clause-error : goal.held_given-returns-in-List-clause-error
held_given-returns-in-List-clause-error t c = rw (c.in-List.is, sym c.as_slice.ensures) c.array_given.ensures.error

pub held_given-returns-in-Array-clause-error : goal.held_given-returns-in-Array-clause-error
held_given-returns-in-Array-clause-error t c = rw (c.in-Array.is, sym c.as_slice-in-Array.ensures) c.array_given-in-Array.ensures.error

pub held_given-returns-in-Map-clause-error : goal.held_given-returns-in-Map-clause-error
held_given-returns-in-Map-clause-error t c = rw c.in-Map.is c.map_given.ensures.error

pub held_given-returns-in-Set-clause-error : goal.held_given-returns-in-Set-clause-error
held_given-returns-in-Set-clause-error t c = rw c.in-Set.is c.shown_given.ensures.error

pub held_given-returns-in-View-clause-error : goal.held_given-returns-in-View-clause-error
held_given-returns-in-View-clause-error t c = rw (c.in-View.is, sym c.pairs.ensures) c.shown_given-in-View.ensures.error

pub pair_shown-returns-in-Entries-clause-error : goal.pair_shown-returns-in-Entries-clause-error
pair_shown-returns-in-Entries-clause-error t c = rw c.in-Entries.is (c.entry_at.ensures c.args.heap.now.objects)

pub shown_given-returns-in_err-given-in-Some-clause-error : goal.shown_given-returns-in_err-given-in-Some-clause-error
shown_given-returns-in_err-given-in-Some-clause-error t c =
    let p = err_from_is_err_and c.from_residual.result c.from_residual.ensures.1 in
    rw (p.1, p.2, c.in-Some.is) (ends_first _ _ c.in_err-given-in-Some.field-0.0 c.in_err-given-in-Some.ensures.error)

pub all_shown-returns-in_err-json-clause-error : goal.all_shown-returns-in_err-json-clause-error
all_shown-returns-in_err-json-clause-error t c =
    let p = err_from_is_err_and c.from_residual.result c.from_residual.ensures.1 in
    rw (p.1, p.2) (item_ends (λ pair. node_at c.args.levels c.args.heap.now.objects (spec.shown_of c.args.part pair)) (map view c.loop-at.given.items) c.args.pairs.now c.loop-at.at (c.in-Some.key.now, c.in-Some.value.now) c.loop-at.nodes
    (spec.items_given (λ pair. node_at c.args.levels c.args.heap.now.objects (spec.shown_of c.args.part pair)) [] c.args.pairs.now c.args.nodes.now) c.in_err-json.field-0.0 c.in-Some.ensures.some c.loop-at.invariant c.in_err-json.ensures.error)

pub all_shown-loop-at-preserved : goal.all_shown-loop-at-preserved
all_shown-loop-at-preserved t c =
    c.loop-at.invariant
    ∙ (item_made (λ pair. node_at c.args.levels c.args.heap.now.objects (spec.shown_of c.args.part pair)) (map view c.loop-at.given.items) c.args.pairs.now c.loop-at.at (c.in-Some.key.now, c.in-Some.value.now) c.loop-at.nodes c.pair_shown.new.nodes (view c.in_ok-json.json) c.in-Some.ensures.some c.in_ok-json.ensures.value
    ∙ ap (λ made. spec.items_given (λ pair. node_at c.args.levels c.args.heap.now.objects (spec.shown_of c.args.part pair)) made (drop (c.loop-at.at + 1) c.args.pairs.now) c.pair_shown.new.nodes) (sym c.in_ok-push.ensures))

pub map_given-returns-in-Err-clause-error : goal.map_given-returns-in-Err-clause-error
map_given-returns-in-Err-clause-error t c =
    c.first_fault.ensures (λ value. node_at c.args.levels c.args.heap.now.objects (AValue value)) c.args.nodes.now c.in-Err.ensures.error

pub members_given-returns-in_err-json-clause-error : goal.members_given-returns-in_err-json-clause-error
members_given-returns-in_err-json-clause-error t c =
    let (names, has, are, is) = c.loop-at.invariant in
    let p = err_from_is_err_and c.from_residual.result c.from_residual.ensures.1 in
    rw (p.1, p.2) (member_ends (λ value. node_at c.args.levels c.args.heap.now.objects (AValue value)) (members_view c.loop-at.members.entries) c.args.pairs.now c.loop-at.at (c.in-Some.key.now, c.in-Some.value.now) c.loop-at.nodes _ c.in_err-json.field-0.0 c.in-Some.ensures.some is c.in_err-json.ensures.error)

pub members_given-returns-then-not-branch-clause-key : goal.members_given-returns-then-not-branch-clause-key
members_given-returns-then-not-branch-clause-key t c =
    let (names, has, are, is) = c.loop-at.invariant in
    are ∙ key_fails names c.args.pairs.now c.loop-at.at (c.in-Some.key.now, c.in-Some.value.now) c.in-Some.ensures.some (sym (c.in_ok-put.ensures.new names has) ∙ c.if-not-branch.true)

pub members_given-loop-at-preserved : goal.members_given-loop-at-preserved
members_given-loop-at-preserved t c =
    let (names, has, are, is) = c.loop-at.invariant in (
      spec.name_of c.in-Some.key.now ∷ names,
      names_put _ _ names (spec.name_of c.in-Some.key.now) (view c.in_ok-json.json) (c.in_ok-put.ensures.members c.if-not-branch.false) has,
      are ∙ key_holds names c.args.pairs.now c.loop-at.at (c.in-Some.key.now, c.in-Some.value.now) c.in-Some.ensures.some (sym (c.in_ok-put.ensures.new names has) ∙ c.if-not-branch.false),
      is
          ∙ (member_made (λ value. node_at c.args.levels c.args.heap.now.objects (AValue value)) (members_view c.loop-at.members.entries) c.args.pairs.now c.loop-at.at (c.in-Some.key.now, c.in-Some.value.now) c.loop-at.nodes c.value_at.new.nodes (view c.in_ok-json.json) c.in-Some.ensures.some c.in_ok-json.ensures.value
          ∙ ap (λ made. spec.members_given (λ value. node_at c.args.levels c.args.heap.now.objects (AValue value)) made (drop (c.loop-at.at + 1) c.args.pairs.now) c.value_at.new.nodes) (sym (c.in_ok-put.ensures.members c.if-not-branch.false))),
    )
