use Rattle.std.proofs.Common.{◌+◌, ◌∙◌, ◌∷◌, ap, drop, sym}
use Rattle.std.proofs.lemmas.Result.{err_from_is_err_and}
use Rattle.serde_json.specs.View.{view, members_view}
use Rattle.json_bridge.specs.Giving as spec
use Rattle.json_bridge.specs.Giving.{AValue, node_at}
use Rattle.json_bridge.specs.Without.{without}
use Rattle.json_bridge.proofs.Naming.{names_put}
use Rattle.json_bridge.proofs.Others.{left_out, left_in, first_fails, first_holds, first_made, first_ends}
use Rattle.json_bridge.proofs.without.members_given.Goals as goal

pub returns-in_err-json-clause-error : goal.returns-in_err-json-clause-error
returns-in_err-json-clause-error c =
    let (names, has, are, is) = c.loop-at.invariant in
    let p = err_from_is_err_and c.from_residual.result c.from_residual.ensures.1 in
    rw (p.1, p.2) (first_ends (λ value. node_at 99 c.args.heap.now.objects (AValue value)) (members_view c.loop-at.members.entries) _ _ (c.in-Some.key.now, c.in-Some.value.now) c.loop-at.nodes _ c.in_err-json.field-0.0
    (left_in c.args.keys.now c.args.pairs.now c.loop-at.at (c.in-Some.key.now, c.in-Some.value.now) c.in-Some.ensures.some (sym c.is_one_of.ensures ∙ c.if-is_one_of.false)) is c.in_err-json.ensures.error)

pub returns-then-not-branch-clause-key : goal.returns-then-not-branch-clause-key
returns-then-not-branch-clause-key c =
    let (names, has, are, is) = c.loop-at.invariant in
    are ∙ first_fails names _ _ (c.in-Some.key.now, c.in-Some.value.now) (left_in c.args.keys.now c.args.pairs.now c.loop-at.at (c.in-Some.key.now, c.in-Some.value.now) c.in-Some.ensures.some (sym c.is_one_of.ensures ∙ c.if-is_one_of.false))
    (sym (c.in_ok-put.ensures.new names has) ∙ c.if-not-branch.true)

-- a member that is left out
pub loop-at-preserved-then-is_one_of : goal.loop-at-preserved-then-is_one_of
loop-at-preserved-then-is_one_of c =
    let (names, has, are, is) = c.loop-at.invariant in
    let rest = left_out c.args.keys.now c.args.pairs.now c.loop-at.at (c.in-Some.key.now, c.in-Some.value.now) c.in-Some.ensures.some (sym c.is_one_of.ensures ∙ c.if-is_one_of.true) in (
      names,
      has,
      are ∙ ap (spec.are_new_names names) rest,
      is ∙ ap (λ pairs. spec.members_given (λ value. node_at 99 c.args.heap.now.objects (AValue value)) (members_view c.loop-at.members.entries) pairs c.loop-at.nodes) rest,
    )

pub loop-at-preserved : goal.loop-at-preserved
loop-at-preserved c =
    let (names, has, are, is) = c.loop-at.invariant in
    let next = left_in c.args.keys.now c.args.pairs.now c.loop-at.at (c.in-Some.key.now, c.in-Some.value.now) c.in-Some.ensures.some (sym c.is_one_of.ensures ∙ c.if-is_one_of.false) in (
      spec.name_of c.in-Some.key.now ∷ names,
      names_put _ _ names (spec.name_of c.in-Some.key.now) (view c.in_ok-json.json) (c.in_ok-put.ensures.members c.if-not-branch.false) has,
      are ∙ first_holds names _ _ (c.in-Some.key.now, c.in-Some.value.now) next (sym (c.in_ok-put.ensures.new names has) ∙ c.if-not-branch.false),
      is
          ∙ (first_made (λ value. node_at 99 c.args.heap.now.objects (AValue value)) (members_view c.loop-at.members.entries) _ _ (c.in-Some.key.now, c.in-Some.value.now) c.loop-at.nodes c.value_at.new.nodes (view c.in_ok-json.json) next c.in_ok-json.ensures.value
          ∙ ap (λ made. spec.members_given (λ value. node_at 99 c.args.heap.now.objects (AValue value)) made (without c.args.keys.now (drop (c.loop-at.at + 1) c.args.pairs.now)) c.value_at.new.nodes) (sym (c.in_ok-put.ensures.members c.if-not-branch.false))),
    )
