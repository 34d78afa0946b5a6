use Rattle.std.proofs.Common.{◌∙◌, ◌∷◌, ap, sym}
use Rattle.serde_json.specs.View.{view}
use Rattle.serde_json.specs.declared.value.Value.TheVariants as j
use Rattle.json_bridge.specs.Giving as spec
use Rattle.json_bridge.proofs.Naming.{names_put}
use Rattle.json_bridge.proofs.Others.{left_out, left_in, first_fails, first_holds}
use Rattle.json_bridge.proofs.without.are_names.Goals as goal

pub returns-then-not-branch : goal.returns-then-not-branch
returns-then-not-branch c =
    let (names, has, is) = c.loop-at.invariant in
    sym (is ∙ first_fails names _ _ (c.in-Some.key.now, c.in-Some.field-0-1.now) (left_in c.args.keys.now c.args.pairs.now c.loop-at.at (c.in-Some.key.now, c.in-Some.field-0-1.now) c.in-Some.ensures.some (sym c.is_one_of.ensures ∙ c.if-is_one_of.false))
    (sym (c.in_ok-put.ensures.new names has) ∙ c.if-not-branch.true))

-- a key that is left out
pub loop-at-preserved-then-is_one_of : goal.loop-at-preserved-then-is_one_of
loop-at-preserved-then-is_one_of c =
    let (names, has, is) = c.loop-at.invariant in
    (names, has, is ∙ ap (spec.are_new_names names) (left_out c.args.keys.now c.args.pairs.now c.loop-at.at (c.in-Some.key.now, c.in-Some.field-0-1.now) c.in-Some.ensures.some (sym c.is_one_of.ensures ∙ c.if-is_one_of.true)))

pub loop-at-preserved : goal.loop-at-preserved
loop-at-preserved c =
    let (names, has, is) = c.loop-at.invariant in (
      spec.name_of c.in-Some.key.now ∷ names,
      names_put _ _ names (spec.name_of c.in-Some.key.now) (view j.Null) (c.in_ok-put.ensures.members c.if-not-branch.false) has,
      is
          ∙ first_holds names _ _ (c.in-Some.key.now, c.in-Some.field-0-1.now) (left_in c.args.keys.now c.args.pairs.now c.loop-at.at (c.in-Some.key.now, c.in-Some.field-0-1.now) c.in-Some.ensures.some (sym c.is_one_of.ensures ∙ c.if-is_one_of.false))
          (sym (c.in_ok-put.ensures.new names has) ∙ c.if-not-branch.false),
    )
