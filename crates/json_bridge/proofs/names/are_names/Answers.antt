use Rattle.std.proofs.Common.{◌∙◌, ◌∷◌, sym}
use Rattle.serde_json.specs.View.{view}
use Rattle.serde_json.specs.declared.value.Value.TheVariants as j
use Rattle.json_bridge.specs.Giving as spec
use Rattle.json_bridge.proofs.Naming.{key_fails, key_holds, names_put}
use Rattle.json_bridge.proofs.names.are_names.Goals as goal

pub returns-then-not-branch : goal.returns-then-not-branch
returns-then-not-branch c =
    let (names, has, is) = c.loop-at.invariant in
    sym (is ∙ key_fails names c.args.pairs.now c.loop-at.at (c.in-Some.key.now, c.in-Some.field-0-1.now) c.in-Some.ensures.some (sym (c.in_ok-put.ensures.new names has) ∙ c.if-not-branch.true))

pub loop-at-preserved : goal.loop-at-preserved
loop-at-preserved c =
    let (names, has, is) = c.loop-at.invariant in (
      spec.name_of c.in-Some.key.now ∷ names,
      names_put _ _ names (spec.name_of c.in-Some.key.now) (view j.Null) (c.in_ok-put.ensures.members c.if-not-branch.false) has,
      is ∙ key_holds names c.args.pairs.now c.loop-at.at (c.in-Some.key.now, c.in-Some.field-0-1.now) c.in-Some.ensures.some (sym (c.in_ok-put.ensures.new names has) ∙ c.if-not-branch.false),
    )
