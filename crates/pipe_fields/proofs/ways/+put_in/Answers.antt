use Rattle.std.proofs.Common.{rules, arith}
use Rattle.std.proofs.lemmas.Grind.{common_steps}
use Rattle.serde_json.specs.View.{view}
use Rattle.pipe_fields.proofs.WayLemmas.{put_unnamed, never_blocked, found_here, not_here, free_here, free_made, filled_below, filled_made, on_ok}
use Rattle.pipe_fields.proofs.ways.+put_in.Goals as goal

pub returns-in_default : goal.returns-in_default
returns-in_default t c = put_unnamed _ _ _ c.in_default.ensures.cases

pub returns-in_default-as_object_mut : goal.returns-in_default-as_object_mut
returns-in_default-as_object_mut t c = never_blocked _ _ _ c.in-Some.name.now c.in-Some.rest.now _ c.in-Some.ensures.cases.0 c.in_default-as_object_mut.ensures.value c.requires

pub put_in-requires : goal.put_in-requires
put_in-requires t c = (
  first_of (search rules, grind (arith, common_steps)),
  free_here _ c.in-Some.name.now c.in-Some.rest.now (view c.args.into.now) _ c.in-Some.ensures.cases.0
      (found_here c.in-Some.name.now c.as_str.result.now (view c.args.into.now) c.in-Some-as_object_mut.members.now c.in-Some-get_mut.inner.now c.as_str.ensures c.in-Some-as_object_mut.ensures.value c.in-Some-get_mut.ensures.value) c.requires,
)

pub returns-in-Some-get_mut : goal.returns-in-Some-get_mut
returns-in-Some-get_mut t c =
    on_ok c.put_in.result _ _
    (λ h. filled_below _ c.in-Some.name.now c.as_str.result.now c.in-Some.rest.now (view c.args.into.now) _ c.in-Some-as_object_mut.members.now (c.get_mut.follows.lender c.put_in.new.into) c.in-Some-get_mut.inner.now c.put_in.new.into
    c.in-Some.ensures.cases.0 c.as_str.ensures c.in-Some-as_object_mut.ensures.value c.in-Some-get_mut.ensures.value (c.get_mut.follows.holds c.put_in.new.into) h)
    c.put_in.ensures

pub put_in-requires-2 : goal.put_in-requires-2
put_in-requires-2 t c = (first_of (search rules, grind (arith, common_steps)), free_made _ c.new.result c.new.ensures.empty)

pub returns : goal.returns
returns t c =
    on_ok c.put.result _ _
    (λ h. filled_made _ c.in-Some.name.now c.as_str-2.result.now c.in-Some.rest.now (view c.args.into.now) _ c.in-Some-as_object_mut.members.now c.get_mut.follows.lender-at-none c.put.new.map c.new.result c.put_in-2.new.into
    c.in-Some.ensures.cases.0 c.as_str-2.ensures c.in-Some-as_object_mut.ensures.value
    (not_here c.in-Some.name.now c.as_str.result.now (view c.args.into.now) c.in-Some-as_object_mut.members.now c.as_str.ensures c.in-Some-as_object_mut.ensures.value c.in_default-get_mut.ensures.value)
    c.get_mut.follows.holds-at-none c.new.ensures.empty c.in_ok-put_in.ensures h)
    c.put.ensures.ok
