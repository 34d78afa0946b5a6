use Rattle.std.proofs.Common.{rules, arith}
use Rattle.std.proofs.lemmas.Grind.{common_steps}
use Rattle.serde_json.specs.View.{view}
use Rattle.pipe_fields.proofs.WayLemmas.{find_unnamed, without_unnamed, nothing_in, never, taken_here, left_here, found_here, not_here, some_below, taken_below, left_below, none_below, empty_of, some_of}
use Rattle.pipe_fields.proofs.ways.+take_out.Goals as goal

pub returns-in_default-clause-taken : goal.returns-in_default-clause-taken
returns-in_default-clause-taken t c = find_unnamed _ _ c.in_default.ensures.cases

pub returns-in_default-clause-left : goal.returns-in_default-clause-left
returns-in_default-clause-left t c = without_unnamed _ _ c.in_default.ensures.cases

pub returns-in_default-as_object_mut-clause-taken : goal.returns-in_default-as_object_mut-clause-taken
returns-in_default-as_object_mut-clause-taken t c = nothing_in _ c.in-Some.name.now c.in-Some.rest.now _ c.in-Some.ensures.cases.0 c.in_default-as_object_mut.ensures.value

pub returns-in_default-as_object_mut-clause-left : goal.returns-in_default-as_object_mut-clause-left
returns-in_default-as_object_mut-clause-left t c =
    never _ _ (view c.args.from.now) c.args.names.now c.requires (nothing_in c.args.names.now c.in-Some.name.now c.in-Some.rest.now (view c.args.from.now) c.in-Some.ensures.cases.0 c.in_default-as_object_mut.ensures.value)

pub returns-then-is_empty-clause-taken : goal.returns-then-is_empty-clause-taken
returns-then-is_empty-clause-taken t c =
    taken_here _ c.in-Some.name.now c.as_str.result.now c.in-Some.rest.now _ c.in-Some-as_object_mut.members.now _ c.in-Some.ensures.cases.0 c.as_str.ensures (empty_of _ _ c.is_empty.ensures c.if-is_empty.true)
    c.in-Some-as_object_mut.ensures.value c.remove.ensures.value

pub returns-then-is_empty-clause-left : goal.returns-then-is_empty-clause-left
returns-then-is_empty-clause-left t c =
    left_here _ c.in-Some.name.now c.as_str.result.now c.in-Some.rest.now _ c.in-Some-as_object_mut.members.now c.remove.new.self c.in-Some.ensures.cases.0 c.as_str.ensures (empty_of _ _ c.is_empty.ensures c.if-is_empty.true)
    c.in-Some-as_object_mut.ensures.value c.remove.ensures.entries c.remove.ensures.updates.1

pub take_out-requires : goal.take_out-requires
take_out-requires t c = (
  first_of (search rules, grind (arith, common_steps)),
  some_below _ c.in-Some.name.now c.in-Some.rest.now (view c.args.from.now) _ c.in-Some.ensures.cases.0 (some_of _ _ c.is_empty.ensures c.if-is_empty.false)
      (found_here c.in-Some.name.now c.as_str-2.result.now (view c.args.from.now) c.in-Some-as_object_mut.members.now c.in-Some-get_mut.inner.now c.as_str-2.ensures c.in-Some-as_object_mut.ensures.value c.in-Some-get_mut.ensures.value) c.requires,
)

pub returns-in-Some-get_mut-clause-taken : goal.returns-in-Some-get_mut-clause-taken
returns-in-Some-get_mut-clause-taken t c =
    taken_below _ c.in-Some.name.now c.in-Some.rest.now (view c.args.from.now) (view c.in-Some-get_mut.inner.now) _ c.in-Some.ensures.cases.0 (some_of _ _ c.is_empty.ensures c.if-is_empty.false)
    (found_here c.in-Some.name.now c.as_str-2.result.now (view c.args.from.now) c.in-Some-as_object_mut.members.now c.in-Some-get_mut.inner.now c.as_str-2.ensures c.in-Some-as_object_mut.ensures.value c.in-Some-get_mut.ensures.value)
    c.take_out.ensures.taken

pub returns-in-Some-get_mut-clause-left : goal.returns-in-Some-get_mut-clause-left
returns-in-Some-get_mut-clause-left t c =
    left_below _ c.in-Some.name.now c.as_str-2.result.now c.in-Some.rest.now (view c.args.from.now) c.in-Some-as_object_mut.members.now (c.get_mut.follows.lender c.take_out.new.from) c.in-Some-get_mut.inner.now c.take_out.new.from
    c.in-Some.ensures.cases.0 c.as_str-2.ensures (some_of _ _ c.is_empty.ensures c.if-is_empty.false) c.in-Some-as_object_mut.ensures.value c.in-Some-get_mut.ensures.value (c.get_mut.follows.holds c.take_out.new.from)
    c.take_out.ensures.left

pub returns-in-None-clause-taken : goal.returns-in-None-clause-taken
returns-in-None-clause-taken t c =
    none_below c.args.names.now c.in-Some.name.now c.in-Some.rest.now (view c.args.from.now) c.in-Some.ensures.cases.0
    (not_here c.in-Some.name.now c.as_str-2.result.now (view c.args.from.now) c.in-Some-as_object_mut.members.now c.as_str-2.ensures c.in-Some-as_object_mut.ensures.value c.in-None.ensures.value)

pub returns-in-None-clause-left : goal.returns-in-None-clause-left
returns-in-None-clause-left t c =
    never _ _ (view c.args.from.now) c.args.names.now c.requires
    (none_below c.args.names.now c.in-Some.name.now c.in-Some.rest.now (view c.args.from.now) c.in-Some.ensures.cases.0
    (not_here c.in-Some.name.now c.as_str-2.result.now (view c.args.from.now) c.in-Some-as_object_mut.members.now c.as_str-2.ensures c.in-Some-as_object_mut.ensures.value c.in-None.ensures.value))
