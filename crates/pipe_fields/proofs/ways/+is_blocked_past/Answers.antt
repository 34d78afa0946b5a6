use Rattle.std.proofs.Common.{rules, arith, ◌∙◌}
use Rattle.std.proofs.lemmas.Grind.{common_steps}
use Rattle.pipe_fields.proofs.Past.{past_none, past_other, past_last, past_more, found_on, none_named, never_blocked_past}
use Rattle.pipe_fields.proofs.WayLemmas.{got_at, none_at, empty_of, some_of, same_texts, other_texts}
use Rattle.pipe_fields.proofs.ways.+is_blocked_past.Goals as goal

pub returns-in_default : goal.returns-in_default
returns-in_default t c = none_named _ _ c.in_default.ensures.cases

pub returns-in_default-split_first : goal.returns-in_default-split_first
returns-in_default-split_first t c = never_blocked_past _ _ c.args.field.now _ c.in_default-split_first.ensures.cases c.requires

pub returns-in_default-get : goal.returns-in_default-get
returns-in_default-get t c = past_none _ _ c.in-Some-split_first.name.now c.in-Some.next.now c.in-Some-split_first.more.now c.in-Some.rest.now _ c.in-Some-split_first.ensures.cases.0 c.in-Some.ensures.cases.0 c.requires (none_at _ _ _ c.as_str.ensures c.in_default-get.ensures)

pub returns-then-ne : goal.returns-then-ne
returns-then-ne t c =
    c.is_blocked.ensures
    ∙ past_other _ _ c.in-Some-split_first.name.now c.in-Some.next.now c.in-Some-split_first.more.now c.in-Some.rest.now _ _ c.in-Some-split_first.ensures.cases.0 c.in-Some.ensures.cases.0
    (other_texts c.ne.result c.as_str-2.result.now c.as_str-3.result.now c.in-Some.next.now c.in-Some-split_first.name.now c.as_str-2.ensures c.as_str-3.ensures c.ne.ensures c.if-ne.true) (got_at _ _ _ _ c.as_str.ensures c.in-Some-get.ensures)

pub is_blocked_past-requires : goal.is_blocked_past-requires
is_blocked_past-requires t c = (
  first_of (search rules, grind (arith, common_steps)),
  found_on _ c.in-Some-split_first.name.now c.in-Some.next.now c.in-Some-split_first.more.now _ _ c.in-Some-split_first.ensures.cases.0
      (same_texts c.ne.result c.as_str-2.result.now c.as_str-3.result.now c.in-Some.next.now c.in-Some-split_first.name.now c.as_str-2.ensures c.as_str-3.ensures c.ne.ensures c.if-ne.false)
      (some_of _ _ c.is_empty.ensures c.if-is_empty.false) (got_at _ _ _ _ c.as_str.ensures c.in-Some-get.ensures) c.requires,
)

pub returns-then-is_empty : goal.returns-then-is_empty
returns-then-is_empty t c =
    past_last _ _ c.in-Some-split_first.name.now c.in-Some.next.now c.in-Some-split_first.more.now c.in-Some.rest.now _ c.in-Some-split_first.ensures.cases.0 c.in-Some.ensures.cases.0
    (same_texts c.ne.result c.as_str-2.result.now c.as_str-3.result.now c.in-Some.next.now c.in-Some-split_first.name.now c.as_str-2.ensures c.as_str-3.ensures c.ne.ensures c.if-ne.false)
    (empty_of _ _ c.is_empty.ensures c.if-is_empty.true)

pub returns-else-is_empty : goal.returns-else-is_empty
returns-else-is_empty t c =
    past_more _ _ c.in-Some-split_first.name.now c.in-Some.next.now c.in-Some-split_first.more.now c.in-Some.rest.now _ _ _ c.in-Some-split_first.ensures.cases.0 c.in-Some.ensures.cases.0
    (same_texts c.ne.result c.as_str-2.result.now c.as_str-3.result.now c.in-Some.next.now c.in-Some-split_first.name.now c.as_str-2.ensures c.as_str-3.ensures c.ne.ensures c.if-ne.false)
    (some_of _ _ c.is_empty.ensures c.if-is_empty.false) (got_at _ _ _ _ c.as_str.ensures c.in-Some-get.ensures) c.is_blocked_past.ensures
