use Rattle.std.proofs.Common.{sym, ◌∙◌, lit≤}
use Rattle.std.proofs.lemmas.Bool.{cond-true, cond-false}
use Rattle.listing_parts.proofs.NumberForms.{natural_unread, natural_read}
use Rattle.listing_parts.proofs.numbers.natural.Goals as goal

pub returns-in_default : goal.returns-in_default
returns-in_default c = natural_unread 32 _ c.in_default.field-0 (lit≤ tt) c.in_default.ensures.value.0

pub returns-then-is_count : goal.returns-then-is_count
returns-then-is_count c = sym (cond-true _ _ _ c.if-is_count.true) ∙ natural_read 32 _ c.in-Ok.number (lit≤ tt) c.in-Ok.ensures.value.0 _ _ c.from.ensures c.is_count.ensures

pub returns-else-is_count : goal.returns-else-is_count
returns-else-is_count c = sym (cond-false _ _ _ c.if-is_count.false) ∙ natural_read 32 _ c.in-Ok.number (lit≤ tt) c.in-Ok.ensures.value.0 _ _ c.from.ensures c.is_count.ensures
