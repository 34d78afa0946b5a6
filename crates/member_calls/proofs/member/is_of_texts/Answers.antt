use Rattle.std.proofs.Common.{◌||◌, ap, sym, ◌∙◌}
use Rattle.member_calls.proofs.Built.{within, of_texts, first_of_two, second_of_two}
use Rattle.member_calls.proofs.member.is_of_texts.Goals as goal

pub returns-then-is_within : goal.returns-then-is_within
returns-then-is_within c =
    let n = c.args.member in
    first_of_two (within 3 5 n) (within 58 86 n || within 194 225 n) _ (of_texts n) c.is_within.result c.is_within.ensures c.if-is_within.true

pub returns-then-is_within-2 : goal.returns-then-is_within-2
returns-then-is_within-2 c =
    let n = c.args.member in
    first_of_two (within 58 86 n) (within 194 225 n) _ (of_texts n ∙ ap (λ z. z || (within 58 86 n || within 194 225 n)) (sym c.is_within.ensures ∙ c.if-is_within.false))
    c.is_within-else-is_within.result c.is_within-else-is_within.ensures c.if-is_within-2.true

pub returns-else-is_within-2 : goal.returns-else-is_within-2
returns-else-is_within-2 c =
    let n = c.args.member in
    second_of_two (within 58 86 n) (within 194 225 n) _ (of_texts n ∙ ap (λ z. z || (within 58 86 n || within 194 225 n)) (sym c.is_within.ensures ∙ c.if-is_within.false))
    c.is_within-else-is_within.result _ c.is_within-else-is_within.ensures c.if-is_within-2.false c.is_within-else-is_within-2.ensures
