use Rattle.member_calls.proofs.Built.{within, of_numbers, first_of_two, second_of_two}
use Rattle.member_calls.proofs.member.is_of_numbers.Goals as goal

pub returns-then-is_within : goal.returns-then-is_within
returns-then-is_within c =
    let n = c.args.member in
    first_of_two (within 0 3 n) (within 5 58 n) _ (of_numbers n) c.is_within.result c.is_within.ensures c.if-is_within.true

pub returns-else-is_within : goal.returns-else-is_within
returns-else-is_within c =
    let n = c.args.member in
    second_of_two (within 0 3 n) (within 5 58 n) _ (of_numbers n) c.is_within.result _ c.is_within.ensures c.if-is_within.false c.is_within-else-is_within.ensures
