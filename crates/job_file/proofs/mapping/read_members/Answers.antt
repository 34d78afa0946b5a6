use Rattle.std.proofs.Common.{◌<◌, ◌≤◌, Some, length, sym, ap, ◌∙◌, arith, rules}
use Rattle.job_file.proofs.Mappings.{bad_if_many, bad_if_few}
use Rattle.job_file.proofs.mapping.read_members.Goals as goal

pub returns-then-len-gt-FIELD_COUNT-clause-bad : goal.returns-then-len-gt-FIELD_COUNT-clause-bad
returns-then-len-gt-FIELD_COUNT-clause-bad c =
    let many : 1000 < length c.args.members.now.entries = omega (arith, c.len.ensures.len, c.if-len-gt-FIELD_COUNT.true) in
    bad_if_many c.args.members.now.entries many ∙ ap Some (sym c.new.ensures.bytes)

pub returns-in_ok-from_str-in-Some-clause-bad : goal.returns-in_ok-from_str-in-Some-clause-bad
returns-in_ok-from_str-in-Some-clause-bad c =
    let few : length c.args.members.now.entries ≤ 1000 = omega (arith, c.len.ensures.len, c.if-len-gt-FIELD_COUNT.false) in
    bad_if_few c.args.members.now.entries few ∙ search rules

pub returns-in_ok-fields_of-in-None-clause-good : goal.returns-in_ok-fields_of-in-None-clause-good
returns-in_ok-fields_of-in-None-clause-good c =
    let few : length c.args.members.now.entries ≤ 1000 = omega (arith, c.len.ensures.len, c.if-len-gt-FIELD_COUNT.false) in
    bad_if_few c.args.members.now.entries few ∙ search rules
