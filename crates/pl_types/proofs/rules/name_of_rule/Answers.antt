use Rattle.std.proofs.Common.{◌≡◌, ◌+◌, ◌-◌, ◌<◌, rules, arith}
use Rattle.pl_types.specs.Refusals.{rule_names, rule_name}
use Rattle.pl_types.proofs.Tables.{rule_here}
use Rattle.pl_types.proofs.rules.name_of_rule.Goals as goal

pub returns : goal.returns
unfolding rule_name rule_names
returns c =
    let place : (c.args.number - 1) + 1 ≡ c.args.number = omega (arith, c.requires.known) in
    let within : c.args.number - 1 < 34 = omega (arith, c.requires.known, c.requires.within) in
    search (rule_here, rules)
