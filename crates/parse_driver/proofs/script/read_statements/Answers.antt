use Rattle.std.proofs.Common.{rules, ◌≡◌, ◌-◌, ◌∷◌, length, Err, arith}
use Rattle.std.proofs.lemmas.Grind.{common_steps}
use Rattle.pl_grammar.specs.declared.stop.Stop.{Stop}
use Rattle.pl_grammar.specs.Grammar.{statement}
use Rattle.pl_grammar.specs.Reading.{read_form, read_repeated}
use Rattle.parse_driver.proofs.Tops.{statement_fails, others_fail, statements_read, statements_stand}
use Rattle.parse_driver.proofs.script.read_statements.Goals as goal

pub returns-in_err-read_phrase-clause-read : goal.returns-in_err-read_phrase-clause-read
returns-in_err-read_phrase-clause-read g c =
    let e = λ (e : Stop) (is : read_form (c.args.levels - 1) statement c.args.tokens.now ≡ Err e). statement_fails c.args.levels c.args.tokens.now c.requires.some e c.requires.ahead is in
    first_of (search rules, grind (arith, common_steps))

pub returns-in_err-read_series-clause-read : goal.returns-in_err-read_series-clause-read
returns-in_err-read_series-clause-read g c =
    let one = c.in_ok-read_phrase.ensures in
    let e = λ (e : Stop) (is : read_repeated (read_form (c.args.levels - 1)) (length c.read_phrase.new.tokens) statement c.read_phrase.new.tokens ≡ Err e). others_fail c.args.levels c.args.tokens.now c.requires.some one.0 c.read_phrase.new.tokens c.requires.ahead one.1 e is in
    first_of (search rules, grind (arith, common_steps))

pub take_statements-requires : goal.take_statements-requires
take_statements-requires g c =
    let one = c.in_ok-read_phrase.ensures in
    let others = c.in_ok-read_series.ensures in
    (one.0, others.0, g.S.Actions.values c.args.stack.now, statements_stand one.0 others.0 (g.S.Actions.values c.args.stack.now) (g.S.Actions.values c.read_phrase.new.stack) (g.S.Actions.values c.read_series.new.stack) one.2 others.2)

pub returns-clause-read : goal.returns-clause-read
returns-clause-read g c =
    let one = c.in_ok-read_phrase.ensures in
    let others = c.in_ok-read_series.ensures in
    let top = statements_stand one.0 others.0 (g.S.Actions.values c.args.stack.now) (g.S.Actions.values c.read_phrase.new.stack) (g.S.Actions.values c.read_series.new.stack) one.2 others.2 in (
      one.0 ∷ others.0,
      statements_read c.args.levels c.args.tokens.now c.requires.some one.0 c.read_phrase.new.tokens c.requires.ahead one.1 others.0 c.read_series.new.tokens others.1,
      rw c.requires.none at (c.in_ok-take_statements.ensures one.0 others.0 (g.S.Actions.values c.args.stack.now) top).1,
    )

pub returns-clause-kept : goal.returns-clause-kept
returns-clause-kept g c =
    let one = c.in_ok-read_phrase.ensures in
    let others = c.in_ok-read_series.ensures in
    let top = statements_stand one.0 others.0 (g.S.Actions.values c.args.stack.now) (g.S.Actions.values c.read_phrase.new.stack) (g.S.Actions.values c.read_series.new.stack) one.2 others.2 in
    (c.in_ok-take_statements.ensures one.0 others.0 (g.S.Actions.values c.args.stack.now) top).0
