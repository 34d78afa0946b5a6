use Rattle.std.proofs.Common.{rules, Some, None, arith}
use Rattle.std.proofs.lemmas.Grind.{common_steps}
use Rattle.pl_grammar.specs.Lexeme.{mark, text}
use Rattle.pl_grammar.specs.Grammar.{token, optional}
use Rattle.pl_grammar.specs.Reading.{read_form}
use Rattle.parse_tables.specs.Names.{form_of, series_form}
use Rattle.parse_driver.specs.Control.{ComesTo}
use Rattle.parse_driver.proofs.Frames.{symbol_fails, symbol_read, some_is, none_is, none_fails, more_begins}
use Rattle.parse_driver.proofs.Counts.{token_shorter}
use Rattle.parse_driver.proofs.reader.read_symbol.Goals as goal

-- ---- tokens

pub returns-in_err-token-in-Sign-clause-read : goal.returns-in_err-token-in-Sign-clause-read
returns-in_err-token-in-Sign-clause-read g c =
    rw c.in-Sign.is
    (λ next waits. let e = symbol_fails (read_form c.args.levels) (token mark c.in-Sign.terminal) c.args.tokens.now next in first_of (search rules, grind (arith, common_steps)))

pub returns-in_err-token-in-Spelled-clause-read : goal.returns-in_err-token-in-Spelled-clause-read
returns-in_err-token-in-Spelled-clause-read g c =
    rw c.in-Spelled.is
    (λ next waits. let e = symbol_fails (read_form c.args.levels) (token text c.in-Spelled.terminal) c.args.tokens.now next in first_of (search rules, grind (arith, common_steps)))

pub returns-in_ok-push_token-in-Sign-clause-read : goal.returns-in_ok-push_token-in-Sign-clause-read
returns-in_ok-push_token-in-Sign-clause-read g c =
    rw c.in-Sign.is
    (λ next waits. symbol_read (read_form c.args.levels) (token mark c.in-Sign.terminal) c.args.tokens.now next c.args.control.now (g.S.Actions.values c.args.stack.now) (g.S.Actions.values c.push_token.new.self) c.expect.new.self c.in_ok-token-in-Sign.token waits c.in_ok-token-in-Sign.ensures c.in_ok-push_token-in-Sign.ensures)

pub returns-in_ok-push_token-in-Sign-clause-less : goal.returns-in_ok-push_token-in-Sign-clause-less
returns-in_ok-push_token-in-Sign-clause-less g c = λ most le. (omega (arith, le, token_shorter mark c.in-Sign.terminal c.args.tokens.now c.expect.new.self c.in_ok-token-in-Sign.token c.in_ok-token-in-Sign.ensures), omega arith)

pub returns-in_ok-push_spelled-in-Spelled-clause-read : goal.returns-in_ok-push_spelled-in-Spelled-clause-read
returns-in_ok-push_spelled-in-Spelled-clause-read g c =
    rw c.in-Spelled.is
    (λ next waits. symbol_read (read_form c.args.levels) (token text c.in-Spelled.terminal) c.args.tokens.now next c.args.control.now (g.S.Actions.values c.args.stack.now) (g.S.Actions.values c.push_spelled.new.self) c.expect_spelled.new.self c.in_ok-token-in-Spelled.token waits c.in_ok-token-in-Spelled.ensures c.in_ok-push_spelled-in-Spelled.ensures)

pub returns-in_ok-push_spelled-in-Spelled-clause-less : goal.returns-in_ok-push_spelled-in-Spelled-clause-less
returns-in_ok-push_spelled-in-Spelled-clause-less g c = λ most le. (omega (arith, le, token_shorter text c.in-Spelled.terminal c.args.tokens.now c.expect_spelled.new.self c.in_ok-token-in-Spelled.token c.in_ok-token-in-Spelled.ensures), omega arith)

-- ---- phrases

pub returns-in-Phrase-clause-read : goal.returns-in-Phrase-clause-read
returns-in-Phrase-clause-read g c = rw c.in-Phrase.is (λ next waits. c.begin.ensures.read (g.S.Actions.values c.args.stack.now) next waits)

pub returns-in_ok-push-in-Repeated-clause-read : goal.returns-in_ok-push-in-Repeated-clause-read
returns-in_ok-push-in-Repeated-clause-read g c =
    rw (c.in-Repeated.is, c.in_ok-push-in-Repeated.ensures)
    (λ next waits. more_begins (ComesTo c.args.control.now) (series_form c.in-Repeated.series) c.count.result c.args.levels (g.S.Actions.values c.args.stack.now) (g.S.Actions.values c.push_none.new.self) c.args.tokens.now next c.count.ensures c.in_ok-push_none-in-Repeated.ensures waits)

-- ---- a phrase that may be left out

pub returns-then-first-clause-read : goal.returns-then-first-clause-read
returns-then-first-clause-read g c =
    rw c.in-Optional.is
    (λ next waits. rw (some_is (read_form c.args.levels) (form_of c.in-Optional.form) c.args.tokens.now next (grind arith)) (c.begin-then-first.ensures.read (g.S.Actions.values c.args.stack.now) (λ tree us. next (Some tree) us) (λ tree us. waits (Some tree) us)))

pub returns-then-not-absent-clause-read : goal.returns-then-not-absent-clause-read
returns-then-not-absent-clause-read g c =
    rw c.in-Optional.is
    (λ next waits other. rw c.refuse.ensures (symbol_fails (read_form c.args.levels) (optional (form_of c.in-Optional.form)) c.args.tokens.now next _ (none_fails (read_form c.args.levels) (form_of c.in-Optional.form) c.args.tokens.now (grind arith) (grind arith))))

pub returns-in_ok-push_nothing-in-Optional-clause-read : goal.returns-in_ok-push_nothing-in-Optional-clause-read
returns-in_ok-push_nothing-in-Optional-clause-read g c =
    rw c.in-Optional.is
    (λ next waits. symbol_read (read_form c.args.levels) (optional (form_of c.in-Optional.form)) c.args.tokens.now next c.args.control.now (g.S.Actions.values c.args.stack.now) (g.S.Actions.values c.push_nothing.new.self) c.args.tokens.now None waits (none_is (read_form c.args.levels) (form_of c.in-Optional.form) c.args.tokens.now (grind arith) (grind arith)) c.in_ok-push_nothing-in-Optional.ensures)
