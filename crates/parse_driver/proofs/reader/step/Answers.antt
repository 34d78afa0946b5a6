use Rattle.std.proofs.Common.{◌≡◌, ◌+◌, ◌<◌, true, false, List, [], ◌∷◌, drop, sym, subst, arith}
use Rattle.pl_grammar.specs.Lexeme.{next}
use Rattle.pl_grammar.specs.Grammar.{Symbol, symbols}
use Rattle.pl_grammar.specs.Firsts.{first}
use Rattle.parse_tables.specs.declared.rule.Symbol as declared
use Rattle.parse_tables.specs.Names.{series_form, symbol_of, production_of}
use Rattle.parse_driver.specs.declared.control.Frame.TheVariants as fr
use Rattle.parse_driver.specs.Control.{RestComesTo, ComesTo, steps}
use Rattle.parse_driver.proofs.Frames.{rest_ends, rest_goes, on_top, reduced, after, after_waits, after_is, no_turn, no_more, joined_next, join_waits, one_more, joined}
use Rattle.parse_driver.proofs.Counts.{on_ok, symbol_less}
use Rattle.parse_driver.proofs.reader.step.Goals as goal

-- ---- the symbols of a rule

pub reduce-requires : goal.reduce-requires
reduce-requires g c =
    let none : drop c.in-Rest.at (symbols (production_of c.in-Rest.rule)) ≡ [] = rest_ends c.symbols.result.now (symbols (production_of c.in-Rest.rule)) c.in-Rest.at c.symbols.ensures.row c.in_default.ensures.lookup.3 in
    let r : ComesTo (fr.Rest c.in-Rest.rule c.in-Rest.at c.in-Rest.levels ∷ c.args.control.now) (g.S.Actions.values c.args.stack.now) c.args.tokens.now c.requires.0 = rw c.in-Rest.is at c.requires.1 in
    on_top (ComesTo c.args.control.now) (production_of c.in-Rest.rule) c.in-Rest.levels (drop c.in-Rest.at (symbols (production_of c.in-Rest.rule))) (g.S.Actions.values c.args.stack.now) c.args.tokens.now c.requires.0 r none

pub returns-in_default-clause-read : goal.returns-in_default-clause-read
returns-in_default-clause-read g c = λ whole comes.
    (let none : drop c.in-Rest.at (symbols (production_of c.in-Rest.rule)) ≡ [] = rest_ends c.symbols.result.now (symbols (production_of c.in-Rest.rule)) c.in-Rest.at c.symbols.ensures.row c.in_default.ensures.lookup.3 in
    let r : ComesTo (fr.Rest c.in-Rest.rule c.in-Rest.at c.in-Rest.levels ∷ c.args.control.now) (g.S.Actions.values c.args.stack.now) c.args.tokens.now whole = rw c.in-Rest.is at comes in
    reduced (ComesTo c.args.control.now) (production_of c.in-Rest.rule) c.in-Rest.levels (drop c.in-Rest.at (symbols (production_of c.in-Rest.rule))) (g.S.Actions.values c.args.stack.now) c.args.tokens.now whole r none (g.S.Actions.values c.reduce.new.self) c.in_ok-reduce-in-Rest.ensures)

pub returns-in_ok-push-in-Rest-clause-read : goal.returns-in_ok-push-in-Rest-clause-read
returns-in_ok-push-in-Rest-clause-read g c = λ whole comes.
    (let ss : List Symbol = symbols (production_of c.in-Rest.rule) in
    let goes : drop c.in-Rest.at ss ≡ symbol_of c.in-Some.symbol.now ∷ drop (c.in-Rest.at + 1) ss =
    subst (λ (s : declared.Symbol). drop c.in-Rest.at ss ≡ symbol_of s ∷ drop (c.in-Rest.at + 1) ss) (sym c.in-Some.ensures.lookup.1) (rest_goes c.symbols.result.now ss c.in-Rest.at c.in-Some.symbol.now c.symbols.ensures.row c.in-Some.ensures.lookup.3.0) in
    let here : ComesTo (fr.Rest c.in-Rest.rule c.in-Rest.at c.in-Rest.levels ∷ c.args.control.now) (g.S.Actions.values c.args.stack.now) c.args.tokens.now whole = rw c.in-Rest.is at comes in
    let r = subst (λ (rest : List Symbol). RestComesTo (ComesTo c.args.control.now) (production_of c.in-Rest.rule) c.in-Rest.levels rest (g.S.Actions.values c.args.stack.now) c.args.tokens.now whole) goes here in
    rw (after_is (ComesTo c.args.control.now) (production_of c.in-Rest.rule) c.in-Rest.levels (symbol_of c.in-Some.symbol.now) (drop (c.in-Rest.at + 1) ss) (g.S.Actions.values c.args.stack.now) c.args.tokens.now whole r)
    (c.read_symbol.ensures.read
    (after (ComesTo c.args.control.now) (production_of c.in-Rest.rule) c.in-Rest.levels (symbol_of c.in-Some.symbol.now) (drop (c.in-Rest.at + 1) ss) (g.S.Actions.values c.args.stack.now) c.args.tokens.now whole r)
    (λ tree us. rw c.in_ok-push-in-Rest.ensures (after_waits (ComesTo c.args.control.now) (production_of c.in-Rest.rule) c.in-Rest.levels (symbol_of c.in-Some.symbol.now) (drop (c.in-Rest.at + 1) ss) (g.S.Actions.values c.args.stack.now) c.args.tokens.now whole r tree us))))

pub returns-in_ok-push-in-Rest-clause-less : goal.returns-in_ok-push-in-Rest-clause-less
returns-in_ok-push-in-Rest-clause-less g c =
    let below : c.in-Rest.at < 6 = omega (arith, c.in-Some.ensures.lookup.3.0, c.symbols.ensures.short) in
    on_ok c.read_symbol.result
    (λ less most le. (
      (less most le).0,
      rw c.in-Rest.is (symbol_less most c.in-Rest.levels c.args.control.now c.in-Rest.rule c.in-Rest.at (steps most c.read_symbol.new.control) below (rw c.in_ok-push-in-Rest.ensures at (less most le).1)),
    ))
    c.read_symbol.ensures.less

-- ---- repeated phrases

pub returns-then-turns-eq0-clause-read : goal.returns-then-turns-eq0-clause-read
returns-then-turns-eq0-clause-read g c = λ whole comes.
    (let m : ComesTo (fr.More c.in-More.series c.in-More.turns c.in-More.levels ∷ c.args.control.now) (g.S.Actions.values c.args.stack.now) c.args.tokens.now whole = rw c.in-More.is at comes in
    no_turn (ComesTo c.args.control.now) (series_form c.in-More.series) c.in-More.turns c.in-More.levels (g.S.Actions.values c.args.stack.now) c.args.tokens.now whole m c.if-turns-eq0.true)

pub returns-then-not-first-clause-read : goal.returns-then-not-first-clause-read
returns-then-not-first-clause-read g c = λ whole comes.
    (let m : ComesTo (fr.More c.in-More.series c.in-More.turns c.in-More.levels ∷ c.args.control.now) (g.S.Actions.values c.args.stack.now) c.args.tokens.now whole = rw c.in-More.is at comes in
    let some : 0 < c.in-More.turns = omega (arith, c.if-turns-eq0.false) in
    let goes : first (series_form c.in-More.series) (next c.args.tokens.now) ≡ false = grind arith in
    no_more (ComesTo c.args.control.now) (series_form c.in-More.series) c.in-More.turns c.in-More.levels (g.S.Actions.values c.args.stack.now) c.args.tokens.now whole m some goes)

pub returns-in_ok-push-in-More-clause-read : goal.returns-in_ok-push-in-More-clause-read
returns-in_ok-push-in-More-clause-read g c = λ whole comes.
    (let m : ComesTo (fr.More c.in-More.series c.in-More.turns c.in-More.levels ∷ c.args.control.now) (g.S.Actions.values c.args.stack.now) c.args.tokens.now whole = rw c.in-More.is at comes in
    let some : 0 < c.in-More.turns = omega (arith, c.if-turns-eq0.false) in
    let goes : first (series_form c.in-More.series) (next c.args.tokens.now) ≡ true = grind arith in
    let begun = rw c.series_form-form.ensures at c.begin.ensures.read in
    rw (one_more (ComesTo c.args.control.now) (series_form c.in-More.series) c.in-More.turns c.in-More.levels (g.S.Actions.values c.args.stack.now) c.args.tokens.now whole m some goes)
    (begun (g.S.Actions.values c.args.stack.now)
    (joined_next (ComesTo c.args.control.now) (series_form c.in-More.series) c.in-More.turns c.in-More.levels (g.S.Actions.values c.args.stack.now) c.args.tokens.now whole m some)
    (λ tree us. rw c.in_ok-push-in-More.ensures (join_waits (ComesTo c.args.control.now) (series_form c.in-More.series) c.in-More.turns c.in-More.levels (g.S.Actions.values c.args.stack.now) c.args.tokens.now whole m some tree us))))

pub returns-in_ok-push-in-Join-clause-read : goal.returns-in_ok-push-in-Join-clause-read
returns-in_ok-push-in-Join-clause-read g c = λ whole comes.
    (let j : ComesTo (fr.Join c.in-Join.series c.in-Join.turns c.in-Join.levels ∷ c.args.control.now) (g.S.Actions.values c.args.stack.now) c.args.tokens.now whole = rw c.in-Join.is at comes in
    rw c.in_ok-push-in-Join.ensures (joined (ComesTo c.args.control.now) (series_form c.in-Join.series) c.in-Join.turns c.in-Join.levels (g.S.Actions.values c.args.stack.now) c.args.tokens.now whole j (g.S.Actions.values c.extend.new.self) c.in_ok-extend-in-Join.ensures))
