use Rattle.std.proofs.Common.{rules, ◌≡◌, ◌-◌, true, false, Err, refl, ◌∙◌, arith}
use Rattle.std.proofs.lemmas.Grind.{common_steps}
use Rattle.pl_grammar.specs.declared.stop.Stop.{Stop}
use Rattle.pl_grammar.specs.declared.ahead.Seen.TheVariants as s
use Rattle.pl_grammar.specs.Lexeme.{next}
use Rattle.pl_grammar.specs.Ahead.{seen}
use Rattle.pl_grammar.specs.Grammar.{top, function}
use Rattle.pl_grammar.specs.Firsts.{first}
use Rattle.pl_grammar.specs.Reading.{function_ahead, read_form}
use Rattle.parse_driver.proofs.Tops.{function_fails, top_starts, top_fails, top_statements, top_last, top_more, top_deep}
use Rattle.parse_driver.proofs.script.read_top.Goals as goal

pub loop-used-init : goal.loop-used-init
loop-used-init g c = (top_starts c.args.levels 0 c.args.script.now c.args.tokens.now refl c.requires, refl)

pub returns-then-not-is_function_ahead-clause-read : goal.returns-then-not-is_function_ahead-clause-read
returns-then-not-is_function_ahead-clause-read g c = top_statements (read_form c.args.levels top c.args.tokens.now) c.args.levels c.loop-used.used c.loop-used.script c.loop-used.tokens c.loop-used.invariant.0 c.read_statements.result c.read_statements.new.script c.read_statements.new.tokens c.read_statements.ensures.read

pub returns-in_err-read_phrase-clause-read : goal.returns-in_err-read_phrase-clause-read
returns-in_err-read_phrase-clause-read g c =
    let ahead : function_ahead (next c.loop-used.tokens) (seen s.Start c.loop-used.tokens) ≡ true = grind arith in
    let e = λ (e : Stop) (is : read_form (c.args.levels - c.loop-used.used - 1) function c.loop-used.tokens ≡ Err e). top_fails (read_form c.args.levels top c.args.tokens.now) c.args.levels c.loop-used.used c.loop-used.script c.loop-used.tokens c.loop-used.invariant.0 e (function_fails (c.args.levels - c.loop-used.used) c.loop-used.tokens (omega (arith, c.loop-used-test.true)) e ahead is) in
    first_of (search rules, grind (arith, common_steps))

pub take_function-requires : goal.take_function-requires
take_function-requires g c = (c.in_ok-read_phrase.ensures.0, g.S.Actions.values c.loop-used.stack, c.in_ok-read_phrase.ensures.2)

pub returns-then-not-first-clause-read : goal.returns-then-not-first-clause-read
returns-then-not-first-clause-read g c =
    let ahead : function_ahead (next c.loop-used.tokens) (seen s.Start c.loop-used.tokens) ≡ true = grind arith in
    let stops : first top (next c.read_phrase.new.tokens) ≡ false = grind arith in
    let read = c.in_ok-read_phrase.ensures in
    top_last (read_form c.args.levels top c.args.tokens.now) c.args.levels c.loop-used.used c.loop-used.script c.loop-used.tokens c.loop-used.invariant.0 read.0 c.take_function.new.script c.read_phrase.new.tokens c.loop-used-test.true ahead read.1 (c.in_ok-take_function.ensures read.0 (g.S.Actions.values c.loop-used.stack) read.2).1 stops

pub returns-then-not-first-clause-kept : goal.returns-then-not-first-clause-kept
returns-then-not-first-clause-kept g c =
    let read = c.in_ok-read_phrase.ensures in
    (c.in_ok-take_function.ensures read.0 (g.S.Actions.values c.loop-used.stack) read.2).0 ∙ c.loop-used.invariant.1

pub loop-used-preserved : goal.loop-used-preserved
loop-used-preserved g c =
    let ahead : function_ahead (next c.loop-used.tokens) (seen s.Start c.loop-used.tokens) ≡ true = grind arith in
    let goes : first top (next c.read_phrase.new.tokens) ≡ true = grind arith in
    let read = c.in_ok-read_phrase.ensures in
    let taken = c.in_ok-take_function.ensures read.0 (g.S.Actions.values c.loop-used.stack) read.2 in
    (top_more (read_form c.args.levels top c.args.tokens.now) c.args.levels c.loop-used.used c.loop-used.script c.loop-used.tokens c.loop-used.invariant.0 read.0 c.take_function.new.script c.read_phrase.new.tokens c.loop-used-test.true ahead read.1 taken.1 goes, taken.0 ∙ c.loop-used.invariant.1)

pub returns-clause-read : goal.returns-clause-read
returns-clause-read g c = λ other. top_deep (read_form c.args.levels top c.args.tokens.now) c.args.levels c.loop-used.used c.loop-used.script c.loop-used.tokens c.loop-used.invariant.0 c.loop-used-test.false
