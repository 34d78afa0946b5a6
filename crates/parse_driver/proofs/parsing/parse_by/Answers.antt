use Rattle.std.proofs.Common.{rules, ◌≡◌, ◌+◌, ◌*◌, length, None, arith}
use Rattle.std.proofs.lemmas.Grind.{common_steps}
use Rattle.pl_grammar.specs.Lexeme.{lexemes}
use Rattle.pl_nesting.specs.Nesting.{nesting_fault}
use Rattle.parse_driver.proofs.Answered.{enough, deep, stop_of, within, refused_at, only_stop}
use Rattle.parse_driver.proofs.parsing.parse_by.Goals as goal

pub unreachable-requires : goal.unreachable-requires
unreachable-requires g c = deep (32 * length c.args.tokens.now + 31) (lexemes c.args.text.now c.args.tokens.now) c.new-cursor.result c.in-Err.stop (enough c.args.text.now c.args.tokens.now) c.new-cursor.ensures c.in-TooDeep.is c.in-Err.ensures.read c.grammar_laws.ensures.ends

pub place-requires-clause-within : goal.place-requires-clause-within
place-requires-clause-within g c = within c.args.text.now c.args.tokens.now c.in-Unexpected.left (stop_of (32 * length c.args.tokens.now + 31) (lexemes c.args.text.now c.args.tokens.now) c.new-cursor.result c.in-Err.stop c.in-Unexpected.left c.new-cursor.ensures c.in-Unexpected.is c.in-Err.ensures.read c.grammar_laws.ensures.exact)

pub returns-clause-exact : goal.returns-clause-exact
returns-clause-exact g c =
    let none : nesting_fault c.args.tokens.now ≡ None = first_of (search rules, grind (arith, common_steps)) in
    let stop = stop_of (32 * length c.args.tokens.now + 31) (lexemes c.args.text.now c.args.tokens.now) c.new-cursor.result c.in-Err.stop c.in-Unexpected.left c.new-cursor.ensures c.in-Unexpected.is c.in-Err.ensures.read c.grammar_laws.ensures.exact in
    refused_at c.args.text.now c.args.tokens.now c.place.result stop.0 none stop.1 (c.place.ensures stop.1.front stop.0 stop.1.whole stop.2)

pub returns-clause-only : goal.returns-clause-only
returns-clause-only g c =
    let none : nesting_fault c.args.tokens.now ≡ None = first_of (search rules, grind (arith, common_steps)) in
    let stop = stop_of (32 * length c.args.tokens.now + 31) (lexemes c.args.text.now c.args.tokens.now) c.new-cursor.result c.in-Err.stop c.in-Unexpected.left c.new-cursor.ensures c.in-Unexpected.is c.in-Err.ensures.read c.grammar_laws.ensures.exact in
    only_stop c.args.text.now c.args.tokens.now c.place.result stop.0 none stop.1 (c.place.ensures stop.1.front stop.0 stop.1.whole stop.2) c.grammar_laws.ensures.unique
