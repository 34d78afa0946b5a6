-- The tokens' answer, and then that of the grammar.
use Rattle.std.proofs.Common.{List, subst, sym}
use Rattle.std.proofs.lemmas.Result.{err_from_is_err_and}
use Rattle.pl_parser.specs.pl_lexer_declared.token.Token.{Token}
use Rattle.pl_parser.specs.Tokens.{Lexes}
use Rattle.pl_parser.specs.Lexeme.{AllLieIn}
use Rattle.static_types.specs.Allow.{class_named_of}
use Rattle.script_engine.specs.Programs.{TypesTokens}
use Rattle.script_engine.proofs.Placed.{spelled_lie_in}
use Rattle.script_engine.proofs.Stages.{Stage, then_given, then_failed}
use Rattle.script_engine.proofs.compiling.program_of.Goals as goal

pub returns-in_err-tokens-clause-exact : goal.returns-in_err-tokens-clause-exact
returns-in_err-tokens-clause-exact c =
    let p = err_from_is_err_and c.from_residual.result c.from_residual.ensures.1 in
    rw (p.1, p.2) (then_failed (λ (tokens : List Token). tokens) (λ e. e) (Lexes c.args.text.now (class_named_of c.args.allow.now)) (TypesTokens c.args.allow.now c.args.context.now c.args.text.now) c.in_err-tokens.field-0.0
    (record { exact = c.in_err-tokens.ensures.exact; only = c.in_err-tokens.ensures.only })).exact

pub program_of_tokens-requires-clause-placed : goal.program_of_tokens-requires-clause-placed
program_of_tokens-requires-clause-placed c =
    subst (λ (ts : List Token). AllLieIn c.args.text.now ts) (sym c.as_slice.ensures.value) (spelled_lie_in c.args.text.now 0 c.in_ok-tokens.tokens.items c.in_ok-tokens.ensures.spelled)

pub returns-clause-exact : goal.returns-clause-exact
returns-clause-exact c =
    (then_given (λ e. e) c.program_of_tokens.result (Lexes c.args.text.now (class_named_of c.args.allow.now)) (TypesTokens c.args.allow.now c.args.context.now c.args.text.now) c.in_ok-tokens.tokens.items
    c.in_ok-tokens.ensures.exact c.in_ok-tokens.ensures.only
    (subst (λ (ts : List Token). Stage (λ e. e) c.program_of_tokens.result (TypesTokens c.args.allow.now c.args.context.now c.args.text.now ts)) c.as_slice.ensures.value (record { exact = c.program_of_tokens.ensures.exact; only = c.program_of_tokens.ensures.only }))).exact
