use Rattle.std.proofs.Common.{◌≡◌, true, ◌∙◌, sym, take}
use Rattle.pl_grammar.specs.Ahead as spec
use Rattle.pl_grammar.specs.Lexeme.{lexemes}
use Rattle.pl_grammar.proofs.Lexemes.{look_more, look_end}
use Rattle.pl_grammar.proofs.ahead.look.Goals as goal

pub returns-then-is_final : goal.returns-then-is_final
returns-then-is_final c = λ text.
    (let told : spec.is_final (spec.seen c.args.from (lexemes text (take c.loop-token.token-index c.args.tokens.now))) ≡ true = rw (c.loop-token.invariant text) (sym c.is_final.ensures ∙ c.if-is_final.true) in
    sym (c.loop-token.invariant text) ∙ look_end text c.args.from c.args.tokens.now c.loop-token.token-index told)

pub loop-token-preserved : goal.loop-token-preserved
loop-token-preserved c = λ text. rw (c.sees-state.ensures, c.terminal_of.ensures, ← c.loop-token.invariant text) (look_more text _ _ _ _ c.loop-token-test.true)
