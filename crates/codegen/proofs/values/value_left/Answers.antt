use Rattle.std.proofs.Common.{sym, ◌∙◌}
use Rattle.std.proofs.lemmas.Result.{MatchResult-weaker}
use Rattle.codegen.specs.Checks.{denoted}
use Rattle.codegen.proofs.Called.{value_is_left, value_is_other, no_value_left, others_left}
use Rattle.codegen.proofs.values.value_left.Goals as goal

pub returns-in_default : goal.returns-in_default
returns-in_default c = no_value_left c.args.params.now c.args.at (denoted c.args.value) (sym c.in_default.ensures)

pub returns-then-len-at : goal.returns-then-len-at
returns-then-len-at c = others_left c.args.params.now c.args.at (denoted c.args.value) (λ e. c.if-len-at.true (c.len.ensures ∙ e))

pub returns : goal.returns
returns c = MatchResult-weaker c.alike.result c.alike.ensures
    (λ _ d. value_is_left c.args.params.now c.args.at (denoted c.in-Some.last) (denoted c.args.value) (sym c.in-Some.ensures) (sym c.len.ensures ∙ c.if-len-at.false) d)
    (λ _ d. value_is_other c.args.params.now c.args.at (denoted c.in-Some.last) (denoted c.args.value) (sym c.in-Some.ensures) d)
