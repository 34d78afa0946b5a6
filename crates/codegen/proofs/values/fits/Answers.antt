use Rattle.std.proofs.Common.{sym, ◌∙◌}
use Rattle.std.proofs.lemmas.Result.{MatchResult-weaker}
use Rattle.allowlist.specs.declared.member.MemberKind.TheVariants as kinds
use Rattle.codegen.specs.Checks.{denoted}
use Rattle.codegen.specs.Worklist.{indexed, member_takes}
use Rattle.codegen.proofs.Called.{taken_at, refuses_at, refuses_behind, taken_before, refuses_before, refuses_past}
use Rattle.codegen.proofs.Parts.{taken_param, refuses_param, refuses_more}
use Rattle.codegen.proofs.values.fits.Goals as goal

pub returns-in-Some : goal.returns-in-Some
returns-in-Some c = rw c.in-As.is (MatchResult-weaker c.represented_as-in-Some.result c.represented_as-in-Some.ensures
    (λ _ d. taken_param c.in-As.params.now c.args.at c.in-Some.param.now _ (sym c.in-Some.ensures.value) (d ∙ c.representation_of.ensures))
    (λ _ d. refuses_param c.in-As.params.now c.args.at c.in-Some.param.now _ (sym c.in-Some.ensures.value) (λ e. d (e ∙ sym c.representation_of.ensures))))

pub returns-in-None : goal.returns-in-None
returns-in-None c = rw c.in-As.is (refuses_more c.in-As.params.now c.args.at _ (sym c.in-None.ensures.value))

pub returns-in-Some-parameter : goal.returns-in-Some-parameter
returns-in-Some-parameter c = rw c.in-Member.is (MatchResult-weaker c.represented_as-in-Some-parameter.result c.represented_as-in-Some-parameter.ensures
    (λ _ d. taken_at (member_takes c.in-Member.kind c.in-Member.params.now) c.args.at _ _ (sym c.in-Some-parameter.ensures) d)
    (λ _ d. refuses_at (member_takes c.in-Member.kind c.in-Member.params.now) c.args.at _ _ (sym c.in-Some-parameter.ensures) d))

pub returns-in-None-parameter : goal.returns-in-None-parameter
returns-in-None-parameter c = rw c.in-Member.is (refuses_behind (member_takes c.in-Member.kind c.in-Member.params.now) c.args.at _ (sym c.in-None-parameter.ensures))

pub returns-in-Some-indexed : goal.returns-in-Some-indexed
returns-in-Some-indexed c = rw c.in-Indexed.is (MatchResult-weaker c.represented_as-in-Some-indexed.result c.represented_as-in-Some-indexed.ensures
    (λ _ d. taken_at indexed c.args.at _ _ (sym c.in-Some-indexed.ensures) d)
    (λ _ d. refuses_at indexed c.args.at _ _ (sym c.in-Some-indexed.ensures) d))

pub returns-in-None-indexed : goal.returns-in-None-indexed
returns-in-None-indexed c = rw c.in-Indexed.is (refuses_behind indexed c.args.at _ (sym c.in-None-indexed.ensures))

pub returns-in-Some-parameter-2 : goal.returns-in-Some-parameter-2
returns-in-Some-parameter-2 c = rw c.in-Setter.is (MatchResult-weaker c.represented_as-in-Some-parameter-2.result c.represented_as-in-Some-parameter-2.ensures
    (λ _ d. taken_before (member_takes kinds.Instance c.in-Setter.params.now) c.args.at _ (denoted c.in-Setter.field-1) _ (sym c.in-Some-parameter-2.ensures) d)
    (λ _ d. refuses_before (member_takes kinds.Instance c.in-Setter.params.now) c.args.at _ (denoted c.in-Setter.field-1) _ (sym c.in-Some-parameter-2.ensures) d))

pub returns-in-None-parameter-2 : goal.returns-in-None-parameter-2
returns-in-None-parameter-2 c = rw c.in-Setter.is (refuses_past (member_takes kinds.Instance c.in-Setter.params.now) c.args.at _ (denoted c.in-Setter.field-1) (sym c.in-None-parameter-2.ensures))
