use Rattle.std.proofs.Common.{sym, ◌∙◌, ap}
use Rattle.std.proofs.lemmas.Result.{err_from_is_err_and}
use Rattle.allowlist.specs.declared.member.MemberType.{MemberType}
use Rattle.compiler_relation.specs.Representation.{representation_of}
use Rattle.codegen.proofs.Called.{same_member}
use Rattle.codegen.proofs.members.called.Goals as goal

pub returns-clause-found : goal.returns-clause-found
returns-clause-found c = record { named = c.in_ok-member.ensures.found; gives = sym c.representation_of.ensures ∙ c.in_ok-alike.ensures ∙ c.representation_of-2.ensures }

pub returns-in_err-member-clause-total : goal.returns-in_err-member-clause-total
returns-in_err-member-clause-total c = λ member h.
    let p = err_from_is_err_and c.from_residual.result c.from_residual.ensures.1 in
    rw p.1 (p.2 ∙ c.in_err-member.ensures.total member h.named)

pub returns-in_err-alike-clause-total : goal.returns-in_err-alike-clause-total
returns-in_err-alike-clause-total c = λ member h.
    let same = same_member c.args.named.now.number member c.in_ok-member.member.now h.named.is c.in_ok-member.ensures.found.is in
    absurd (c.in_err-alike.ensures (c.representation_of.ensures ∙ h.gives ∙ sym (ap (λ (m : MemberType). representation_of m.result) same) ∙ sym c.representation_of-2.ensures))
