use Rattle.codegen.proofs.Called.{not_beyond, other_text, named_so}
use Rattle.codegen.proofs.members.named_member.Goals as goal

pub returns-then-named-count-clause-total : goal.returns-then-named-count-clause-total
returns-then-named-count-clause-total c = λ member h. absurd (not_beyond c.member_count-count.result c.args.named.now.number member c.member_count-count.ensures.whole c.if-named-count.true h.is)

pub returns-in_err-same_text-clause-total : goal.returns-in_err-same_text-clause-total
returns-in_err-same_text-clause-total c = λ member h. absurd (other_text c.args.kind c.args.named.now member h _ c.in_ok-text.ensures c.in_err-same_text.ensures)

pub returns-clause-found : goal.returns-clause-found
returns-clause-found c = record {
  is = c.member_type-member.ensures;
  sort = c.in_ok-same_kind.ensures;
  text = named_so c.args.named.now.number c.member_type-member.result.now _ _ c.member_type-member.ensures c.in_ok-text.ensures c.in_ok-same_text.ensures;
}
