-- Members that are built stand in the catalogue, and of the classes of which none is missing they are those that the prelude does not have.
use Rattle.std.proofs.Common.{arith, inl, inr, ◌≡◌, ℕ, Bool, true, false, not, Some, refl, sym, ap, ◌∙◌, slice_get, is_some}
use Rattle.std.proofs.lemmas.Bool.{both_ways, not-true}
use Rattle.std.proofs.lemmas.Option.{slice_get_cases}
use Rattle.allowlist.specs.declared.member.MemberType.{MemberType}
use Rattle.allowlist.specs.Allow.{is_in_prelude}
use Rattle.allowlist.specs.Catalogue.{catalogue}
use Rattle.allowlist.proofs.Tables.{length-catalogue}
use Rattle.container_calls.specs.Members.{container_ranges}
use Rattle.container_calls.proofs.Owners.{holds_of_all, holds_at, if_then, then_holds, same, same_is}
use Rattle.member_calls.specs.Laws.{is_whole_class}
use Rattle.member_calls.specs.Members.{is_built}
use Rattle.member_calls.proofs.Built.{built_range, of_built, past_all}

abbrev owned : ℕ → MemberType → Bool
owned n member = if_then (is_whole_class member.owner) (same (built_range n) (not (is_in_prelude member.origin)))

owners : holds_of_all owned ≡ true
unfolding catalogue container_ranges
owners = refl

pub built_owners : (number : ℕ) (member : MemberType) → slice_get catalogue number ≡ Some member → is_whole_class member.owner ≡ true → is_built number ≡ not (is_in_prelude member.origin)
built_owners number member h b =
    of_built number ∙ same_is (built_range number) (not (is_in_prelude member.origin)) (then_holds (is_whole_class member.owner) _ (holds_at owned number member owners h) b)

abbrev alone : ℕ → MemberType → Bool
alone n member = if_then (built_range n) (not (is_in_prelude member.origin))

all_alone : holds_of_all alone ≡ true
unfolding catalogue container_ranges
all_alone = refl

pub built_alone : (number : ℕ) (member : MemberType) → slice_get catalogue number ≡ Some member → is_built number ≡ true → is_in_prelude member.origin ≡ false
built_alone number member h b =
    not-true (is_in_prelude member.origin) (then_holds (built_range number) _ (holds_at alone number member all_alone h) (sym (of_built number) ∙ b))

pub built_stand : (number : ℕ) → is_built number ≡ true → is_some (slice_get catalogue number) ≡ true
built_stand number h = elim (slice_get_cases catalogue number).1 [
  | inl there ↦ ap is_some there.2
  | inr past ↦ absurd (both_ways (is_built number) (past_all number (omega (arith, length-catalogue, past.0))) h)
]
