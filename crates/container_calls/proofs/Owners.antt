-- Members that are built stand in the catalogue, and the prelude has none of them.
use Rattle.std.proofs.Common.{arith, inl, inr, ◌≡◌, ◌<◌, ℕ, Bool, true, false, not, Option, Some, None, length, refl, sym, ap, ◌∙◌, slice_get, is_some, if◌then◌else◌}
use Rattle.std.proofs.lemmas.Bool.{agree_below, agree_below_at, both_ways, cond-true, not-true}
use Rattle.std.proofs.lemmas.Option.{slice_get_within, slice_get_cases}
use Rattle.allowlist.specs.declared.member.MemberType.{MemberType}
use Rattle.allowlist.specs.Allow.{is_in_prelude}
use Rattle.allowlist.specs.Catalogue.{catalogue}
use Rattle.allowlist.proofs.Tables.{length-catalogue}
use Rattle.container_calls.specs.Laws.{is_container_class, JoinIsNamed}
use Rattle.container_calls.specs.Members.{container_ranges, in_ranges, is_of_containers}
use Rattle.container_calls.proofs.Ranges.{no_container, of_containers}

-- ---- what holds of each row of the catalogue, by one test of them all

abbrev pub on_row : (MemberType → Bool) → Option MemberType → Bool
on_row holds None = true
on_row holds (Some member) = holds member

abbrev pub holds_of_all : (ℕ → MemberType → Bool) → Bool
holds_of_all holds = agree_below (λ n. on_row (holds n) (slice_get catalogue n)) (λ n. true) 228

pub holds_at : (holds : ℕ → MemberType → Bool) (number : ℕ) (member : MemberType) → holds_of_all holds ≡ true → slice_get catalogue number ≡ Some member → holds number member ≡ true
holds_at holds number member all h =
    let within : number < length catalogue = slice_get_within catalogue number member h in
    let small : number < 228 = omega (arith, length-catalogue, within) in
    sym (ap (on_row (holds number)) h) ∙ agree_below_at (λ n. on_row (holds n) (slice_get catalogue n)) (λ n. true) 228 number all small

-- where a test holds, another does
abbrev pub if_then : Bool → Bool → Bool
if_then a b = if a then b else true

pub then_holds : (a b : Bool) → if_then a b ≡ true → a ≡ true → b ≡ true
then_holds a b h e = sym (cond-true a b true e) ∙ h

-- ---- the classes

abbrev pub same : Bool → Bool → Bool
same true b = b
same false b = not b

pub same_is : (a b : Bool) → same a b ≡ true → a ≡ b
same_is true b h = sym h
same_is false b h = sym (not-true b h)

abbrev owned : ℕ → MemberType → Bool
owned n member = if_then (is_container_class member.owner) (same (in_ranges container_ranges n) (not (is_in_prelude member.origin)))

owners : holds_of_all owned ≡ true
unfolding catalogue container_ranges
owners = refl

pub built_owners : (number : ℕ) (member : MemberType) → slice_get catalogue number ≡ Some member → is_container_class member.owner ≡ true → is_of_containers number ≡ not (is_in_prelude member.origin)
built_owners number member h b =
    of_containers number ∙ same_is (in_ranges container_ranges number) (not (is_in_prelude member.origin)) (then_holds (is_container_class member.owner) _ (holds_at owned number member owners h) b)

abbrev alone : ℕ → MemberType → Bool
alone n member = if_then (in_ranges container_ranges n) (not (is_in_prelude member.origin))

all_alone : holds_of_all alone ≡ true
unfolding catalogue container_ranges
all_alone = refl

pub built_alone : (number : ℕ) (member : MemberType) → slice_get catalogue number ≡ Some member → is_of_containers number ≡ true → is_in_prelude member.origin ≡ false
built_alone number member h b =
    not-true (is_in_prelude member.origin) (then_holds (in_ranges container_ranges number) _ (holds_at alone number member all_alone h) (sym (of_containers number) ∙ b))

pub built_stand : (number : ℕ) → is_of_containers number ≡ true → is_some (slice_get catalogue number) ≡ true
built_stand number h = elim (slice_get_cases catalogue number).1 [
  | inl there ↦ ap is_some there.2
  | inr past ↦ absurd (both_ways (is_of_containers number) (no_container number (omega (arith, length-catalogue, past.0))) h)
]

-- ---- the member whose number a definition takes from the code

pub join_is_named : JoinIsNamed
unfolding catalogue
join_is_named = refl
