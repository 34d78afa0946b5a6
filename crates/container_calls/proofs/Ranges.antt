-- Which numbers are those of members that are built: the ranges are tested whole, and past their end there is none.
use Rattle.std.proofs.Common.{arith, inl, inr, ◌≡◌, ◌≤◌, ◌<◌, ℕ, ◌==◌, List, [], ◌∷◌, ◌&&◌, Bool, true, false, nat_lt, nat_le, refl, sym, ap, ◌∙◌, is_some}
use Rattle.std.proofs.lemmas.Bool.{cond-false, agree_below, agree_below_at, and_parts, and_right, cases_lt, le-ltb, leb-true, ne_eqb}
use Rattle.api_iter.specs.Members as iterables
use Rattle.api_list.specs.Members as lists
use Rattle.api_map.specs.Members as maps
use Rattle.container_calls.specs.declared.family.Family.{Family}
use Rattle.container_calls.specs.declared.family.Family.TheVariants.{Iterables}
use Rattle.container_calls.specs.Members.{container_ranges, family_of, has, in_ranges, is_of_containers, within}

-- whether all ranges end before a number
abbrev all_end : List (ℕ × ℕ) → ℕ → Bool
all_end [] most = true
all_end (range ∷ ranges) most = nat_le range.1 most && all_end ranges most

containers_agree : agree_below is_of_containers (in_ranges container_ranges) 226 ≡ true
unfolding is_of_containers container_ranges iterables.numbered lists.numbered lists.of_lists lists.of_makers maps.numbered maps.of_collections maps.of_maps maps.of_entries
containers_agree = refl

other : (n k : ℕ) → k < 226 → 226 ≤ n → (n == k) ≡ false
other n k h past = ne_eqb n k (λ same. omega (arith, same))

no_iterable : (n : ℕ) → 226 ≤ n → is_some (iterables.numbered n) ≡ false
unfolding iterables.numbered
no_iterable n h =
    ap is_some
    (cond-false (n == 86) _ _ (other n 86 (omega arith) h) ∙ cond-false (n == 96) _ _ (other n 96 (omega arith) h) ∙ cond-false (n == 166) _ _ (other n 166 (omega arith) h)
    ∙ cond-false (n == 167) _ _ (other n 167 (omega arith) h) ∙ cond-false (n == 168) _ _ (other n 168 (omega arith) h) ∙ cond-false (n == 225) _ _ (other n 225 (omega arith) h))

past : (n k : ℕ) → k ≤ 226 → 226 ≤ n → nat_lt n k ≡ false
past n k h most = le-ltb n k (omega arith)

family_past : (on_list : Bool) (n : ℕ) → 226 ≤ n → family_of on_list n ≡ Iterables
family_past on_list n h =
    cond-false (nat_lt n 97) _ _ (past n 97 (omega arith) h) ∙ cond-false (nat_lt n 107) _ _ (past n 107 (omega arith) h) ∙ cond-false (nat_lt n 125) _ _ (past n 125 (omega arith) h)
    ∙ cond-false (nat_lt n 166) _ _ (past n 166 (omega arith) h) ∙ cond-false (nat_lt n 169) _ _ (past n 169 (omega arith) h) ∙ cond-false (nat_lt n 178) _ _ (past n 178 (omega arith) h)

pub no_container : (n : ℕ) → 226 ≤ n → is_of_containers n ≡ false
unfolding is_of_containers
no_container n h =
    ap (λ (f : Family). has f n && has (family_of false n) n) (family_past true n h) ∙ ap (λ b. b && has (family_of false n) n) (no_iterable n h)

no_range : (ranges : List (ℕ × ℕ)) (n : ℕ) → all_end ranges 226 ≡ true → 226 ≤ n → in_ranges ranges n ≡ false
no_range [] n e h = refl
no_range (range ∷ ranges) n e h =
    let both = and_parts (nat_le range.1 226) (all_end ranges 226) e in
    let most : range.1 ≤ 226 = leb-true range.1 226 both.0 in
    cond-false (within range.0 range.1 n) true (in_ranges ranges n) (and_right (nat_le range.0 n) _ (le-ltb n range.1 (omega (arith, most))))
    ∙ no_range ranges n both.1 h

container_ranges_end : all_end container_ranges 226 ≡ true
unfolding container_ranges
container_ranges_end = refl

pub of_containers : (n : ℕ) → is_of_containers n ≡ in_ranges container_ranges n
of_containers n = elim (cases_lt n 226) [
  | inl below ↦ agree_below_at is_of_containers (in_ranges container_ranges) 226 n containers_agree below
  | inr past ↦ no_container n past ∙ sym (no_range container_ranges n container_ranges_end past)
]
