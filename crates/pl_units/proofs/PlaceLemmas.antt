-- The first and the last place as functions are what the facts about them say.
use Rattle.std.proofs.Common.{◌≡◌, ℕ, zero, suc, ◌+◌, ◌<◌, ◌≤◌, inl, inr, Bool, true, false, List, length, take, drop, refl, ap, sym, ◌∙◌, arith}
use Rattle.std.specs.Prelude.{Option, Some, None, IfSome, IfNone, nat_le}
use Rattle.std.specs.Bool.{Decides}
use Rattle.std.specs.List.{find, range_with_len}
use Rattle.std.proofs.lemmas.Bool.{cases_eq, le-leb, leb-true, and_from, and_parts, cond-true, cond-false, false_from_ne_true}
use Rattle.std.proofs.lemmas.Slice.Eq.{bytes_eq-Decides}
use Rattle.pl_units.specs.Places.{StandsAt, IsFirstPlace, IsLastPlace, stands_at, down_from, first_place, last_place}

-- the first number of a range that passes a test
find_in_range : (p : ℕ → Bool) (n a k : ℕ) → p k ≡ true → a ≤ k → k < a + n → ((j : ℕ) → a ≤ j → j < k → p j ≡ false) → find p (range_with_len a n) ≡ Some k
find_in_range p zero a k passes low high fails = absurd (omega arith)
find_in_range p (suc n) a k passes low high fails = elim (cases_eq a k) [
  | inl same ↦ cond-true (p a) _ _ (ap p same ∙ passes) ∙ ap Some same
  | inr other ↦
      let below : a < k = omega arith in
      let within : k < a + 1 + n = omega arith in
      cond-false (p a) _ _ (fails a (omega arith) below) ∙ find_in_range p n (a + 1) k passes (omega arith) within (λ j l. fails j (omega arith))
]

find_no_range : (p : ℕ → Bool) (n a : ℕ) → ((j : ℕ) → a ≤ j → j < a + n → p j ≡ false) → find p (range_with_len a n) ≡ None
find_no_range p zero a fails = refl
find_no_range p (suc n) a fails =
    cond-false (p a) _ _ (fails a (omega arith) (omega arith)) ∙ find_no_range p n (a + 1) (λ j l h. fails j (omega arith) (omega arith))

-- the first number, from n down, that passes a test
find_down : (p : ℕ → Bool) (n k : ℕ) → p k ≡ true → k ≤ n → ((j : ℕ) → k < j → p j ≡ false) → find p (down_from n) ≡ Some k
find_down p zero k passes low fails =
    let same : 0 ≡ k = omega arith in
    cond-true (p 0) _ _ (ap p same ∙ passes) ∙ ap Some same
find_down p (suc n) k passes low fails = elim (cases_eq (suc n) k) [
  | inl same ↦ cond-true (p (suc n)) _ _ (ap p same ∙ passes) ∙ ap Some same
  | inr other ↦ cond-false (p (suc n)) _ _ (fails (suc n) (omega arith)) ∙ find_down p n k passes (omega arith) fails
]

find_no_down : (p : ℕ → Bool) (n : ℕ) → ((j : ℕ) → p j ≡ false) → find p (down_from n) ≡ None
find_no_down p zero fails = cond-false (p 0) _ _ (fails 0)
find_no_down p (suc n) fails = cond-false (p (suc n)) _ _ (fails (suc n)) ∙ find_no_down p n fails

stands : (text part : List ℕ) (place : ℕ) → StandsAt text part place → stands_at text part place ≡ true
stands text part place h = and_from _ _ (le-leb _ _ h.0) ((bytes_eq-Decides (take (length part) (drop place text)) part).1 h.1)

standing : (text part : List ℕ) (place : ℕ) → stands_at text part place ≡ true → StandsAt text part place
standing text part place passes =
    let both = and_parts _ _ passes in
    (leb-true _ _ both.0, (bytes_eq-Decides (take (length part) (drop place text)) part).0 both.1)

stands_not : (text part : List ℕ) (place : ℕ) → ¬ StandsAt text part place → stands_at text part place ≡ false
stands_not text part place fails =
    false_from_ne_true _ (λ passes. fails (standing text part place passes))

pub first_place_is : (text part : List ℕ) (from : ℕ) (r : Option ℕ) → IfSome r (IsFirstPlace text part from) → IfNone r ((place : ℕ) → from ≤ place → ¬ StandsAt text part place) → r ≡ first_place text part from
unfolding first_place
first_place_is text part from None found none =
    sym (find_no_range _ (suc (length text)) 0
    (λ j low high. false_from_ne_true _ (λ passes.
    let both = and_parts (nat_le from j) (stands_at text part j) passes in
    none j (leb-true _ _ both.0) (standing text part j both.1))))
first_place_is text part from (Some place) found none =
    sym (find_in_range _ (suc (length text)) 0 place
    (and_from _ _ (le-leb _ _ found.from_there) (stands text part place found.stands)) (omega arith) (omega (arith, found.stands.0))
    (λ j low before. false_from_ne_true _ (λ passes.
    let both = and_parts (nat_le from j) (stands_at text part j) passes in
    found.least j (leb-true _ _ both.0) before (standing text part j both.1))))

pub last_place_is : (text part : List ℕ) (r : Option ℕ) → IfSome r (IsLastPlace text part) → IfNone r ((place : ℕ) → ¬ StandsAt text part place) → r ≡ last_place text part
unfolding last_place
last_place_is text part None found none = sym (find_no_down (stands_at text part) (length text) (λ j. stands_not text part j (none j)))
last_place_is text part (Some place) found none =
    sym (find_down (stands_at text part) (length text) place (stands text part place found.stands) (omega (arith, found.stands.0)) (λ j later. stands_not text part j (found.greatest j later)))

pub stands_decides : (text part : List ℕ) (place : ℕ) → Decides (stands_at text part place) (StandsAt text part place)
stands_decides text part place = (standing text part place, stands text part place)
