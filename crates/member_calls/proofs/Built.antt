-- Which numbers are those of members that are built: each table is tested whole, and past its end there is none.
use Rattle.std.proofs.Common.{arith, inl, inr, ◌≡◌, ◌≤◌, ◌-◌, ℕ, ◌&&◌, ◌||◌, Bool, true, false, nat_lt, nat_le, refl, sym, ap, ◌∙◌, is_some}
use Rattle.std.proofs.lemmas.Bool.{cond-false, agree_below, agree_below_at, both_ways, cases_lt, and_from, and_right, or_left, or_from, le-ltb}
use Rattle.std.proofs.lemmas.Option.{slice_get_past}
use Rattle.number_ops.specs.Members as numbers
use Rattle.api_text.specs.Members as texts
use Rattle.container_calls.specs.Members.{container_ranges, in_ranges, is_of_containers}
use Rattle.container_calls.proofs.Ranges.{no_container, of_containers}
use Rattle.member_calls.specs.Members.{is_of_numbers, is_of_texts, is_built}

abbrev pub within : ℕ → ℕ → ℕ → Bool
within from to n = nat_le from n && nat_lt n to

abbrev pub number_range : ℕ → Bool
number_range n = within 0 3 n || within 5 58 n

abbrev pub text_range : ℕ → Bool
text_range n = within 3 5 n || (within 58 86 n || within 194 225 n)

numbers_agree : agree_below is_of_numbers number_range 58 ≡ true
unfolding is_of_numbers numbers.numbered numbers.members
numbers_agree = refl

pub no_number : (n : ℕ) → 58 ≤ n → is_of_numbers n ≡ false
unfolding is_of_numbers numbers.numbered numbers.members
no_number n h = ap (λ found. is_some (numbers.member_in found)) (slice_get_past numbers.members n h)

pub of_numbers : (n : ℕ) → is_of_numbers n ≡ number_range n
of_numbers n = elim (cases_lt n 58) [
  | inl below ↦ agree_below_at is_of_numbers number_range 58 n numbers_agree below
  | inr past ↦ no_number n past ∙ sym (or_from _ _ (and_right (nat_le 0 n) _ (le-ltb n 3 (omega arith))) (and_right (nat_le 5 n) _ (le-ltb n 58 past)))
]

texts_agree : agree_below is_of_texts text_range 225 ≡ true
unfolding is_of_texts texts.numbered texts.of_sequences texts.of_texts texts.of_exceptions
texts_agree = refl

-- the three tables, past their ends
pub no_text : (n : ℕ) → 225 ≤ n → is_of_texts n ≡ false
unfolding is_of_texts texts.numbered texts.of_sequences texts.of_texts texts.of_exceptions
no_text n h =
    ap is_some
    (cond-false (nat_lt n 3) _ _ (le-ltb n 3 (omega arith)) ∙ cond-false (nat_lt n 58) _ _ (le-ltb n 58 (omega arith))
    ∙ cond-false (nat_lt n 194) _ _ (le-ltb n 194 (omega arith)) ∙ slice_get_past texts.of_exceptions (n - 194) (omega arith))

pub of_texts : (n : ℕ) → is_of_texts n ≡ text_range n
of_texts n = elim (cases_lt n 225) [
  | inl below ↦ agree_below_at is_of_texts text_range 225 n texts_agree below
  | inr past ↦
      no_text n past
      ∙ sym (or_from _ _ (and_right (nat_le 3 n) _ (le-ltb n 5 (omega arith))) (or_from _ _ (and_right (nat_le 58 n) _ (le-ltb n 86 (omega arith)))
      (and_right (nat_le 194 n) _ (le-ltb n 225 past))))
]

apart_below : agree_below (λ n. is_of_numbers n && is_of_texts n) (λ n. false) 58 ≡ true
unfolding is_of_numbers numbers.numbered numbers.members is_of_texts texts.numbered texts.of_sequences texts.of_texts texts.of_exceptions
apart_below = refl

-- no member is of both
pub apart : (n : ℕ) → is_of_numbers n ≡ true → is_of_texts n ≡ true → ⊥
apart n a b = elim (cases_lt n 58) [
  | inl below ↦ both_ways (is_of_numbers n && is_of_texts n) (agree_below_at (λ m. is_of_numbers m && is_of_texts m) (λ m. false) 58 n apart_below below) (and_from _ _ a b)
  | inr past ↦ both_ways (is_of_numbers n) (no_number n past) a
]

-- a test of two ranges, and of three, one after the other
pub first_of_two : (a b found : Bool) → found ≡ (a || b) → (x : Bool) → x ≡ a → x ≡ true → x ≡ found
first_of_two a b found whole x e t = t ∙ sym (whole ∙ or_left a b (sym e ∙ t))

pub second_of_two : (a b found : Bool) → found ≡ (a || b) → (x y : Bool) → x ≡ a → x ≡ false → y ≡ b → y ≡ found
second_of_two a b found whole x y e f g = g ∙ sym (whole ∙ ap (λ z. z || b) (sym e ∙ f))

abbrev pub built_range : ℕ → Bool
built_range n = (number_range n || text_range n) || in_ranges container_ranges n

pub of_built : (n : ℕ) → is_built n ≡ built_range n
unfolding is_built
of_built n =
    ap (λ a. (a || is_of_texts n) || is_of_containers n) (of_numbers n) ∙ ap (λ b. (number_range n || b) || is_of_containers n) (of_texts n)
    ∙ ap (λ c. (number_range n || text_range n) || c) (of_containers n)

pub past_all : (n : ℕ) → 226 ≤ n → is_built n ≡ false
unfolding is_built
past_all n h =
    or_from (is_of_numbers n || is_of_texts n) (is_of_containers n) (or_from (is_of_numbers n) (is_of_texts n) (no_number n (omega arith)) (no_text n (omega arith))) (no_container n h)
