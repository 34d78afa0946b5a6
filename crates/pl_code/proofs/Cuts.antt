-- The lines of a text.
use Rattle.std.proofs.Common.{◌≡◌, ℕ, suc, Bool, true, false, not, cond, List, [], ◌∷◌, ◌++◌, length, take, get_or, Some, None, refl, sym, subst, ap, ◌∙◌, arith, inl, inr}
use Rattle.std.specs.Prelude.{nat_lt, ◌==◌}
use Rattle.std.specs.List.{list_all, list_any, prefix_len, position_or_len, before_first, after_first}
use Rattle.std.proofs.lemmas.Bool.{and_parts, and_from, or_right, or_from, ltb-true, ltb-false, eqb-true, cond-true, cond-false, cases_Bool}
use Rattle.std.proofs.lemmas.Option.{none-some, cond_some}
use Rattle.std.proofs.lemmas.List.{take_all}
use Rattle.std.proofs.lemmas.List.Sums.{split_at_first, passes_at_first}
use Rattle.listing_parts.proofs.Unbroken.{other_than_newline}
use Rattle.pl_code.specs.Reading.{is_newline, first_ended, ended_of, before_ended, behind_of}

abbrev pub HasNone : List ℕ → Type 0
HasNone s = list_all other_than_newline s ≡ true

front_unbroken : (s : List ℕ) → HasNone (take (prefix_len other_than_newline s) s)
front_unbroken [] = refl
front_unbroken (x ∷ xs) = elim (cases_Bool (other_than_newline x)) [
  | inl is ↦ (let n : prefix_len other_than_newline (x ∷ xs) ≡ suc (prefix_len other_than_newline xs) = cond-true _ _ _ is ∙ omega arith in
      subst (λ k. HasNone (take k (x ∷ xs))) (sym n) (and_from (other_than_newline x) _ is (front_unbroken xs)))
  | inr isnt ↦ (let n : prefix_len other_than_newline (x ∷ xs) ≡ 0 = cond-false _ _ _ isnt in
      subst (λ k. HasNone (take k (x ∷ xs))) (sym n) refl)
]

pub record Cut (s a b : List ℕ) : Type 0 where
  pub whole : s ≡ a ++ 10 ∷ b
  pub unbroken : HasNone a

pub cut_some : (s a b : List ℕ) → first_ended s ≡ Some (a, b) → Cut s a b
unfolding first_ended
cut_some s a b h =
    let p = cond_some (nat_lt (position_or_len is_newline s) (length s)) (before_first is_newline s, after_first is_newline s) (a, b) h in
    let within = ltb-true (position_or_len is_newline s) (length s) p.0 in
    let whole = split_at_first is_newline s 0 within in
    let is : get_or s (position_or_len is_newline s) 0 ≡ 10 = eqb-true _ _ (passes_at_first is_newline s 0 within) in
    record {
      whole = whole ∙ ap (λ x. before_first is_newline s ++ x ∷ after_first is_newline s) is ∙ ap (λ q. q.0 ++ 10 ∷ q.1) p.1;
      unbroken = subst HasNone (ap (λ q. q.0) p.1) (front_unbroken s);
    }

pub none_cut : (b : Bool) (x : List ℕ × List ℕ) → cond b (Some x) None ≡ None → b ≡ false
none_cut true x h = absurd (none-some x (sym h))
none_cut false x h = refl

pub cut_none : (s : List ℕ) → first_ended s ≡ None → HasNone s
unfolding first_ended
cut_none s h =
    let past = ltb-false (position_or_len is_newline s) (length s) (none_cut _ (before_first is_newline s, after_first is_newline s) h) in
    subst HasNone (take_all (position_or_len is_newline s) s past) (front_unbroken s)

other_is : (x : ℕ) → other_than_newline x ≡ true → (x == 10) ≡ false
other_is x h = elim (cases_Bool (x == 10)) [ inl is ↦ (let wrong : other_than_newline x ≡ false = ap not is in cc) | inr isnt ↦ isnt ]

pub ended_cons : (a b : List ℕ) → HasNone a → ended_of (a ++ 10 ∷ b) ≡ a ∷ ended_of b
ended_cons [] b h = refl
ended_cons (x ∷ xs) b h =
    let parts = and_parts (other_than_newline x) (list_all other_than_newline xs) h in
    cond-false _ _ _ (other_is x parts.0) ∙ ap (before_ended x) (ended_cons xs b parts.1)

pub ended_none : (s : List ℕ) → HasNone s → ended_of s ≡ []
ended_none [] h = refl
ended_none (x ∷ xs) h =
    let parts = and_parts (other_than_newline x) (list_all other_than_newline xs) h in
    cond-false _ _ _ (other_is x parts.0) ∙ ap (before_ended x) (ended_none xs parts.1)

any_newline : (a b : List ℕ) → list_any is_newline (a ++ 10 ∷ b) ≡ true
any_newline [] b = refl
any_newline (x ∷ xs) b = or_right (is_newline x) _ (any_newline xs b)

no_newline : (s : List ℕ) → HasNone s → list_any is_newline s ≡ false
no_newline [] h = refl
no_newline (x ∷ xs) h =
    let parts = and_parts (other_than_newline x) (list_all other_than_newline xs) h in
    or_from (is_newline x) _ (other_is x parts.0) (no_newline xs parts.1)

pub behind_cons : (a b : List ℕ) → HasNone a → behind_of (a ++ 10 ∷ b) ≡ behind_of b
behind_cons [] b h = refl
behind_cons (x ∷ xs) b h =
    let parts = and_parts (other_than_newline x) (list_all other_than_newline xs) h in
    cond-true _ _ _ (or_right (x == 10) _ (any_newline xs b)) ∙ behind_cons xs b parts.1

pub behind_none : (s : List ℕ) → HasNone s → behind_of s ≡ s
behind_none [] h = refl
behind_none (x ∷ xs) h =
    let parts = and_parts (other_than_newline x) (list_all other_than_newline xs) h in
    cond-false _ _ _ (or_from (x == 10) _ (other_is x parts.0) (no_newline xs parts.1))
