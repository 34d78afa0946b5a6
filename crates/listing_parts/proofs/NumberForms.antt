-- Numbers are read back from their texts, and from these alone.
use Rattle.std.proofs.Common.{◌≡◌, ℕ, suc, ◌^◌, ◌<◌, ◌≤◌, Bool, true, false, cond, List, [], ◌∷◌, drop, Some, None, Result, Ok, Err, sym, subst, ap, ◌∙◌, arith, inl, inr}
use Rattle.std.specs.Prelude.{ℤ, pos, negsuc, neg_ℤ, FitsSigned, nat_lt, ◌==◌}
use mir.Syntax.{Width}
use Rattle.std.specs.Int.Signed.{mag}
use Rattle.std.specs.Fmt.{decimal, signed_decimal}
use Rattle.std.specs.Str.{bytes_eq}
use Rattle.std.specs.Str.Parse.{digits_value, signed_digits_value, starts_with_minus, without_leading_plus, without_leading_sign, ParsesUnsigned, ParsesSigned, IsNumeral}
use Rattle.std.proofs.lemmas.Bool.{and_parts, and_from, lt-ltb, ltb-true, cond-true, cond-false, cases_Bool}
use Rattle.std.proofs.lemmas.Bool.Decides.{nat_tests}
use Rattle.std.proofs.lemmas.Slice.Eq.{bytes_eq-Decides}
use Rattle.std.proofs.lemmas.Option.{cond_some}
use Rattle.std.proofs.lemmas.Fmt.{decimal_is_IsNumeral, parse-decimal, parse-signed_decimal}
use Rattle.std.proofs.lemmas.Str.Parse.{digit_from_value}
use Rattle.listing_parts.specs.Numbers.{number_of, natural_of, integer_of}
use Rattle.listing_parts.proofs.Forms.{IsForm, unless}

module _ {A : Type 0} (written : A → List ℕ) (value : List ℕ → A) (fits : A → Bool) where
  -- the text of a number is read as the number
  pub written_read : (n : A) → fits n ≡ true → value (written n) ≡ n → number_of written value fits (written n) ≡ Some n
  unfolding number_of
  written_read n f e =
      let same : bytes_eq (written (value (written n))) (written n) ≡ true = (bytes_eq-Decides _ _).1 (ap written e) in
      cond-true _ _ _ (and_from _ _ same (subst (λ m. fits m ≡ true) (sym e) f)) ∙ ap Some e

  read_written : (s : List ℕ) (n : A) → number_of written value fits s ≡ Some n → (fits n ≡ true) × (written n ≡ s)
  unfolding number_of
  read_written s n h =
      let both = cond_some _ (value s) n h in
      let parts = and_parts _ _ both.0 in
      (subst (λ m. fits m ≡ true) both.1 parts.1, ap written (sym both.1) ∙ (bytes_eq-Decides _ _).0 parts.0)

  pub number_form : ((n : A) → fits n ≡ true → value (written n) ≡ n) → IsForm written (λ n. fits n ≡ true) (number_of written value fits)
  number_form back = record { sound = read_written; complete = λ n f. written_read n f (back n f) }

  -- where s is the text of no number, none is read
  pub none_read : (s : List ℕ) → ((n : A) → fits n ≡ true → s ≡ written n → ⊥) → number_of written value fits s ≡ None
  unfolding number_of
  none_read s none = unless _ _ (λ h. let parts = and_parts _ _ h in none (value s) parts.1 (sym ((bytes_eq-Decides _ _).0 parts.0)))

  -- where s can be the text of n alone, it is compared with that
  pub one_read : (s : List ℕ) (n : A) → fits n ≡ true → value (written n) ≡ n → ((m : A) → fits m ≡ true → s ≡ written m → m ≡ n)
      → number_of written value fits s ≡ cond (bytes_eq (written n) s) (Some n) None
  one_read s n f e one = elim (cases_Bool (bytes_eq (written n) s)) [
    | inl is ↦ (let same : written n ≡ s = (bytes_eq-Decides _ _).0 is in
        ap (number_of written value fits) (sym same) ∙ written_read n f e ∙ sym (cond-true _ _ _ is))
    | inr isnt ↦ none_read s (λ m fm sm.
        let is : bytes_eq (written n) s ≡ true = (bytes_eq-Decides _ _).1 (ap written (sym (one m fm sm)) ∙ sym sm) in cc)
        ∙ sym (cond-false _ _ _ isnt)
  ]

pub natural_form : (limit : ℕ) → limit ≤ 2 ^ 64 → IsForm decimal (λ n. nat_lt n limit ≡ true) (natural_of limit)
natural_form limit l = number_form _ _ _ (λ n h. let below = ltb-true _ _ h in (decimal_is_IsNumeral n (omega arith)).1)

-- what `parse` answers
pub natural_unread : {E : Type 0} (k : ℕ) (s : List ℕ) (e : E) → 2 ^ k ≤ 2 ^ 64 → ParsesUnsigned k 10 s (Err e) → None ≡ natural_of (2 ^ k) s
natural_unread {E} k s e l h = sym (none_read _ _ _ s (λ n f same.
    let below = ltb-true _ _ f in
    let r : Result ℕ E = Err e in
    let wrong : r ≡ Ok n = parse-decimal k n s r below (omega arith) same h in cc))

pub natural_read : (k : ℕ) (s : List ℕ) (n : ℕ) → 2 ^ k ≤ 2 ^ 64 → ParsesUnsigned {E = ℕ} k 10 s (Ok n) → (b : Bool) (m : ℕ) → m ≡ n → b ≡ bytes_eq (decimal m) s → cond b (Some n) None ≡ natural_of (2 ^ k) s
natural_read k s n l h b m same_number is =
    ap (λ t. cond t (Some n) None) (is ∙ ap (λ q. bytes_eq (decimal q) s) same_number) ∙ (
    let below : n < 2 ^ k = subst (λ q. q < 2 ^ k) (sym h.1) h.0.1 in
    sym (one_read _ _ _ s n (lt-ltb _ _ below) (decimal_is_IsNumeral n (omega arith)).1 (λ q f same.
    let q_below = ltb-true _ _ f in
    let r : Result ℕ ℕ = Ok n in
    let right : r ≡ Ok q = parse-decimal k q s r q_below (omega arith) same h in cc)))

-- a text that begins with no `-`
cond-false_under : (ds : List ℕ) → starts_with_minus ds ≡ false → without_leading_plus ds ≡ ds → digits_value 10 (without_leading_sign ds) ≡ digits_value 10 ds
cond-false_under ds minus plus = ap (digits_value 10) (cond-false _ _ _ minus ∙ plus)

-- digits have no sign
unsigned : (ds : List ℕ) → IsNumeral 10 ds → (starts_with_minus ds ≡ false) × (without_leading_plus ds ≡ ds)
unsigned [] h = absurd (omega (arith, h.0))
unsigned (c ∷ cs) h =
    let digit = digit_from_value c h.1.0 in
    let minus : (c == 45) ≡ false = grind (arith, nat_tests) in
    let plus : (c == 43) ≡ false = grind (arith, nat_tests) in
    (minus, ap (λ b. drop (cond b 1 0) (c ∷ cs)) plus)

pub integer_back : (z : ℤ) → mag z < 2 ^ 63 → signed_digits_value 10 (signed_decimal z) ≡ z
integer_back (pos n) l =
    let numeral = decimal_is_IsNumeral n (omega arith) in
    let plain = unsigned (decimal n) numeral.0 in
    cond-false _ _ _ plain.0 ∙ ap pos (cond-false_under (decimal n) plain.0 plain.1 ∙ numeral.1)
integer_back (negsuc n) l = ap (λ m. neg_ℤ (pos m)) (decimal_is_IsNumeral (suc n) (omega arith)).1

pub integer_form : (limit : ℕ) → limit ≤ 2 ^ 63 → IsForm signed_decimal (λ z. nat_lt (mag z) limit ≡ true) (integer_of limit)
integer_form limit l = number_form _ _ _ (λ z h. let below = ltb-true _ _ h in integer_back z (omega arith))

pub integer_unread : {E : Type 0} (w : Width) (limit : ℕ) (s : List ℕ) (e : E) → limit ≤ 2 ^ 63 → ((z : ℤ) → mag z < limit → FitsSigned w z) → ParsesSigned w 10 s (Err e) → None ≡ integer_of limit s
integer_unread {E} w limit s e l fit h = sym (none_read _ _ _ s (λ z f same.
    let below = ltb-true _ _ f in
    let r : Result ℤ E = Err e in
    let wrong : r ≡ Ok z = parse-signed_decimal w z s r (fit z below) (omega arith) same h in cc))

pub integer_read : (w : Width) (limit : ℕ) (s : List ℕ) (n : ℤ) → limit ≤ 2 ^ 63 → ((z : ℤ) → mag z < limit → FitsSigned w z) → (FitsSigned w n → mag n < limit) → ParsesSigned {E = ℕ} w 10 s (Ok n) → (b : Bool) (m : ℤ) → m ≡ n → b ≡ bytes_eq (signed_decimal m) s → cond b (Some n) None ≡ integer_of limit s
integer_read w limit s n l fit small h b m same_number is =
    ap (λ t. cond t (Some n) None) (is ∙ ap (λ q. bytes_eq (signed_decimal q) s) same_number) ∙ (
    let below : mag n < limit = small (subst (FitsSigned w) (sym h.1) h.0.1) in
    sym (one_read _ _ _ s n (lt-ltb _ _ below) (integer_back n (omega arith)) (λ q f same.
    let q_below = ltb-true _ _ f in
    let r : Result ℤ ℕ = Ok n in
    let right : r ≡ Ok q = parse-signed_decimal w q s r (fit q q_below) (omega arith) same h in cc)))
