-- Whole numbers: the value of digits, a digit at a time; the range of a width; what std writes is read back.
use Rattle.std.proofs.Common.{◌≡◌, ℕ, true, false, ◌&&◌, suc, ◌+◌, ◌-◌, ◌*◌, ◌^◌, ◌<◌, ◌≤◌, List, [], ◌∷◌, ◌++◌, length, take, drop, get_or, refl, ap, sym, subst, ◌∙◌, arith}
use Rattle.std.proofs.Math.Nat.{one-le-pow, mul-le-mul_left}
use Rattle.std.proofs.lemmas.List.{length-append, take_more, take-append-drop}
use Rattle.std.proofs.lemmas.Nat.{pow-add}
use Rattle.std.specs.Prelude.{ℤ, pos, negsuc, neg_ℤ, int_le, Option, Some, None, IsTrue, FitsSigned}
use Rattle.std.specs.Option.{SomeIff}
use Rattle.std.specs.Int.{w32, w64}
use Rattle.std.specs.Char.{is_ascii_digit, IsAsciiDigit}
use Rattle.std.specs.List.{list_all}
use Rattle.std.specs.Fmt.{decimal, signed_decimal}
use Rattle.std.proofs.lemmas.Bool.{and_from, and_parts, le-leb, leb-true, lt-ltb, false_from_ne_true, cond-true, cond-false}
use Rattle.std.proofs.lemmas.Bool.Decides.{nat_tests}
use Rattle.std.proofs.lemmas.List.Sums.{AllPass-from_list_all}
use Rattle.std.proofs.lemmas.Str.Parse.{IsNumeralModel, numerals_by_weight}
use Rattle.std.proofs.lemmas.Fmt.{digits_decimal, digits_value-decimal, decimal_nonempty}
use Rattle.std.specs.Int.Signed.{mag}
use Rattle.pl_units.specs.WholeNumber.{is_numeral, digits_value, has_minus, without_sign, is_whole_number, whole_number, number_between, int_of, long_of}

pub digits_value-append : (xs ys : List ℕ) → digits_value (xs ++ ys) ≡ digits_value xs * 10 ^ length ys + digits_value ys
digits_value-append [] ys = omega arith
digits_value-append (x ∷ xs) ys =
    let rest = digits_value-append xs ys in
    let weight : 10 ^ length (xs ++ ys) ≡ 10 ^ length xs * 10 ^ length ys = rw (length-append xs ys) (pow-add 10 (length xs) (length ys)) in
    rw (weight, rest) (grind arith)

-- with one digit more
pub digits_value_more : (digits : List ℕ) (i : ℕ) → i < length digits → digits_value (take (i + 1) digits) ≡ digits_value (take i digits) * 10 + (get_or digits i 0 - 48)
digits_value_more digits i l = ap digits_value (take_more digits i 0 l) ∙ digits_value-append (take i digits) (get_or digits i 0 ∷ []) ∙ omega arith

-- no beginning has a larger value
pub digits_value-take-le : (digits : List ℕ) (i : ℕ) → digits_value (take i digits) ≤ digits_value digits
digits_value-take-le digits i =
    let front = digits_value (take i digits) in
    let whole : digits_value digits ≡ front * 10 ^ length (drop i digits) + digits_value (drop i digits) =
    ap digits_value (sym (take-append-drop i digits)) ∙ digits_value-append (take i digits) (drop i digits) in
    let larger : front * 1 ≤ front * 10 ^ length (drop i digits) = mul-le-mul_left front (one-le-pow (length (drop i digits)) 10 (omega arith)) in
    omega arith

digit_is : (unit : ℕ) → is_ascii_digit unit ≡ true → IsAsciiDigit unit
digit_is unit e =
    let both = and_parts _ _ e in
    (leb-true _ _ both.0, leb-true _ _ both.1)

pub digit_test : (unit : ℕ) → IsAsciiDigit unit → is_ascii_digit unit ≡ true
digit_test unit h = and_from _ _ (le-leb _ _ h.0) (le-leb _ _ h.1)

-- each unit of a numeral is a digit
pub digit_at : (digits : List ℕ) (i : ℕ) → is_numeral digits ≡ true → i < length digits → IsAsciiDigit (get_or digits i 0)
digit_at digits i h l = digit_is _ (AllPass-from_list_all is_ascii_digit digits (and_parts _ _ h).1 i 0 l)

-- the range of a signed width
in_range : (top : ℕ) (z : ℤ) → mag z < suc top → (int_le (negsuc top) z && int_le z (pos top)) ≡ true
in_range top (pos n) h = le-leb n top (omega arith)
in_range top (negsuc n) h = and_from _ _ (le-leb n top (omega arith)) refl

from_range : (top : ℕ) (z : ℤ) → (int_le (negsuc top) z && int_le z (pos top)) ≡ true → mag z < suc top
from_range top (pos n) h = let l = leb-true n top h in omega arith
from_range top (negsuc n) h = let l = leb-true n top (and_parts _ _ h).0 in omega arith

between_is : (top : ℕ) (text : List ℕ) (P : Type 0) (r : Option ℤ) → (P → mag (whole_number text) < suc top) → (mag (whole_number text) < suc top → P)
    → SomeIff r (IsTrue (is_whole_number text) × P) (whole_number text) → r ≡ number_between (negsuc top) (pos top) text
unfolding number_between
between_is top text P None to back h =
    sym (cond-false _ _ _ (false_from_ne_true _ (λ e.
    let both = and_parts (is_whole_number text) _ e in
    h (both.0, back (from_range top (whole_number text) both.1)))))
between_is top text P (Some number) to back h =
    ap Some h.1 ∙ sym (cond-true _ _ _ (and_from (is_whole_number text) _ h.0.0 (in_range top (whole_number text) (to h.0.1))))

pub int_is : (text : List ℕ) (r : Option ℤ) → SomeIff r (IsTrue (is_whole_number text) × FitsSigned w32 (whole_number text)) (whole_number text) → r ≡ int_of text
int_is text r h = between_is 2147483647 text _ r (λ f. f.sfits) (λ l. record { sfits = l }) h

pub long_is : (text : List ℕ) (r : Option ℤ) → SomeIff r (IsTrue (is_whole_number text) × FitsSigned w64 (whole_number text)) (whole_number text) → r ≡ long_of text
long_is text r h = between_is 9223372036854775807 text _ r (λ f. f.sfits) (λ l. record { sfits = l }) h

-- the digits that std writes, in the words of this crate
own : IsNumeralModel (λ ds. list_all is_ascii_digit ds ≡ true) digits_value
own = numerals_by_weight _ (record {
  empty = refl;
  parts = λ c cs h. let both = and_parts _ _ h in (digit_is c both.0, both.1);
  more = λ c cs d h. and_from _ _ (digit_test c d) h;
}) digits_value (record { empty = refl; more = λ c cs d. refl })

decimal_is : (n : ℕ) → n < 2 ^ 64 → is_numeral (decimal n) ≡ true
decimal_is n l = and_from _ _ (lt-ltb 0 (length (decimal n)) (decimal_nonempty n l)) (digits_decimal own n l)

-- a numeral has no sign
no_sign : (digits : List ℕ) → is_numeral digits ≡ true → (without_sign digits ≡ digits) × (has_minus digits ≡ false)
no_sign [] h = (refl, refl)
no_sign (unit ∷ rest) h =
    let first : IsAsciiDigit unit = digit_at (unit ∷ rest) 0 h (omega arith) in
    (grind (arith, nat_tests), grind (arith, nat_tests))

read : (text : List ℕ) (z : ℤ) → FitsSigned w64 z → is_whole_number text ≡ true → whole_number text ≡ z → long_of text ≡ Some z
read text z h numeral value =
    sym (long_is text (Some z) ((numeral, subst (FitsSigned w64) (sym value) h), sym value))

-- the decimal text of a number is read as the number
pub long_of-decimal : (z : ℤ) → FitsSigned w64 z → long_of (signed_decimal z) ≡ Some z
long_of-decimal (pos n) h =
    let small : n < 2 ^ 64 = omega (arith, h.sfits) in
    let numeral = decimal_is n small in
    let plain = no_sign (decimal n) numeral in
    let value : whole_number (decimal n) ≡ pos n =
    cond-false (has_minus (decimal n)) _ _ plain.1 ∙ ap (λ ds. pos (digits_value ds)) plain.0 ∙ ap pos (digits_value-decimal own n small) in
    read (decimal n) (pos n) h (ap is_numeral plain.0 ∙ numeral) value
long_of-decimal (negsuc n) h =
    let small : suc n < 2 ^ 64 = omega (arith, h.sfits) in
    let value = ap (λ m. neg_ℤ (pos m)) (digits_value-decimal own (suc n) small) in
    read (45 ∷ decimal (suc n)) (negsuc n) h (decimal_is (suc n) small) value
