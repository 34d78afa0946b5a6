-- Which bytes stand in the parts of a line.
use Rattle.std.proofs.Common.{◌≡◌, ℕ, suc, ◌^◌, ◌<◌, Bool, true, ◌&&◌, ◌||◌, List, [], ◌∷◌, ◌++◌, length, take, drop, get_or, Option, Some, None, refl, sym, subst, ap, ◌∙◌, arith, inl, inr}
use Rattle.std.specs.Prelude.{nat_lt, nat_le, ◌==◌, decimal, is_some, ℤ, pos, negsuc}
use Rattle.std.specs.Fmt.{signed_decimal}
use Rattle.std.specs.Int.Signed.{mag}
use Rattle.std.specs.List.{list_all, slice_split, onto_first, position_or_len, before_first, after_first}
use Rattle.std.specs.Str.{bytes_eq}
use Rattle.std.specs.Str.Parse.{AllDigits}
use Rattle.std.proofs.lemmas.Bool.{and_parts, and_from, or_cases, ltb-true, eqb-true, lt-ltb, leb-true, cond-true, cond-false, cases_Bool}
use Rattle.std.proofs.lemmas.Fmt.{decimal_is_IsNumeral}
use Rattle.std.proofs.lemmas.List.{take-append-drop}
use Rattle.std.proofs.lemmas.List.Folds.{list_all-append}
use Rattle.std.proofs.lemmas.List.Sums.{split_at_first, passes_at_first}
use Rattle.std.proofs.lemmas.Slice.Eq.{bytes_eq-Decides}
use Rattle.std.proofs.lemmas.Option.{cond_some}
use Rattle.std.proofs.lemmas.Str.Parse.{digit_from_value}
use Rattle.listing_parts.specs.Split.{is_plain}
use Rattle.listing_parts.specs.Names.{is_letter, is_word_byte, is_word, is_name, type_words, is_one_of, is_joint, is_class, is_pairs, is_bracket, is_type, is_field, is_slash, before_arity, counts, is_method, is_constructor}
use Rattle.listing_parts.specs.Numbers.{natural_of}
use Rattle.listing_parts.proofs.Parts.{IsPlain}
use Rattle.listing_parts.proofs.NumberForms.{natural_form}

pub all_weaker : {A : Type 0} (p q : A → Bool) → ((x : A) → p x ≡ true → q x ≡ true) → (xs : List A) → list_all p xs ≡ true → list_all q xs ≡ true
all_weaker p q weaker [] h = refl
all_weaker p q weaker (x ∷ xs) h =
    let parts = and_parts (p x) (list_all p xs) h in
    and_from (q x) (list_all q xs) (weaker x parts.0) (all_weaker p q weaker xs parts.1)

pub plain-append : (a b : List ℕ) → IsPlain a → IsPlain b → IsPlain (a ++ b)
plain-append a b h k = list_all-append is_plain a b ∙ and_from (list_all is_plain a) (list_all is_plain b) h k

plain_byte : (b : ℕ) → 32 < b → b < 127 → is_plain b ≡ true
plain_byte b l h = and_from (nat_lt 32 b) (nat_lt b 127) (lt-ltb 32 b l) (lt-ltb b 127 h)

plain_digits : (ds : List ℕ) → AllDigits 10 ds → IsPlain ds
plain_digits [] h = refl
plain_digits (c ∷ cs) h =
    let digit = digit_from_value c h.0 in
    and_from (is_plain c) (list_all is_plain cs) (plain_byte c (omega arith) (omega arith)) (plain_digits cs h.1)

pub plain_decimal : (n : ℕ) → n < 2 ^ 64 → IsPlain (decimal n)
plain_decimal n l = plain_digits (decimal n) (decimal_is_IsNumeral n l).0.1

pub plain_signed : (z : ℤ) → mag z < 2 ^ 63 → IsPlain (signed_decimal z)
plain_signed (pos n) l = plain_decimal n (omega arith)
plain_signed (negsuc n) l = plain_decimal (suc n) (omega arith)

letter_plain : (b : ℕ) → is_letter b ≡ true → is_plain b ≡ true
letter_plain b h = elim (or_cases (nat_le 97 b && nat_le b 122 || nat_le 65 b && nat_le b 90) (b == 95) h) [
  | inl a ↦ elim (or_cases (nat_le 97 b && nat_le b 122) (nat_le 65 b && nat_le b 90) a) [
    | inl x ↦ (let p = and_parts (nat_le 97 b) (nat_le b 122) x in let l = leb-true 97 b p.0 in let g = leb-true b 122 p.1 in plain_byte b (omega arith) (omega arith))
    | inr x ↦ (let p = and_parts (nat_le 65 b) (nat_le b 90) x in let l = leb-true 65 b p.0 in let g = leb-true b 90 p.1 in plain_byte b (omega arith) (omega arith))
  ]
  | inr x ↦ (let e = eqb-true b 95 x in plain_byte b (omega arith) (omega arith))
]

word_byte_plain : (b : ℕ) → is_word_byte b ≡ true → is_plain b ≡ true
word_byte_plain b h = elim (or_cases (is_letter b) (nat_le 48 b && nat_le b 57) h) [
  | inl x ↦ letter_plain b x
  | inr x ↦ (let p = and_parts (nat_le 48 b) (nat_le b 57) x in let l = leb-true 48 b p.0 in let g = leb-true b 57 p.1 in plain_byte b (omega arith) (omega arith))
]

pub plain_word : (s : List ℕ) → is_word s ≡ true → IsPlain s
plain_word [] h = refl
plain_word (b ∷ bs) h =
    let parts = and_parts (is_letter b) (list_all is_word_byte bs) h in
    and_from (is_plain b) (list_all is_plain bs) (letter_plain b parts.0) (all_weaker is_word_byte is_plain word_byte_plain bs parts.1)

plain_name : (s : List ℕ) → is_name s ≡ true → IsPlain s
unfolding is_name
plain_name s h = plain_word s (and_parts (is_word s) _ h).0

joint_plain : (b : ℕ) → is_joint b ≡ true → is_plain b ≡ true
joint_plain b h = elim (or_cases (b == 46) (b == 36) h) [
  | inl x ↦ (let e = eqb-true b 46 x in plain_byte b (omega arith) (omega arith))
  | inr x ↦ (let e = eqb-true b 36 x in plain_byte b (omega arith) (omega arith))
]

plain_onto : (x : ℕ) (parts : List (List ℕ)) → list_all (list_all is_plain) (onto_first x parts) ≡ true → (is_plain x ≡ true) × (list_all (list_all is_plain) parts ≡ true)
plain_onto x [] h = ((and_parts (is_plain x) true (and_parts (is_plain x && true) true h).0).0, refl)
plain_onto x (p ∷ ps) h =
    let both = and_parts (is_plain x && list_all is_plain p) (list_all (list_all is_plain) ps) h in
    let first = and_parts (is_plain x) (list_all is_plain p) both.0 in
    (first.0, and_from (list_all is_plain p) (list_all (list_all is_plain) ps) first.1 both.1)

plain_parts : (s : List ℕ) → list_all (list_all is_plain) (slice_split is_joint s) ≡ true → IsPlain s
plain_parts [] h = refl
plain_parts (x ∷ xs) h = elim (cases_Bool (is_joint x)) [
  | inl is ↦ (let rest : list_all (list_all is_plain) ([] ∷ slice_split is_joint xs) ≡ true = ap (list_all (list_all is_plain)) (sym (cond-true _ _ _ is)) ∙ h in
      and_from (is_plain x) (list_all is_plain xs) (joint_plain x is) (plain_parts xs rest))
  | inr isnt ↦ (let both = plain_onto x (slice_split is_joint xs) (ap (list_all (list_all is_plain)) (sym (cond-false _ _ _ isnt)) ∙ h) in
      and_from (is_plain x) (list_all is_plain xs) both.0 (plain_parts xs both.1))
]

pub plain_class : (s : List ℕ) → is_class s ≡ true → IsPlain s
unfolding is_class
plain_class s h = plain_parts s (all_weaker is_name (list_all is_plain) plain_name (slice_split is_joint s) h)

one_plain : (words : List (List ℕ)) (s : List ℕ) → list_all (list_all is_plain) words ≡ true → is_one_of words s ≡ true → IsPlain s
one_plain [] s all h = cc
one_plain (word ∷ words) s all h =
    let parts = and_parts (list_all is_plain word) (list_all (list_all is_plain) words) all in
    elim (or_cases (bytes_eq word s) (is_one_of words s) h) [
      | inl same ↦ subst (λ t. list_all is_plain t ≡ true) ((bytes_eq-Decides word s).0 same) parts.0
      | inr other ↦ one_plain words s parts.1 other
    ]

plain_pairs : (s : List ℕ) → is_pairs s ≡ true → IsPlain s
plain_pairs [] h = refl
plain_pairs (b ∷ []) h = cc
plain_pairs (b ∷ c ∷ bs) h =
    let parts = and_parts ((b == 91) && (c == 93)) (is_pairs bs) h in
    let marks = and_parts (b == 91) (c == 93) parts.0 in
    let x = eqb-true b 91 marks.0 in
    let y = eqb-true c 93 marks.1 in
    and_from (is_plain b) (list_all is_plain (c ∷ bs)) (plain_byte b (omega arith) (omega arith))
    (and_from (is_plain c) (list_all is_plain bs) (plain_byte c (omega arith) (omega arith)) (plain_pairs bs parts.1))

pub plain_type : (s : List ℕ) → is_type s ≡ true → IsPlain s
unfolding is_type
plain_type s h =
    let n = position_or_len is_bracket s in
    let parts = and_parts (is_one_of type_words (take n s) || is_class (take n s)) (is_pairs (drop n s)) h in
    let front : IsPlain (take n s) = elim (or_cases (is_one_of type_words (take n s)) (is_class (take n s)) parts.0) [
      | inl word ↦ one_plain type_words (take n s) refl word
      | inr class ↦ plain_class (take n s) class
    ] in
    subst IsPlain (take-append-drop n s) (plain-append (take n s) (drop n s) front (plain_pairs (drop n s) parts.1))

pub plain_field : (s : List ℕ) → is_field s ≡ true → IsPlain s
unfolding is_field
plain_field s h = plain_class s (and_parts (is_class s) _ h).0

plain_natural : (s : List ℕ) → (o : Option ℕ) → natural_of (2 ^ 32) s ≡ o → is_some o ≡ true → IsPlain s
plain_natural s None e h = cc
plain_natural s (Some n) e h =
    let back = (natural_form (2 ^ 32) (omega arith)).sound s n e in
    let small = ltb-true n (2 ^ 32) back.0 in
    subst IsPlain back.1 (plain_decimal n (omega arith))

plain_counted : (is_it : List ℕ → Bool) (o : Option (List ℕ)) (s : List ℕ) → ((t : List ℕ) → is_it t ≡ true → IsPlain t) → before_arity s ≡ o → counts is_it o ≡ true → IsPlain s
plain_counted is_it None s plain e h = cc
plain_counted is_it (Some front) s plain e h =
    let c = cond_some (nat_lt (position_or_len is_slash s) (length s) && is_some (natural_of (2 ^ 32) (after_first is_slash s))) (before_first is_slash s) front e in
    let both = and_parts (nat_lt (position_or_len is_slash s) (length s)) (is_some (natural_of (2 ^ 32) (after_first is_slash s))) c.0 in
    let within = ltb-true (position_or_len is_slash s) (length s) both.0 in
    let whole = split_at_first is_slash s 0 within in
    let is : get_or s (position_or_len is_slash s) 0 ≡ 47 = eqb-true _ _ (passes_at_first is_slash s 0 within) in
    let written : front ++ 47 ∷ after_first is_slash s ≡ s = sym (whole ∙ ap (λ x. before_first is_slash s ++ x ∷ after_first is_slash s) is ∙ ap (λ t. t ++ 47 ∷ after_first is_slash s) c.1) in
    let behind : IsPlain (47 ∷ after_first is_slash s) = plain_natural (after_first is_slash s) _ refl both.1 in
    subst IsPlain written (plain-append front (47 ∷ after_first is_slash s) (plain front h) behind)

pub plain_method : (s : List ℕ) → is_method s ≡ true → IsPlain s
unfolding is_method
plain_method s h = plain_counted is_field (before_arity s) s plain_field refl h

pub plain_constructor : (s : List ℕ) → is_constructor s ≡ true → IsPlain s
unfolding is_constructor
plain_constructor s h = plain_counted is_class (before_arity s) s plain_class refl h
