-- Where a number with a fraction, an exponent or the mark of a floating-point type leads a text.
use Rattle.std.proofs.Common.{◌≡◌, ◌≢◌, ℕ, zero, suc, ◌<◌, ◌≤◌, Bool, true, false, ◌&&◌, ◌||◌, List, [], ◌∷◌, ◌++◌, length, take, drop, Some, None, sym, refl, ap, ◌∙◌, subst, arith, ◌⊎◌, inl, inr}
use Rattle.std.specs.Prelude.{◌==◌, if◌then◌else◌}
use Rattle.std.specs.Char.{is_ascii_digit, is_ascii_hexdigit}
use Rattle.std.specs.List.{prefix_len, list_all}
use Rattle.std.proofs.lemmas.Bool.{false≢true}
use Rattle.std.proofs.lemmas.Bool.Decides.{nat_tests}
use Rattle.std.proofs.lemmas.List.{append_assoc, take-append-drop, length-append, length-take-le}
use Rattle.pl_lexer.specs.declared.token.Kind.TheVariants.{Integer}
use Rattle.pl_lexer.specs.Lexeme.{Lexeme, token, foreign}
use Rattle.pl_lexer.specs.Longest.{Leads, LeadsBy, NothingLeads}
use Rattle.pl_lexer.specs.Bytes.{begins, is_nil, after_run, is_octal_digit}
use Rattle.pl_lexer.specs.Numbers.{is_long_mark, ends_integer, digits_end, ends_hexadecimal, is_integer, after_whole, after_fraction, is_exponent_mark, is_plus_or_minus, after_plus_or_minus, after_exponent, is_float_mark, ends_decimal, is_decimal, number_of}
use Rattle.pl_lexer.specs.Lengths.{whole_length, integer_length, goes_decimal}
use Rattle.pl_lexer.proofs.Runs.{both, run_some, all_within, run_passes, run_within, run_is_all, run_all, after_run_append, run_seam}
use Rattle.pl_lexer.proofs.Tested.{some_is, none_is, Agree, LeadsBy-agree}
use Rattle.pl_lexer.proofs.Integers.{either, or_left, or_right, integer_leads}
use Rattle.pl_lexer.proofs.Led.{Led, leads_or_not}

-- the bytes that go on a number as a decimal
abbrev is_decimal_mark : ℕ → Bool
is_decimal_mark b = is_float_mark b || b == 46 || is_exponent_mark b

goes_first : (b : ℕ) (bs : List ℕ) → goes_decimal (b ∷ bs) ≡ true → is_decimal_mark b ≡ true
goes_first b bs e = first (is_float_mark b) (b == 46) (is_exponent_mark b) (begins is_ascii_digit bs) (begins is_ascii_digit (after_plus_or_minus bs)) e where
  first : (f d x v w : Bool) → (f || d && v || x && w) ≡ true → (f || d || x) ≡ true
  first true d x v w e = refl
  first false true x v w e = refl
  first false false true v w e = refl
  first false false false v w e = e

mark_no_digit : (b : ℕ) → is_decimal_mark b ≡ true → is_ascii_digit b ≡ false
mark_no_digit b e = at_digit (is_ascii_digit b) refl where
  no_digit : (b : ℕ) → is_decimal_mark b ≡ true → is_ascii_digit b ≡ true → ⊥
  no_digit b e f = grind (arith, nat_tests)

  at_digit : (v : Bool) → is_ascii_digit b ≡ v → is_ascii_digit b ≡ false
  at_digit true f = absurd (no_digit b e f)
  at_digit false f = f

mark_not_long : (b : ℕ) → is_decimal_mark b ≡ true → is_long_mark b ≡ true → ⊥
mark_not_long b e f = grind (arith, nat_tests)

mark_not_octal : (b : ℕ) → is_decimal_mark b ≡ true → is_octal_digit b ≡ true → ⊥
mark_not_octal b e f = grind (arith, nat_tests)

mark_not_x : (b : ℕ) → is_decimal_mark b ≡ true → (b == 120 || b == 88) ≡ true → ⊥
mark_not_x b e f = grind (arith, nat_tests)

sign_no_digit : (b : ℕ) → is_ascii_digit b ≡ true → is_plus_or_minus b ≡ false
sign_no_digit b e = at_sign (is_plus_or_minus b) refl where
  no_sign : (b : ℕ) → is_ascii_digit b ≡ true → is_plus_or_minus b ≡ true → ⊥
  no_sign b e f = grind (arith, nat_tests)

  at_sign : (v : Bool) → is_plus_or_minus b ≡ v → is_plus_or_minus b ≡ false
  at_sign true f = absurd (no_sign b e f)
  at_sign false f = f

exponent_not_dot : (b : ℕ) → is_exponent_mark b ≡ true → (b == 46) ≡ false
exponent_not_dot b e = at_dot (b == 46) refl where
  no_dot : (b : ℕ) → is_exponent_mark b ≡ true → (b == 46) ≡ true → ⊥
  no_dot b e f = grind (arith, nat_tests)

  at_dot : (v : Bool) → (b == 46) ≡ v → (b == 46) ≡ false
  at_dot true f = absurd (no_dot b e f)
  at_dot false f = f

float_not_dot : (b : ℕ) → is_float_mark b ≡ true → (b == 46) ≡ false
float_not_dot b e = at_dot (b == 46) refl where
  no_dot : (b : ℕ) → is_float_mark b ≡ true → (b == 46) ≡ true → ⊥
  no_dot b e f = grind (arith, nat_tests)

  at_dot : (v : Bool) → (b == 46) ≡ v → (b == 46) ≡ false
  at_dot true f = absurd (no_dot b e f)
  at_dot false f = f

-- what ends a decimal goes on as one

ends_goes : (rest : List ℕ) → ends_decimal rest (after_exponent (after_fraction rest)) ≡ true → goes_decimal rest ≡ true
ends_goes [] e = absurd (false≢true e)
ends_goes (b ∷ bs) e = at_fraction (b == 46 && begins is_ascii_digit bs) refl where
  at_exponent : (v : Bool) → (b == 46 && begins is_ascii_digit bs) ≡ false → (is_exponent_mark b && begins is_ascii_digit (after_plus_or_minus bs)) ≡ v → goes_decimal (b ∷ bs) ≡ true
  at_exponent true f g = or_right (is_float_mark b || b == 46 && begins is_ascii_digit bs) _ g
  at_exponent false f g =
      let ends : (is_float_mark b && is_nil bs) ≡ true = rw (f, g) at e in
      or_left (is_float_mark b || b == 46 && begins is_ascii_digit bs) _ (or_left (is_float_mark b) _ (both (is_float_mark b) (is_nil bs) ends).0)

  at_fraction : (v : Bool) → (b == 46 && begins is_ascii_digit bs) ≡ v → goes_decimal (b ∷ bs) ≡ true
  at_fraction true f = or_left (is_float_mark b || b == 46 && begins is_ascii_digit bs) _ (or_right (is_float_mark b) _ f)
  at_fraction false f = at_exponent (is_exponent_mark b && begins is_ascii_digit (after_plus_or_minus bs)) f refl

begins_append : (p : ℕ → Bool) (xs ys : List ℕ) → begins p xs ≡ true → begins p (xs ++ ys) ≡ true
begins_append p [] ys e = absurd (false≢true e)
begins_append p (x ∷ xs) ys e = e

sign_append : (xs ys : List ℕ) → begins is_ascii_digit (after_plus_or_minus xs) ≡ true → begins is_ascii_digit (after_plus_or_minus (xs ++ ys)) ≡ true
sign_append [] ys e = absurd (false≢true e)
sign_append (x ∷ xs) ys e = at_sign (is_plus_or_minus x) refl where
  at_sign : (v : Bool) → is_plus_or_minus x ≡ v → begins is_ascii_digit (after_plus_or_minus (x ∷ xs ++ ys)) ≡ true
  at_sign true f = let digit : begins is_ascii_digit xs ≡ true = rw f at e in rw f (begins_append is_ascii_digit xs ys digit)
  at_sign false f = let digit : is_ascii_digit x ≡ true = rw f at e in rw f digit

goes_append : (xs ys : List ℕ) → goes_decimal xs ≡ true → goes_decimal (xs ++ ys) ≡ true
goes_append [] ys e = absurd (false≢true e)
goes_append (x ∷ xs) ys e = at_case (either (is_float_mark x || x == 46 && begins is_ascii_digit xs) (is_exponent_mark x && begins is_ascii_digit (after_plus_or_minus xs)) e) where
  at_low : (is_float_mark x ≡ true) ⊎ ((x == 46 && begins is_ascii_digit xs) ≡ true) → (is_float_mark x || x == 46 && begins is_ascii_digit (xs ++ ys)) ≡ true
  at_low (inl f) = or_left (is_float_mark x) _ f
  at_low (inr f) = let parts = both (x == 46) (begins is_ascii_digit xs) f in or_right (is_float_mark x) _ (rw (parts.0, begins_append is_ascii_digit xs ys parts.1) refl)

  at_case : ((is_float_mark x || x == 46 && begins is_ascii_digit xs) ≡ true) ⊎ ((is_exponent_mark x && begins is_ascii_digit (after_plus_or_minus xs)) ≡ true) → goes_decimal (x ∷ xs ++ ys) ≡ true
  at_case (inl low) = or_left (is_float_mark x || x == 46 && begins is_ascii_digit (xs ++ ys)) _ (at_low (either (is_float_mark x) (x == 46 && begins is_ascii_digit xs) low))
  at_case (inr high) =
      let parts = both (is_exponent_mark x) (begins is_ascii_digit (after_plus_or_minus xs)) high in
      or_right (is_float_mark x || x == 46 && begins is_ascii_digit (xs ++ ys)) _ (rw (parts.0, sign_append xs ys parts.1) refl)

-- what stands after the whole part of a front that has more than it
whole_append : (more left : List ℕ) → after_whole more ≢ [] → after_whole (more ++ left) ≡ after_whole more ++ left
whole_append [] left some = absurd (some refl)
whole_append (c ∷ ms) left some = at_zero (c == 48) refl where
  at_all : (v : Bool) → (c == 48) ≡ false → list_all is_ascii_digit (c ∷ ms) ≡ v → after_whole (c ∷ ms ++ left) ≡ after_whole (c ∷ ms) ++ left
  at_all true f all = let none : after_whole (c ∷ ms) ≡ [] = rw f (run_all is_ascii_digit (c ∷ ms) all) in absurd (some none)
  at_all false f all = rw f (after_run_append is_ascii_digit (c ∷ ms) left all)

  at_zero : (v : Bool) → (c == 48) ≡ v → after_whole (c ∷ ms ++ left) ≡ after_whole (c ∷ ms) ++ left
  at_zero true f = rw f refl
  at_zero false f = at_all (list_all is_ascii_digit (c ∷ ms)) f refl

-- a text that begins with a decimal goes on as one
decimal_goes : (more left text : List ℕ) → more ++ left ≡ text → is_decimal more ≡ true → goes_decimal (after_whole text) ≡ true
decimal_goes more left text e decimal =
    let goes = ends_goes (after_whole more) decimal in
    let some : after_whole more ≢ [] = λ none. false≢true (rw none at goes) in
    rw (← e) (rw (whole_append more left some) (goes_append (after_whole more) left goes))

-- the shortest end of a decimal
record Tail (rest : List ℕ) : Type 0 where
  tail : List ℕ
  left : List ℕ
  parts : tail ++ left ≡ rest
  some : 0 < length tail
  ends : ends_decimal tail (after_exponent (after_fraction tail)) ≡ true

fraction_tail : (b : ℕ) (bs : List ℕ) → (b == 46 && begins is_ascii_digit bs) ≡ true → Tail (b ∷ bs)
fraction_tail b [] e = absurd (false≢true (both (b == 46) false e).1)
fraction_tail b (d ∷ ds) e =
    let parts = both (b == 46) (is_ascii_digit d) e in
    record { tail = b ∷ d ∷ []; left = ds; parts = refl; some = omega arith; ends = rw (parts.0, parts.1) refl }

and_false : (a : Bool) → (a && false) ≡ false
and_false true = refl
and_false false = refl

float_tail : (b : ℕ) (bs : List ℕ) → is_float_mark b ≡ true → Tail (b ∷ bs)
float_tail b bs e =
    record { tail = b ∷ []; left = bs; parts = refl; some = omega arith; ends = rw (float_not_dot b e, and_false (is_exponent_mark b), e) refl }

digit_tail : (b s : ℕ) (ds : List ℕ) → is_exponent_mark b ≡ true → is_ascii_digit s ≡ true → Tail (b ∷ s ∷ ds)
digit_tail b s ds e d = record { tail = b ∷ s ∷ []; left = ds; parts = refl; some = omega arith; ends = rw (exponent_not_dot b e, e, sign_no_digit s d, d) refl }

sign_tail : (b s d : ℕ) (ds : List ℕ) → is_exponent_mark b ≡ true → is_plus_or_minus s ≡ true → is_ascii_digit d ≡ true → Tail (b ∷ s ∷ d ∷ ds)
sign_tail b s d ds e g f = record { tail = b ∷ s ∷ d ∷ []; left = ds; parts = refl; some = omega arith; ends = rw (exponent_not_dot b e, e, g, f) refl }

exponent_tail : (b : ℕ) (bs : List ℕ) → is_exponent_mark b ≡ true → begins is_ascii_digit (after_plus_or_minus bs) ≡ true → Tail (b ∷ bs)
exponent_tail b [] e f = absurd (false≢true f)
exponent_tail b (s ∷ ss) e f = at_sign (is_plus_or_minus s) refl where
  at_more : (ds : List ℕ) → is_plus_or_minus s ≡ true → begins is_ascii_digit ds ≡ true → Tail (b ∷ s ∷ ds)
  at_more [] g d = absurd (false≢true d)
  at_more (d ∷ ds) g f' = sign_tail b s d ds e g f'

  at_sign : (v : Bool) → is_plus_or_minus s ≡ v → Tail (b ∷ s ∷ ss)
  at_sign true g = at_more ss g (rw g at f)
  at_sign false g = digit_tail b s ss e (rw g at f)

-- a text that goes on as a decimal begins with one
goes_tail : (rest : List ℕ) → goes_decimal rest ≡ true → Tail rest
goes_tail [] e = absurd (false≢true e)
goes_tail (b ∷ bs) e = at_case (either (is_float_mark b || b == 46 && begins is_ascii_digit bs) (is_exponent_mark b && begins is_ascii_digit (after_plus_or_minus bs)) e) where
  at_low : (is_float_mark b ≡ true) ⊎ ((b == 46 && begins is_ascii_digit bs) ≡ true) → Tail (b ∷ bs)
  at_low (inl f) = float_tail b bs f
  at_low (inr f) = fraction_tail b bs f

  at_case : ((is_float_mark b || b == 46 && begins is_ascii_digit bs) ≡ true) ⊎ ((is_exponent_mark b && begins is_ascii_digit (after_plus_or_minus bs)) ≡ true) → Tail (b ∷ bs)
  at_case (inl low) = at_low (either (is_float_mark b) (b == 46 && begins is_ascii_digit bs) low)
  at_case (inr high) = let parts = both (is_exponent_mark b) (begins is_ascii_digit (after_plus_or_minus bs)) high in exponent_tail b bs parts.0 parts.1

-- the whole part, and then a decimal's end
whole_seam : (b : ℕ) (bs : List ℕ) → after_whole (b ∷ bs) ≡ drop (whole_length (b ∷ bs)) (b ∷ bs)
whole_seam b bs = at_zero (b == 48) refl where
  at_zero : (v : Bool) → (b == 48) ≡ v → after_whole (b ∷ bs) ≡ drop (whole_length (b ∷ bs)) (b ∷ bs)
  at_zero true f = rw f refl
  at_zero false f = rw f refl

pub whole_behind : (text : List ℕ) → after_whole text ≡ drop (whole_length text) text
whole_behind [] = refl
whole_behind (b ∷ bs) = whole_seam b bs

pub whole_within : (text : List ℕ) → whole_length text ≤ length text
whole_within [] = omega arith
whole_within (b ∷ bs) = at_zero (b == 48) refl where
  at_zero : (v : Bool) → (b == 48) ≡ v → whole_length (b ∷ bs) ≤ length (b ∷ bs)
  at_zero true f = rw f (omega arith)
  at_zero false f = rw f (run_within is_ascii_digit (b ∷ bs))

-- the whole part of a text, with another end behind it
whole_then : (text tail : List ℕ) → begins is_ascii_digit text ≡ true → begins is_ascii_digit tail ≡ false → after_whole (take (whole_length text) text ++ tail) ≡ tail
whole_then [] tail digit ends = absurd (false≢true digit)
whole_then (b ∷ bs) tail digit ends = at_zero (b == 48) refl where
  no_zero : (run : List ℕ) → (b == 48) ≡ false → begins is_ascii_digit run ≡ true → list_all is_ascii_digit run ≡ true → begins (λ x. x == 48) run ≡ false → after_whole (run ++ tail) ≡ tail
  no_zero [] f some all apart = absurd (false≢true some)
  no_zero (r ∷ rs) f some all apart = rw apart (run_seam is_ascii_digit (r ∷ rs) tail all ends)

  taken : (n : ℕ) → 0 < n → (b == 48) ≡ false → list_all is_ascii_digit (take n (b ∷ bs)) ≡ true → after_whole (take n (b ∷ bs) ++ tail) ≡ tail
  taken zero some f all = absurd (omega arith)
  taken (suc n) some f all = no_zero (b ∷ take n bs) f (both (is_ascii_digit b) (list_all is_ascii_digit (take n bs)) all).0 all f

  at_zero : (v : Bool) → (b == 48) ≡ v → after_whole (take (whole_length (b ∷ bs)) (b ∷ bs) ++ tail) ≡ tail
  at_zero true f = rw f (rw f refl)
  at_zero false f = rw f (taken (prefix_len is_ascii_digit (b ∷ bs)) (run_some is_ascii_digit (b ∷ bs) digit) f (run_passes is_ascii_digit (b ∷ bs)))

-- a front of the text that is a decimal, and is longer than its whole part
record Short (text : List ℕ) : Type 0 where
  front : List ℕ
  left : List ℕ
  parts : front ++ left ≡ text
  long : whole_length text < length front
  decimal : is_decimal front ≡ true

goes_begins : (rest : List ℕ) → goes_decimal rest ≡ true → begins is_ascii_digit rest ≡ false
goes_begins [] e = refl
goes_begins (b ∷ bs) e = mark_no_digit b (goes_first b bs e)

begins_not : (p : ℕ → Bool) (xs ys rest : List ℕ) → xs ++ ys ≡ rest → 0 < length xs → begins p rest ≡ false → begins p xs ≡ false
begins_not p [] ys rest e some f = refl
begins_not p (x ∷ xs) ys rest e some f = ap (begins p) e ∙ f

short_decimal : (text : List ℕ) → begins is_ascii_digit text ≡ true → goes_decimal (after_whole text) ≡ true → Short text
short_decimal text digit goes =
    let t = goes_tail (after_whole text) goes in
    let whole = take (whole_length text) text in
    let ends = begins_not is_ascii_digit t.tail t.left (after_whole text) t.parts t.some (goes_begins (after_whole text) goes) in
    let rest = whole_then text t.tail digit ends in
    let joined : (whole ++ t.tail) ++ t.left ≡ text = append_assoc whole t.tail t.left ∙ ap (λ r. whole ++ r) (t.parts ∙ whole_behind text) ∙ take-append-drop (whole_length text) text in
    record {
      front = whole ++ t.tail;
      left = t.left;
      parts = joined;
      long = omega (arith, length-append whole t.tail, length-take-le (whole_length text) text (whole_within text), t.some);
      decimal = rw rest t.ends;
    }

-- where a decimal goes on, an integer is no longer than the whole part
integer_short : (more left text : List ℕ) → more ++ left ≡ text → begins is_ascii_digit text ≡ true → goes_decimal (after_whole text) ≡ true → is_integer more ≡ true → length more ≤ whole_length text
integer_short [] left text e digit goes test = absurd (false≢true test)
integer_short (c ∷ ms) left [] e digit goes test = absurd cc
integer_short (c ∷ ms) left (b ∷ bs) e digit goes test = at_zero (b == 48) refl where
  heads : c ≡ b
  heads = cc

  tails : ms ++ left ≡ bs
  tails = cc

  no_mark : (m : ℕ) (ks : List ℕ) → m ∷ ks ++ left ≡ after_whole (b ∷ bs) → is_decimal_mark m ≡ true
  no_mark m ks is = goes_first m (ks ++ left) (subst (λ r. goes_decimal r ≡ true) (sym is) goes)

  zero_more : (ks : List ℕ) → ks ++ left ≡ bs → (b == 48) ≡ true → (ends_integer ks || digits_end is_octal_digit ks || ends_hexadecimal ks) ≡ true → length ks ≤ 0
  zero_more [] is f ends = omega arith
  zero_more (m ∷ ks) is f ends = at_case (either (ends_integer (m ∷ ks) || digits_end is_octal_digit (m ∷ ks)) (ends_hexadecimal (m ∷ ks)) ends) where
    whole_is : after_whole (b ∷ bs) ≡ bs
    whole_is = rw f refl

    mark : is_decimal_mark m ≡ true
    mark = no_mark m ks (is ∙ sym whole_is)

    at_low : (ends_integer (m ∷ ks) ≡ true) ⊎ (digits_end is_octal_digit (m ∷ ks) ≡ true) → length (m ∷ ks) ≤ 0
    at_low (inl long) = absurd (mark_not_long m mark (both (is_long_mark m) (is_nil ks) long).0)
    at_low (inr octal) = absurd (mark_not_octal m mark (both (is_octal_digit m) (ends_integer (after_run is_octal_digit (m ∷ ks))) octal).0)

    at_case : ((ends_integer (m ∷ ks) || digits_end is_octal_digit (m ∷ ks)) ≡ true) ⊎ (ends_hexadecimal (m ∷ ks) ≡ true) → length (m ∷ ks) ≤ 0
    at_case (inl low) = at_low (either (ends_integer (m ∷ ks)) (digits_end is_octal_digit (m ∷ ks)) low)
    at_case (inr high) = absurd (mark_not_x m mark (both (m == 120 || m == 88) (digits_end is_ascii_hexdigit ks) high).0)

  run_more : (rest : List ℕ) → after_run is_ascii_digit (c ∷ ms) ≡ rest → (b == 48) ≡ false → list_all is_ascii_digit (c ∷ ms) ≡ false → ends_integer rest ≡ true → length (c ∷ ms) ≤ whole_length (b ∷ bs)
  run_more [] is f all ends = absurd (false≢true (sym all ∙ run_is_all is_ascii_digit (c ∷ ms) is))
  run_more (m ∷ ks) is f all ends =
      let behind : after_run is_ascii_digit (b ∷ bs) ≡ m ∷ ks ++ left = ap (after_run is_ascii_digit) (sym e) ∙ after_run_append is_ascii_digit (c ∷ ms) left all ∙ ap (λ r. r ++ left) is in
      let whole_is : after_whole (b ∷ bs) ≡ after_run is_ascii_digit (b ∷ bs) = rw f refl in
      let mark = no_mark m ks (sym behind ∙ sym whole_is) in
      absurd (mark_not_long m mark (both (is_long_mark m) (is_nil ks) ends).0)

  at_all : (v : Bool) → (b == 48) ≡ false → list_all is_ascii_digit (c ∷ ms) ≡ v → ends_integer (after_run is_ascii_digit (c ∷ ms)) ≡ true → length (c ∷ ms) ≤ whole_length (b ∷ bs)
  at_all true f all ends = rw f (all_within is_ascii_digit (c ∷ ms) left (b ∷ bs) e all)
  at_all false f all ends = run_more (after_run is_ascii_digit (c ∷ ms)) refl f all ends

  at_zero : (v : Bool) → (b == 48) ≡ v → length (c ∷ ms) ≤ whole_length (b ∷ bs)
  at_zero true f =
      let same : (c == 48) ≡ true = ap (λ x. x == 48) heads ∙ f in
      let short = zero_more ms tails f (rw same at test) in
      rw f (omega arith)
  at_zero false f =
      let same : (c == 48) ≡ false = ap (λ x. x == 48) heads ∙ f in
      let ends : digits_end is_ascii_digit (c ∷ ms) ≡ true = rw same at test in
      at_all (list_all is_ascii_digit (c ∷ ms)) f refl (both (begins is_ascii_digit (c ∷ ms)) (ends_integer (after_run is_ascii_digit (c ∷ ms))) ends).1

-- what a number is
pub number_is : (bytes : List ℕ) (l : Lexeme) → number_of bytes ≡ Some l → ((is_decimal bytes ≡ true) × (l ≡ foreign)) ⊎ ((is_integer bytes ≡ true) × (l ≡ token Integer))
number_is bytes l e = at_decimal (is_decimal bytes) refl where
  at_integer : (v : Bool) → is_decimal bytes ≡ false → is_integer bytes ≡ v → ((is_decimal bytes ≡ true) × (l ≡ foreign)) ⊎ ((is_integer bytes ≡ true) × (l ≡ token Integer))
  at_integer true d f = let some : Some (token Integer) ≡ Some l = rw (d, f) at e in inr (f, cc)
  at_integer false d f = let none : number_of bytes ≡ None = rw (d, f) refl in absurd (none_is (number_of bytes) none (some_is (number_of bytes) l e))

  at_decimal : (v : Bool) → is_decimal bytes ≡ v → ((is_decimal bytes ≡ true) × (l ≡ foreign)) ⊎ ((is_integer bytes ≡ true) × (l ≡ token Integer))
  at_decimal true d = let some : Some foreign ≡ Some l = rw d at e in inl (d, cc)
  at_decimal false d = at_integer (is_integer bytes) d refl

-- a decimal leads where a decimal goes on
pub decimal_leads : (text : List ℕ) → begins is_ascii_digit text ≡ true → goes_decimal (after_whole text) ≡ true → (front : List ℕ) × ((behind : List ℕ) × Leads (λ bytes _. number_of bytes) text front behind foreign)
decimal_leads text digit goes = at_led (leads_or_not (λ bytes _. number_of bytes) text) where
  short : Short text
  short = short_decimal text digit goes

  spelled : number_of short.front ≡ Some foreign
  spelled = rw short.decimal refl

  at_lexeme : (led : Led (λ bytes _. number_of bytes) text) → ((is_decimal led.front ≡ true) × (led.lexeme ≡ foreign)) ⊎ ((is_integer led.front ≡ true) × (led.lexeme ≡ token Integer)) → (front : List ℕ) × ((behind : List ℕ) × Leads (λ bytes _. number_of bytes) text front behind foreign)
  at_lexeme led (inl is) = (led.front, (led.behind, subst (λ l. Leads (λ bytes _. number_of bytes) text led.front led.behind l) is.1 led.leads))
  at_lexeme led (inr is) =
      let low = integer_short led.front led.behind text led.leads.parts digit goes is.0 in
      let high = led.leads.longest short.front short.left short.parts (some_is _ _ spelled) in
      absurd (omega (arith, low, high, short.long))

  at_led : Led (λ bytes _. number_of bytes) text ⊎ NothingLeads (λ bytes _. number_of bytes) text → (front : List ℕ) × ((behind : List ℕ) × Leads (λ bytes _. number_of bytes) text front behind foreign)
  at_led (inl led) = at_lexeme led (number_is led.front led.lexeme led.leads.spells)
  at_led (inr nothing) = absurd (nothing short.front short.left short.parts (some_is _ _ spelled))

-- else an integer leads
pub number_leads : (text : List ℕ) → begins is_ascii_digit text ≡ true → goes_decimal (after_whole text) ≡ false → LeadsBy (λ bytes _. number_of bytes) text (integer_length text) (token Integer)
number_leads text digit goes = LeadsBy-agree (λ bytes _. if is_integer bytes then Some (token Integer) else None) (λ bytes _. number_of bytes) text (integer_length text) (token Integer) agree (integer_leads text digit) where
  at_decimal : (more left : List ℕ) (v : Bool) → more ++ left ≡ text → is_decimal more ≡ v → (if is_integer more then Some (token Integer) else None) ≡ number_of more
  at_decimal more left true e d = absurd (false≢true (sym goes ∙ decimal_goes more left text e d))
  at_decimal more left false e d = rw d refl

  agree : Agree (λ bytes _. if is_integer bytes then Some (token Integer) else None) (λ bytes _. number_of bytes) text
  agree more left e = at_decimal more left (is_decimal more) e refl

-- a test of what stands after the whole part
pub goes_behind : (text behind : List ℕ) (n : ℕ) (v : Bool) → n ≡ whole_length text → behind ≡ drop n text → goes_decimal behind ≡ v → goes_decimal (after_whole text) ≡ v
goes_behind text behind n v long is goes = subst (λ r. goes_decimal r ≡ v) (is ∙ ap (λ m. drop m text) long ∙ sym (whole_behind text)) goes
