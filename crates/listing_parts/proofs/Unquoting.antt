-- A text in quotes is read back, and nothing else is.
use Rattle.std.proofs.Common.{◌≡◌, ℕ, zero, suc, ◌/◌, ◌%◌, ◌<◌, ◌≤◌, Bool, true, false, ◌&&◌, ◌||◌, cond, List, [], ◌∷◌, ◌++◌, length, Option, Some, None, refl, sym, subst, ap, ◌∙◌, arith, inl, inr, append_assoc}
use Rattle.std.specs.Prelude.{option_map, option_and_then, ◌==◌, nat_lt}
use Rattle.std.specs.List.{flat_map, find, list_all}
use Rattle.std.specs.Str.{bytes_eq, is_utf8}
use Rattle.std.proofs.lemmas.Bool.{and_parts, or_parts, or_from, eqb-true, cond_both, ltb-true, lt-ltb, cond-true, cond-false, false_from_ne_true, cases_Bool}
use Rattle.std.proofs.lemmas.Bool.Decides.{nat_tests}
use Rattle.std.proofs.lemmas.List.{length-append}
use Rattle.std.proofs.lemmas.Option.{none-some, cond_some, option_and_then_some, same_Some}
use Rattle.std.proofs.lemmas.Slice.Eq.{bytes_eq-Decides}
use Rattle.listing_parts.specs.Names.{formed}
use Rattle.listing_parts.specs.Quoted.{hex_digit, escaped, quoted, controls, control_of, control_at, escape_at, byte_at, unquoted, behind_quote, text_of}
use Rattle.listing_parts.proofs.Forms.{IsForm}
use Rattle.listing_parts.proofs.Controls.{control_back}

-- what is found passes
pub found_passes : {A : Type 0} (test : A → Bool) (xs : List A) (x : A) → find test xs ≡ Some x → test x ≡ true
found_passes test [] x h = absurd (none-some x h)
found_passes test (y ∷ ys) x h = elim (cases_Bool (test y)) [
  | inl is ↦ (let same : y ≡ x = same_Some _ _ (sym (cond-true _ _ _ is) ∙ h) in subst (λ z. test z ≡ true) same is)
  | inr isnt ↦ found_passes test ys x (sym (cond-false _ _ _ isnt) ∙ h)
]

-- and what holds of each holds of it
found_holds : {A : Type 0} (test other : A → Bool) (xs : List A) (x : A) → list_all other xs ≡ true → find test xs ≡ Some x → other x ≡ true
found_holds test other [] x all h = absurd (none-some x h)
found_holds test other (y ∷ ys) x all h = elim (cases_Bool (test y)) [
  | inl is ↦ (let same : y ≡ x = same_Some _ _ (sym (cond-true _ _ _ is) ∙ h) in subst (λ z. other z ≡ true) same (and_parts _ _ all).0)
  | inr isnt ↦ found_holds test other ys x (and_parts _ _ all).1 (sym (cond-false _ _ _ isnt) ∙ h)
]

record IsControl (high low b : ℕ) : Type 0 where
  first : hex_digit (b / 16) ≡ high
  second : hex_digit (b % 16) ≡ low
  small : b < 32

control_sound : (high low b : ℕ) → control_of high low ≡ Some b → IsControl high low b
unfolding control_of
control_sound high low b h =
    let test = λ (x : ℕ). (hex_digit (x / 16) == high) && (hex_digit (x % 16) == low) in
    let same = and_parts (hex_digit (b / 16) == high) (hex_digit (b % 16) == low) (found_passes test controls b h) in
    record {
      first = eqb-true (hex_digit (b / 16)) high same.0;
      second = eqb-true (hex_digit (b % 16)) low same.1;
      small = ltb-true b 32 (found_holds test (λ x. nat_lt x 32) controls b refl h);
    }

pub escaped_mark : (b : ℕ) → ((b == 92) || (b == 34)) ≡ true → escaped b ≡ 92 ∷ b ∷ []
escaped_mark b h = cond-true _ _ _ h

pub escaped_control : (b : ℕ) → b < 32 → escaped b ≡ 92 ∷ 120 ∷ hex_digit (b / 16) ∷ hex_digit (b % 16) ∷ []
escaped_control b l =
    let mark : ((b == 92) || (b == 34)) ≡ false = grind (arith, nat_tests) in
    cond-false _ _ _ mark ∙ cond-true _ _ _ (lt-ltb _ _ l)

pub escaped_plain : (b : ℕ) → ((b == 92) || (b == 34)) ≡ false → nat_lt b 32 ≡ false → escaped b ≡ b ∷ []
escaped_plain b h l = cond-false _ _ _ h ∙ cond-false _ _ _ l

mark_is : (b : ℕ) → ((b == 92) || (b == 34)) ≡ true → (b == 120) ≡ false
mark_is b h = grind (arith, nat_tests)

-- a byte is read back from its escape
pub byte_back : (b : ℕ) (rest : List ℕ) → byte_at (escaped b ++ rest) ≡ Some (b, rest)
unfolding byte_at
byte_back b rest = elim (cases_Bool ((b == 92) || (b == 34))) [
  | inl mark ↦ ap (λ e. byte_at (e ++ rest)) (escaped_mark b mark) ∙ cond-false _ _ _ (mark_is b mark) ∙ cond-true _ _ _ mark
  | inr other ↦ elim (cases_Bool (nat_lt b 32)) [
    | inl small ↦ ap (λ e. byte_at (e ++ rest)) (escaped_control b (ltb-true b 32 small)) ∙ ap (option_map (λ x. (x, rest))) (control_back b (ltb-true b 32 small))
    | inr large ↦ (let parts = or_parts (b == 92) (b == 34) other in
        ap (λ e. byte_at (e ++ rest)) (escaped_plain b other large) ∙ cond-false _ _ _ parts.0 ∙ cond-false _ _ _ (or_from (b == 34) (nat_lt b 32) parts.1 large))
  ]
]

-- what is read as a byte is its escape
record Begins (s : List ℕ) (b : ℕ) (rest : List ℕ) : Type 0 where
  pub is : s ≡ escaped b ++ rest

pub record Mapped {A B : Type 0} (f : A → B) (o : Option A) (y : B) : Type 0 where
  pub x : A
  pub from : o ≡ Some x
  pub to : f x ≡ y

pub mapped : {A B : Type 0} (f : A → B) (o : Option A) (y : B) → option_map f o ≡ Some y → Mapped f o y
mapped f None y h = absurd (none-some y h)
mapped f (Some x) y h = record { x = x; from = refl; to = same_Some _ _ h }

control_begins : (s : List ℕ) (b : ℕ) (rest : List ℕ) → control_at s ≡ Some (b, rest) → Begins (92 ∷ 120 ∷ s) b rest
control_begins [] b rest h = absurd (none-some _ h)
control_begins (high ∷ []) b rest h = absurd (none-some _ h)
control_begins (high ∷ low ∷ behind) b rest h =
    let m = mapped (λ (x : ℕ). (x, behind)) (control_of high low) (b, rest) h in
    let c = control_sound high low m.x m.from in
    let digits : escaped m.x ≡ 92 ∷ 120 ∷ high ∷ low ∷ [] =
    escaped_control m.x c.small ∙ ap (λ d. 92 ∷ 120 ∷ d ∷ hex_digit (m.x % 16) ∷ []) c.first ∙ ap (λ d. 92 ∷ 120 ∷ high ∷ d ∷ []) c.second in
    record { is = sym (ap (λ t. t ++ behind) digits) ∙ ap (λ p. escaped p.0 ++ p.1) m.to }

escape_begins : (s : List ℕ) (b : ℕ) (rest : List ℕ) → escape_at s ≡ Some (b, rest) → Begins (92 ∷ s) b rest
escape_begins [] b rest h = absurd (none-some _ h)
escape_begins (y ∷ ys) b rest h = elim (cases_Bool (y == 120)) [
  | inl is ↦ subst (λ z. Begins (92 ∷ z ∷ ys) b rest) (sym (eqb-true _ _ is)) (control_begins ys b rest (sym (cond-true _ _ _ is) ∙ h))
  | inr isnt ↦ (let p = cond_some ((y == 92) || (y == 34)) (y, ys) (b, rest) (sym (cond-false _ _ _ isnt) ∙ h) in
      record { is = sym (ap (λ t. t ++ ys) (escaped_mark y p.0)) ∙ ap (λ q. escaped q.0 ++ q.1) p.1 })
]

other_begins : (x : ℕ) (xs : List ℕ) (b : ℕ) (rest : List ℕ) → (x == 92) ≡ false → cond {A = Option (ℕ × List ℕ)} ((x == 34) || nat_lt x 32) None (Some (x, xs)) ≡ Some (b, rest) → Begins (x ∷ xs) b rest
other_begins x xs b rest isnt h = elim (cases_Bool ((x == 34) || nat_lt x 32)) [
  | inl bad ↦ absurd (none-some _ (sym (cond-true _ _ _ bad) ∙ h))
  | inr good ↦ (let parts = or_parts (x == 34) (nat_lt x 32) good in
      let same = same_Some _ _ (sym (cond-false _ _ _ good) ∙ h) in
      record { is = sym (ap (λ t. t ++ xs) (escaped_plain x (or_from (x == 92) (x == 34) isnt parts.0) parts.1)) ∙ ap (λ q. escaped q.0 ++ q.1) same })
]

byte_begins : (s : List ℕ) (b : ℕ) (rest : List ℕ) → byte_at s ≡ Some (b, rest) → Begins s b rest
unfolding byte_at
byte_begins [] b rest h = absurd (none-some _ h)
byte_begins (x ∷ xs) b rest h = elim (cases_Bool (x == 92)) [
  | inl is ↦ subst (λ z. Begins (z ∷ xs) b rest) (sym (eqb-true _ _ is)) (escape_begins xs b rest (sym (cond-true _ _ _ is) ∙ h))
  | inr isnt ↦ other_begins x xs b rest isnt (sym (cond-false _ _ _ isnt) ∙ h)
]

-- the steps of reading
pub at_end : (n m : ℕ) (s : List ℕ) → n ≡ suc m → bytes_eq s (34 ∷ []) ≡ true → unquoted n s ≡ Some []
unfolding unquoted
at_end n m s e h = ap (λ k. unquoted k s) e ∙ cond-true _ _ _ h

pub at_fault : (n : ℕ) (s : List ℕ) → bytes_eq s (34 ∷ []) ≡ false → byte_at s ≡ None → unquoted n s ≡ None
unfolding unquoted
at_fault zero s h e = refl
at_fault (suc n) s h e = cond-false _ _ _ h ∙ ap (option_and_then (λ (p : ℕ × List ℕ). option_map (λ t. p.0 ∷ t) (unquoted n p.1))) e

pub at_byte : (n m : ℕ) (s : List ℕ) (b : ℕ) (rest : List ℕ) → n ≡ suc m → bytes_eq s (34 ∷ []) ≡ false → byte_at s ≡ Some (b, rest) → unquoted n s ≡ option_map (λ t. b ∷ t) (unquoted m rest)
unfolding unquoted
at_byte n m s b rest e h f = ap (λ k. unquoted k s) e ∙ cond-false _ _ _ h ∙ ap (option_and_then (λ (p : ℕ × List ℕ). option_map (λ t. p.0 ∷ t) (unquoted m p.1))) f

pub at_none : (n : ℕ) (s : List ℕ) → n ≡ 0 → unquoted n s ≡ None
unfolding unquoted
at_none n s e = ap (λ k. unquoted k s) e

pub with_byte : (xs : List ℕ) (b : ℕ) (o : Option (List ℕ)) → option_map (λ t. xs ++ t) (option_map (λ t. b ∷ t) o) ≡ option_map (λ t. (xs ++ b ∷ []) ++ t) o
with_byte xs b None = refl
with_byte xs b (Some t) = ap Some (sym (append_assoc xs (b ∷ []) t))

unquoted_back : (n : ℕ) (t : List ℕ) → length t < n → unquoted n (flat_map escaped t ++ 34 ∷ []) ≡ Some t
unfolding byte_at
unquoted_back zero t l = absurd (omega arith)
unquoted_back (suc n) [] l = at_end (suc n) n (34 ∷ []) refl refl
unquoted_back (suc n) (b ∷ bs) l =
    let rest = flat_map escaped bs ++ 34 ∷ [] in
    let s = (escaped b ++ flat_map escaped bs) ++ 34 ∷ [] in
    let back : byte_at s ≡ Some (b, rest) = ap byte_at (append_assoc (escaped b) (flat_map escaped bs) (34 ∷ [])) ∙ byte_back b rest in
    let more : bytes_eq s (34 ∷ []) ≡ false = false_from_ne_true _ (λ h. let same : s ≡ 34 ∷ [] = (bytes_eq-Decides s (34 ∷ [])).0 h in none-some (b, rest) (sym (ap byte_at same) ∙ back)) in
    let short : length bs < n = omega arith in
    at_byte (suc n) n s b rest refl more back ∙ ap (option_map (λ t. b ∷ t)) (unquoted_back n bs short)

unquoted_sound : (n : ℕ) (s t : List ℕ) → unquoted n s ≡ Some t → flat_map escaped t ++ 34 ∷ [] ≡ s
unfolding unquoted
unquoted_sound zero s t h = absurd (none-some _ h)
unquoted_sound (suc n) s t h = elim (cases_Bool (bytes_eq s (34 ∷ []))) [
  | inl is ↦ (let same = same_Some _ _ (sym (cond-true _ _ _ is) ∙ h) in
      ap (λ u. flat_map escaped u ++ 34 ∷ []) (sym same) ∙ sym ((bytes_eq-Decides _ _).0 is))
  | inr isnt ↦ option_and_then_some (λ (p : ℕ × List ℕ). option_map (λ u. p.0 ∷ u) (unquoted n p.1)) (byte_at s) t (sym (cond-false _ _ _ isnt) ∙ h)
      (λ p e g.
      let m = mapped (λ u. p.0 ∷ u) (unquoted n p.1) t g in
      let begins = byte_begins s p.0 p.1 e in
      ap (λ u. flat_map escaped u ++ 34 ∷ []) (sym m.to) ∙ append_assoc (escaped p.0) (flat_map escaped m.x) (34 ∷ [])
      ∙ ap (λ r. escaped p.0 ++ r) (unquoted_sound n p.1 m.x m.from) ∙ sym begins.is)
]

escaped_some : (b : ℕ) → 1 ≤ length (escaped b)
escaped_some b =
    cond_both ((b == 92) || (b == 34)) _ _ (λ e. 1 ≤ length e) (λ _. omega arith)
    (λ _. cond_both (nat_lt b 32) _ _ (λ e. 1 ≤ length e) (λ _. omega arith) (λ _. omega arith))

escaped_length : (t : List ℕ) → length t ≤ length (flat_map escaped t)
escaped_length [] = omega arith
escaped_length (b ∷ bs) = omega (arith, length-append (escaped b) (flat_map escaped bs), escaped_some b, escaped_length bs)

quote_back : (t : List ℕ) → behind_quote (quoted t) ≡ Some t
unfolding quoted
quote_back t = unquoted_back _ t (omega (arith, length-append (flat_map escaped t) (34 ∷ []), escaped_length t))

quote_sound : (s t : List ℕ) → behind_quote s ≡ Some t → quoted t ≡ s
unfolding quoted
quote_sound [] t h = absurd (none-some _ h)
quote_sound (b ∷ bs) t h = elim (cases_Bool (b == 34)) [
  | inl is ↦ (let whole = unquoted_sound (length bs) bs t (sym (cond-true _ _ _ is) ∙ h) in
      ap (λ r. 34 ∷ r) whole ∙ ap (λ q. q ∷ bs) (sym (eqb-true _ _ is)))
  | inr isnt ↦ absurd (none-some _ (sym (cond-false _ _ _ isnt) ∙ h))
]

-- a text in quotes is read back, and nothing else is
pub quoted_form : IsForm quoted (λ t. is_utf8 t ≡ true) text_of
unfolding text_of
quoted_form = record {
  sound = λ s t h. option_and_then_some (formed is_utf8) (behind_quote s) t h (λ u e f.
      let p = cond_some (is_utf8 u) u t f in
      (subst (λ v. is_utf8 v ≡ true) p.1 p.0, quote_sound s t (e ∙ ap Some p.1)));
  complete = λ t u. ap (option_and_then (formed is_utf8)) (quote_back t) ∙ cond-true _ _ _ u;
}
