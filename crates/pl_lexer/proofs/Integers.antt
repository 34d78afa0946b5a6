-- The longest integer at the front of a text.
use Rattle.std.proofs.Common.{◌≡◌, ℕ, zero, suc, ◌+◌, ◌<◌, ◌≤◌, Bool, true, false, ◌||◌, List, [], ◌∷◌, ◌++◌, length, take, Some, None, sym, refl, ap, ◌∙◌, arith, ◌⊎◌, inl, inr}
use Rattle.std.specs.Prelude.{◌==◌, if◌then◌else◌}
use Rattle.std.specs.Char.{is_ascii_digit, is_ascii_hexdigit}
use Rattle.std.specs.List.{prefix_len, list_all}
use Rattle.std.proofs.lemmas.Bool.{false≢true}
use Rattle.std.proofs.lemmas.Bool.Decides.{nat_tests}
use Rattle.std.proofs.Math.Numerals.{one-add}
use Rattle.pl_lexer.specs.declared.token.Kind.TheVariants.{Integer, DotInteger}
use Rattle.pl_lexer.specs.Lexeme.{token}
use Rattle.pl_lexer.specs.Longest.{LeadsBy}
use Rattle.pl_lexer.specs.Bytes.{begins, is_nil, after_run, is_octal_digit}
use Rattle.pl_lexer.specs.Numbers.{is_long_mark, ends_integer, digits_end, ends_hexadecimal, is_integer, is_dot_integer, dot_number_of}
use Rattle.pl_lexer.specs.Lengths.{whole_length, mark_length, digits_length, begins_hexadecimal, hexadecimal_length, integer_length}
use Rattle.pl_lexer.proofs.Runs.{both, is_nil-true, all_within, run_passes, run_some, run_none, run_append, run_within, begins_front, begins_taken, run_is_all, run_parts, after_run_append}
use Rattle.pl_lexer.proofs.Tested.{test_leads}

pub either : (a b : Bool) → (a || b) ≡ true → (a ≡ true) ⊎ (b ≡ true)
either true b e = inl refl
either false b e = inr e

pub or_right : (a b : Bool) → b ≡ true → (a || b) ≡ true
or_right true b e = refl
or_right false b e = e

pub or_left : (a b : Bool) → a ≡ true → (a || b) ≡ true
or_left a b e = rw e refl

-- after digits

digits_spelled : (p : ℕ → Bool) (text : List ℕ) → (digits_length p text ≤ length text) × (ends_integer (after_run p (take (digits_length p text) text)) ≡ true)
digits_spelled p [] = (omega arith, refl)
digits_spelled p (b ∷ bs) = at_head (p b) refl (digits_spelled p bs) where
  at_mark : (v : Bool) → p b ≡ false → is_long_mark b ≡ v → (digits_length p (b ∷ bs) ≤ length (b ∷ bs)) × (ends_integer (after_run p (take (digits_length p (b ∷ bs)) (b ∷ bs))) ≡ true)
  at_mark true f m =
      let one : digits_length p (b ∷ bs) ≡ 1 = rw (f, m) refl in
      rw one (omega arith, rw (f, m) refl)
  at_mark false f m =
      let none : digits_length p (b ∷ bs) ≡ 0 = rw (f, m) refl in
      rw none (omega arith, refl)

  at_head : (v : Bool) → p b ≡ v → (digits_length p bs ≤ length bs) × (ends_integer (after_run p (take (digits_length p bs) bs)) ≡ true) → (digits_length p (b ∷ bs) ≤ length (b ∷ bs)) × (ends_integer (after_run p (take (digits_length p (b ∷ bs)) (b ∷ bs))) ≡ true)
  at_head true f rest =
      let more : digits_length p (b ∷ bs) ≡ suc (digits_length p bs) = rw (f, one-add) (omega arith) in
      rw more (omega (arith, rest.0), rw (f, one-add) rest.1)
  at_head false f rest = at_mark (is_long_mark b) f refl

digits_most : (p : ℕ → Bool) (more left text : List ℕ) → more ++ left ≡ text → ends_integer (after_run p more) ≡ true → length more ≤ digits_length p text
digits_most p more left text e ends = at_all (list_all p more) refl where
  at_end : (rest : List ℕ) → after_run p more ≡ rest → list_all p more ≡ false → ends_integer rest ≡ true → length more ≤ digits_length p text
  at_end [] is all ends' = absurd (false≢true (sym all ∙ run_is_all p more is))
  at_end (m ∷ ms) is all ends' =
      let parts = both (is_long_mark m) (is_nil ms) ends' in
      let alone : ms ≡ [] = is_nil-true ms parts.1 in
      let long : length more ≡ prefix_len p more + suc (length ms) = run_parts p more ∙ ap (λ r. prefix_len p more + length r) is in
      let run : prefix_len p text ≡ prefix_len p more = ap (prefix_len p) (sym e) ∙ run_append p more left all in
      let behind : after_run p text ≡ m ∷ (ms ++ left) = ap (after_run p) (sym e) ∙ after_run_append p more left all ∙ ap (λ r. r ++ left) is in
      let mark : mark_length (after_run p text) ≡ 1 = rw (behind, parts.0) refl in
      omega (arith, ap length alone)

  at_all : (v : Bool) → list_all p more ≡ v → length more ≤ digits_length p text
  at_all true all = omega (arith, all_within p more left text e all)
  at_all false all = at_end (after_run p more) refl all ends

-- one mark ends an integer, whatever digits it stands behind
ends_after : (p : ℕ → Bool) (bytes : List ℕ) → ends_integer bytes ≡ true → ends_integer (after_run p bytes) ≡ true
ends_after p [] e = refl
ends_after p (m ∷ ms) e = at_head (p m) refl where
  at_head : (v : Bool) → p m ≡ v → ends_integer (after_run p (m ∷ ms)) ≡ true
  at_head true f =
      let alone : ms ≡ [] = is_nil-true ms (both (is_long_mark m) (is_nil ms) e).1 in
      rw (f, one-add, alone) refl
  at_head false f = rw f e

-- digits, and the mark of a long
ended_spelled : (p : ℕ → Bool) (text : List ℕ) → begins p text ≡ true → digits_end p (take (digits_length p text) text) ≡ true
ended_spelled p text e =
    let some = run_some p text e in
    rw (begins_taken p (digits_length p text) text (omega arith) e, (digits_spelled p text).1) refl

mark_spelled : (text : List ℕ) → (mark_length text ≤ length text) × (ends_integer (take (mark_length text) text) ≡ true)
mark_spelled [] = (omega arith, refl)
mark_spelled (b ∷ bs) = at_head (is_long_mark b) refl where
  at_head : (v : Bool) → is_long_mark b ≡ v → (mark_length (b ∷ bs) ≤ length (b ∷ bs)) × (ends_integer (take (mark_length (b ∷ bs)) (b ∷ bs)) ≡ true)
  at_head true f = rw f (omega arith, rw f refl)
  at_head false f = rw f (omega arith, refl)

hexadecimal_spelled : (bs : List ℕ) → begins_hexadecimal bs ≡ true → (hexadecimal_length bs ≤ length bs) × (ends_hexadecimal (take (hexadecimal_length bs) bs) ≡ true)
hexadecimal_spelled [] e = absurd (false≢true e)
hexadecimal_spelled (x ∷ cs) e =
    let parts = both (x == 120 || x == 88) (begins is_ascii_hexdigit cs) e in
    let spelled = digits_spelled is_ascii_hexdigit cs in
    let long : hexadecimal_length (x ∷ cs) ≡ suc (digits_length is_ascii_hexdigit cs) = one-add _ in
    rw long (omega (arith, spelled.0), rw (parts.0, ended_spelled is_ascii_hexdigit cs parts.1) refl)

-- after a 0
zero_length : List ℕ → ℕ
zero_length bs = if begins_hexadecimal bs then hexadecimal_length bs else digits_length is_octal_digit bs

zero_ends : List ℕ → Bool
zero_ends bs = ends_integer bs || digits_end is_octal_digit bs || ends_hexadecimal bs

zero_spelled : (bs : List ℕ) → (zero_length bs ≤ length bs) × (zero_ends (take (zero_length bs) bs) ≡ true)
unfolding zero_length zero_ends
zero_spelled bs = at_hex (begins_hexadecimal bs) refl where
  at_octal : (v : Bool) → begins is_octal_digit bs ≡ v → (digits_length is_octal_digit bs ≤ length bs) × (zero_ends (take (digits_length is_octal_digit bs) bs) ≡ true)
  at_octal true f = ((digits_spelled is_octal_digit bs).0, or_left _ _ (or_right _ _ (ended_spelled is_octal_digit bs f)))
  at_octal false f =
      let none = run_none is_octal_digit bs f in
      let mark : digits_length is_octal_digit bs ≡ mark_length bs = rw none (omega arith) in
      let spelled = mark_spelled bs in
      rw mark (spelled.0, or_left _ _ (or_left _ _ spelled.1))

  at_hex : (v : Bool) → begins_hexadecimal bs ≡ v → (zero_length bs ≤ length bs) × (zero_ends (take (zero_length bs) bs) ≡ true)
  at_hex true f = let spelled = hexadecimal_spelled bs f in rw f (spelled.0, or_right _ _ spelled.1)
  at_hex false f = rw f (at_octal (begins is_octal_digit bs) refl)

no_octal_hexadecimal : (bs : List ℕ) → begins_hexadecimal bs ≡ true → begins is_octal_digit bs ≡ true → ⊥
no_octal_hexadecimal [] e f = false≢true e
no_octal_hexadecimal (x ∷ cs) e f = letters x (both (x == 120 || x == 88) (begins is_ascii_hexdigit cs) e).0 f where
  letters : (x : ℕ) → (x == 120 || x == 88) ≡ true → is_octal_digit x ≡ true → ⊥
  letters x e f = grind (arith, nat_tests)

hexadecimal_some : (bs : List ℕ) → begins_hexadecimal bs ≡ true → 0 < hexadecimal_length bs
hexadecimal_some [] e = absurd (false≢true e)
hexadecimal_some (x ∷ cs) e = omega arith

hexadecimal_front : (ms left bs : List ℕ) → ms ++ left ≡ bs → ends_hexadecimal ms ≡ true → begins_hexadecimal bs ≡ true
hexadecimal_front [] left bs e ends = absurd (false≢true ends)
hexadecimal_front (x ∷ ks) left bs e ends =
    let parts = both (x == 120 || x == 88) (digits_end is_ascii_hexdigit ks) ends in
    let digit = begins_front is_ascii_hexdigit ks left (ks ++ left) refl (both (begins is_ascii_hexdigit ks) (ends_integer (after_run is_ascii_hexdigit ks)) parts.1).0 in
    rw (← e) (rw (parts.0, digit) refl)

hexadecimal_most : (ms left bs : List ℕ) → ms ++ left ≡ bs → ends_hexadecimal ms ≡ true → length ms ≤ hexadecimal_length bs
hexadecimal_most [] left bs e ends = omega arith
hexadecimal_most (x ∷ ks) left [] e ends = absurd cc
hexadecimal_most (x ∷ ks) left (b ∷ cs) e ends =
    let parts = both (x == 120 || x == 88) (digits_end is_ascii_hexdigit ks) ends in
    let tails : ks ++ left ≡ cs = cc in
    let most = digits_most is_ascii_hexdigit ks left cs tails (both (begins is_ascii_hexdigit ks) (ends_integer (after_run is_ascii_hexdigit ks)) parts.1).1 in
    omega arith

mark_most : (ms : List ℕ) → ends_integer ms ≡ true → length ms ≤ 1
mark_most [] e = omega arith
mark_most (m ∷ ms) e = omega (arith, ap length (is_nil-true ms (both (is_long_mark m) (is_nil ms) e).1))

zero_most : (ms left bs : List ℕ) → ms ++ left ≡ bs → zero_ends ms ≡ true → length ms ≤ zero_length bs
unfolding zero_length zero_ends
zero_most ms left bs e ends = at_hex (begins_hexadecimal bs) refl (either (ends_integer ms || digits_end is_octal_digit ms) (ends_hexadecimal ms) ends) where
  octal : digits_end is_octal_digit ms ≡ true → (begins is_octal_digit bs ≡ true) × (length ms ≤ digits_length is_octal_digit bs)
  octal d = let parts = both (begins is_octal_digit ms) (ends_integer (after_run is_octal_digit ms)) d in (begins_front is_octal_digit ms left bs e parts.0, digits_most is_octal_digit ms left bs e parts.1)

  marked : begins_hexadecimal bs ≡ true → (ends_integer ms ≡ true) ⊎ (digits_end is_octal_digit ms ≡ true) → length ms ≤ hexadecimal_length bs
  marked f (inl m) = omega (arith, mark_most ms m, hexadecimal_some bs f)
  marked f (inr d) = absurd (no_octal_hexadecimal bs f (octal d).0)

  plain : (ends_integer ms ≡ true) ⊎ (digits_end is_octal_digit ms ≡ true) → length ms ≤ digits_length is_octal_digit bs
  plain (inl m) = digits_most is_octal_digit ms left bs e (ends_after is_octal_digit ms m)
  plain (inr d) = (octal d).1

  at_hex : (v : Bool) → begins_hexadecimal bs ≡ v → ((ends_integer ms || digits_end is_octal_digit ms) ≡ true) ⊎ (ends_hexadecimal ms ≡ true) → length ms ≤ zero_length bs
  at_hex true f (inl low) = rw f (marked f (either _ _ low))
  at_hex true f (inr high) = rw f (hexadecimal_most ms left bs e high)
  at_hex false f (inl low) = rw f (plain (either _ _ low))
  at_hex false f (inr high) = absurd (false≢true (sym f ∙ hexadecimal_front ms left bs e high))

-- the integer at the front is spelled so, and no longer front is an integer
pub integer_leads : (text : List ℕ) → begins is_ascii_digit text ≡ true → LeadsBy (λ bytes _. if is_integer bytes then Some (token Integer) else None) text (integer_length text) (token Integer)
unfolding zero_length zero_ends
integer_leads [] digit = absurd (false≢true digit)
integer_leads (b ∷ bs) digit = at_zero (b == 48) refl where
  not_zero : (n : ℕ) → (b == 48) ≡ false → 0 < n → digits_end is_ascii_digit (take n (b ∷ bs)) ≡ true → is_integer (take n (b ∷ bs)) ≡ true
  not_zero zero f some e = absurd (omega arith)
  not_zero (suc n) f some e = rw f e

  most : (v : Bool) → (b == 48) ≡ v → (more left : List ℕ) → more ++ left ≡ b ∷ bs → is_integer more ≡ true → length more ≤ integer_length (b ∷ bs)
  most v f [] left e test = omega arith
  most true f (c ∷ ms) left e test =
      let heads : c ≡ b = cc in
      let tails : ms ++ left ≡ bs = cc in
      let same : (c == 48) ≡ true = ap (λ x. x == 48) heads ∙ f in
      let ends : zero_ends ms ≡ true = rw same at test in
      let bound = zero_most ms left bs tails ends in
      rw f (omega arith)
  most false f (c ∷ ms) left e test =
      let heads : c ≡ b = cc in
      let same : (c == 48) ≡ false = ap (λ x. x == 48) heads ∙ f in
      let ends : digits_end is_ascii_digit (c ∷ ms) ≡ true = rw same at test in
      rw f (digits_most is_ascii_digit (c ∷ ms) left (b ∷ bs) e (both (begins is_ascii_digit (c ∷ ms)) (ends_integer (after_run is_ascii_digit (c ∷ ms))) ends).1)

  at_zero : (v : Bool) → (b == 48) ≡ v → LeadsBy (λ bytes _. if is_integer bytes then Some (token Integer) else None) (b ∷ bs) (integer_length (b ∷ bs)) (token Integer)
  at_zero true f =
      let spelled = zero_spelled bs in
      let long : integer_length (b ∷ bs) ≡ suc (zero_length bs) = rw (f, one-add) refl in
      test_leads is_integer (token Integer) (b ∷ bs) (integer_length (b ∷ bs)) (rw long (omega (arith, spelled.0))) (rw long (rw f spelled.1)) (most true f)
  at_zero false f =
      let spelled = digits_spelled is_ascii_digit (b ∷ bs) in
      let long : integer_length (b ∷ bs) ≡ digits_length is_ascii_digit (b ∷ bs) = rw f refl in
      let ended = ended_spelled is_ascii_digit (b ∷ bs) digit in
      let passes : is_integer (take (digits_length is_ascii_digit (b ∷ bs)) (b ∷ bs)) ≡ true = not_zero (digits_length is_ascii_digit (b ∷ bs)) f (omega (arith, run_some is_ascii_digit (b ∷ bs) digit)) ended in
      test_leads is_integer (token Integer) (b ∷ bs) (integer_length (b ∷ bs)) (rw long spelled.0) (rw long passes) (most false f)

-- after a dot
pub dot_number_leads : (text : List ℕ) → begins is_ascii_digit text ≡ true → LeadsBy (λ bytes _. dot_number_of bytes) text (whole_length text) (token DotInteger)
dot_number_leads [] digit = absurd (false≢true digit)
dot_number_leads (b ∷ bs) digit = test_leads is_dot_integer (token DotInteger) (b ∷ bs) (whole_length (b ∷ bs)) (within (b == 48) refl) (passes (b == 48) refl) (most (b == 48) refl) where
  within : (v : Bool) → (b == 48) ≡ v → whole_length (b ∷ bs) ≤ length (b ∷ bs)
  within true f = rw f (omega arith)
  within false f = rw f (run_within is_ascii_digit (b ∷ bs))

  run : (n : ℕ) → (b == 48) ≡ false → 0 < n → list_all is_ascii_digit (take n (b ∷ bs)) ≡ true → is_dot_integer (take n (b ∷ bs)) ≡ true
  run zero f some all = absurd (omega arith)
  run (suc n) f some all = rw f all

  passes : (v : Bool) → (b == 48) ≡ v → is_dot_integer (take (whole_length (b ∷ bs)) (b ∷ bs)) ≡ true
  passes true f = rw f (rw f refl)
  passes false f = rw f (run (prefix_len is_ascii_digit (b ∷ bs)) f (run_some is_ascii_digit (b ∷ bs) digit) (run_passes is_ascii_digit (b ∷ bs)))

  most : (v : Bool) → (b == 48) ≡ v → (more left : List ℕ) → more ++ left ≡ b ∷ bs → is_dot_integer more ≡ true → length more ≤ whole_length (b ∷ bs)
  most v f [] left e test = absurd (false≢true test)
  most true f (c ∷ ms) left e test =
      let heads : c ≡ b = cc in
      let same : (c == 48) ≡ true = ap (λ x. x == 48) heads ∙ f in
      let alone : ms ≡ [] = is_nil-true ms (rw same at test) in
      rw f (omega (arith, ap length alone))
  most false f (c ∷ ms) left e test =
      let heads : c ≡ b = cc in
      let same : (c == 48) ≡ false = ap (λ x. x == 48) heads ∙ f in
      let all : list_all is_ascii_digit (c ∷ ms) ≡ true = rw same at test in
      rw f (all_within is_ascii_digit (c ∷ ms) left (b ∷ bs) e all)
