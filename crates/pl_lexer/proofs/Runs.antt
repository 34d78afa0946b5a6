-- The bytes at the front of a text that pass a test.
use Rattle.std.proofs.Common.{◌≡◌, ℕ, zero, suc, ◌+◌, ◌<◌, ◌≤◌, Bool, true, false, ◌&&◌, List, [], ◌∷◌, ◌++◌, length, take, drop, sym, refl, ap, ◌∙◌, arith}
use Rattle.std.specs.List.{prefix_len, list_all}
use Rattle.std.proofs.lemmas.Bool.{false≢true}
use Rattle.std.proofs.Math.Numerals.{one-add}
use Rattle.pl_lexer.specs.Bytes.{begins, is_nil, after_run}

pub both : (a b : Bool) → (a && b) ≡ true → (a ≡ true) × (b ≡ true)
both true b e = (refl, e)
both false b e = absurd (false≢true e)

pub is_nil-true : (bytes : List ℕ) → is_nil bytes ≡ true → bytes ≡ []
is_nil-true [] e = refl
is_nil-true (b ∷ bs) e = absurd (false≢true e)

-- bytes that all pass are no longer than the run of those that pass
pub all_within : (p : ℕ → Bool) (more left text : List ℕ) → more ++ left ≡ text → list_all p more ≡ true → length more ≤ prefix_len p text
all_within p [] left text e all = omega arith
all_within p (c ∷ cs) left [] e all = absurd cc
all_within p (c ∷ cs) left (b ∷ bs) e all =
    let parts = both (p c) (list_all p cs) all in
    let heads : c ≡ b = cc in
    let tails : cs ++ left ≡ bs = cc in
    let passes : p b ≡ true = ap p (sym heads) ∙ parts.0 in
    let rest = all_within p cs left bs tails parts.1 in
    rw passes (omega arith)

-- the run of those that pass
pub run_passes : (p : ℕ → Bool) (text : List ℕ) → list_all p (take (prefix_len p text) text) ≡ true
run_passes p [] = refl
run_passes p (b ∷ bs) = at_head (p b) refl (run_passes p bs) where
  at_head : (v : Bool) → p b ≡ v → list_all p (take (prefix_len p bs) bs) ≡ true → list_all p (take (prefix_len p (b ∷ bs)) (b ∷ bs)) ≡ true
  at_head true e rest = rw (e, one-add, e) rest
  at_head false e rest = rw e refl

-- no byte that passes follows it
pub run_ends : (p : ℕ → Bool) (text : List ℕ) → begins p (after_run p text) ≡ false
run_ends p [] = refl
run_ends p (b ∷ bs) = at_head (p b) refl (run_ends p bs) where
  at_head : (v : Bool) → p b ≡ v → begins p (drop (prefix_len p bs) bs) ≡ false → begins p (drop (prefix_len p (b ∷ bs)) (b ∷ bs)) ≡ false
  at_head true e rest = rw (e, one-add) rest
  at_head false e rest = rw e e

-- a run is not empty where its first byte passes
pub run_some : (p : ℕ → Bool) (text : List ℕ) → begins p text ≡ true → 0 < prefix_len p text
run_some p [] e = absurd (false≢true e)
run_some p (b ∷ bs) e = rw e (omega arith)

pub run_none : (p : ℕ → Bool) (text : List ℕ) → begins p text ≡ false → prefix_len p text ≡ 0
run_none p [] e = refl
run_none p (b ∷ bs) e = rw e refl

-- where a byte that does not pass stands in the bytes, the run of the text is that of the bytes
pub run_append : (p : ℕ → Bool) (more left : List ℕ) → list_all p more ≡ false → prefix_len p (more ++ left) ≡ prefix_len p more
run_append p [] left e = absurd (false≢true (sym e))
run_append p (c ∷ cs) left e = at_head (p c) refl (run_append p cs left) where
  at_head : (v : Bool) → p c ≡ v → (list_all p cs ≡ false → prefix_len p (cs ++ left) ≡ prefix_len p cs) → prefix_len p (c ∷ cs ++ left) ≡ prefix_len p (c ∷ cs)
  at_head true f rest = let tail : list_all p cs ≡ false = rw f at e in rw (f, rest tail) refl
  at_head false f rest = rw f refl

-- a front that is not empty begins as its text
pub begins_more : (p : ℕ → Bool) (c : ℕ) (cs left text : List ℕ) → c ∷ cs ++ left ≡ text → p c ≡ begins p text
begins_more p c cs left text e = ap (begins p) e

pub begins_front : (p : ℕ → Bool) (more left text : List ℕ) → more ++ left ≡ text → begins p more ≡ true → begins p text ≡ true
begins_front p [] left text e b = absurd (false≢true b)
begins_front p (c ∷ cs) left text e b = sym (begins_more p c cs left text e) ∙ b

-- all pass, or the run ends before the end
pub run_all : (p : ℕ → Bool) (bytes : List ℕ) → list_all p bytes ≡ true → after_run p bytes ≡ []
run_all p [] e = refl
run_all p (b ∷ bs) e =
    let parts = both (p b) (list_all p bs) e in
    rw (parts.0, one-add) (run_all p bs parts.1)

pub run_is_all : (p : ℕ → Bool) (bytes : List ℕ) → after_run p bytes ≡ [] → list_all p bytes ≡ true
run_is_all p [] e = refl
run_is_all p (b ∷ bs) e = at_head (p b) refl (run_is_all p bs) where
  at_head : (v : Bool) → p b ≡ v → (after_run p bs ≡ [] → list_all p bs ≡ true) → list_all p (b ∷ bs) ≡ true
  at_head true f rest = let tail : after_run p bs ≡ [] = rw (f, one-add) at e in rw f (rest tail)
  at_head false f rest = let none : b ∷ bs ≡ [] = rw f at e in absurd cc

-- the run, and what stands after it
pub run_parts : (p : ℕ → Bool) (bytes : List ℕ) → length bytes ≡ prefix_len p bytes + length (after_run p bytes)
run_parts p [] = refl
run_parts p (b ∷ bs) = at_head (p b) refl (run_parts p bs) where
  at_head : (v : Bool) → p b ≡ v → length bs ≡ prefix_len p bs + length (after_run p bs) → length (b ∷ bs) ≡ prefix_len p (b ∷ bs) + length (after_run p (b ∷ bs))
  at_head true f rest = rw (f, one-add) (omega arith)
  at_head false f rest = rw f (omega arith)

-- what stands after the run of the text, where the run ends within the bytes
pub after_run_append : (p : ℕ → Bool) (more left : List ℕ) → list_all p more ≡ false → after_run p (more ++ left) ≡ after_run p more ++ left
after_run_append p [] left e = absurd (false≢true (sym e))
after_run_append p (c ∷ cs) left e = at_head (p c) refl (after_run_append p cs left) where
  at_head : (v : Bool) → p c ≡ v → (list_all p cs ≡ false → after_run p (cs ++ left) ≡ after_run p cs ++ left) → after_run p (c ∷ cs ++ left) ≡ after_run p (c ∷ cs) ++ left
  at_head true f rest = let tail : list_all p cs ≡ false = rw f at e in rw (f, one-add, one-add) (rest tail)
  at_head false f rest = rw f refl

pub run_within : (p : ℕ → Bool) (text : List ℕ) → prefix_len p text ≤ length text
run_within p [] = omega arith
run_within p (b ∷ bs) = at_head (p b) refl (run_within p bs) where
  at_head : (v : Bool) → p b ≡ v → prefix_len p bs ≤ length bs → prefix_len p (b ∷ bs) ≤ length (b ∷ bs)
  at_head true f rest = rw f (omega arith)
  at_head false f rest = rw f (omega arith)

-- bytes that pass, and then one that does not
pub run_seam : (p : ℕ → Bool) (xs tail : List ℕ) → list_all p xs ≡ true → begins p tail ≡ false → after_run p (xs ++ tail) ≡ tail
run_seam p [] tail all ends = rw (run_none p tail ends) refl
run_seam p (x ∷ xs) tail all ends =
    let parts = both (p x) (list_all p xs) all in
    rw (parts.0, one-add) (run_seam p xs tail parts.1 ends)

-- within the run each byte passes
pub run_reaches : (p : ℕ → Bool) (text : List ℕ) (n : ℕ) → n < prefix_len p text → begins p (drop n text) ≡ true
run_reaches p [] n low = absurd (omega arith)
run_reaches p (b ∷ bs) zero low = at_head (p b) refl where
  at_head : (v : Bool) → p b ≡ v → p b ≡ true
  at_head true f = f
  at_head false f = absurd (omega (arith, rw f at low))
run_reaches p (b ∷ bs) (suc n) low = at_head (p b) refl (run_reaches p bs n) where
  at_head : (v : Bool) → p b ≡ v → (n < prefix_len p bs → begins p (drop n bs) ≡ true) → begins p (drop n bs) ≡ true
  at_head true f rest = rest (omega (arith, rw f at low))
  at_head false f rest = absurd (omega (arith, rw f at low))

-- a front that has the run has the same run
pub run_taken : (p : ℕ → Bool) (text : List ℕ) (n : ℕ) → prefix_len p text ≤ n → prefix_len p (take n text) ≡ prefix_len p text
run_taken p text zero low = omega arith
run_taken p [] (suc n) low = refl
run_taken p (b ∷ bs) (suc n) low = at_head (p b) refl (run_taken p bs n) where
  at_head : (v : Bool) → p b ≡ v → (prefix_len p bs ≤ n → prefix_len p (take n bs) ≡ prefix_len p bs) → prefix_len p (b ∷ take n bs) ≡ prefix_len p (b ∷ bs)
  at_head true f rest = let same = rest (omega (arith, rw f at low)) in rw (f, same) refl
  at_head false f rest = rw f refl

pub begins_taken : (p : ℕ → Bool) (n : ℕ) (text : List ℕ) → 0 < n → begins p text ≡ true → begins p (take n text) ≡ true
begins_taken p zero text some e = absurd (omega arith)
begins_taken p (suc n) [] some e = absurd (false≢true e)
begins_taken p (suc n) (b ∷ bs) some e = e
