-- Words of the frames that lie one on the other.
use Rattle.std.proofs.Common.{◌≡◌, ℕ, zero, suc, ◌+◌, ◌-◌, ◌<◌, ◌≤◌, List, [], ◌∷◌, ◌++◌, length, slice_set, Some, None, arith, refl, ap, sym, subst, ◌∙◌}
use Rattle.std.specs.Prelude.{get_or, slice_get, take, drop, reverse}
use Rattle.std.proofs.lemmas.List.{drop-take, length-drop, length-reverse, length-take, drop-set-lt, drop-set-add, take-set-le, get_or-reverse, get_or-drop, reverse-append, reverse-reverse, set-append_right}
use Rattle.std.proofs.lemmas.Option.{slice_get-get_or, slice_get_past}
use Rattle.std.proofs.Math.Seq.{take-set-lt, take-length, drop-length}
use Rattle.code_meaning.specs.declared.word.Word.{Word}
use Rattle.code_meaning.specs.Machine.{depth_of}
use Rattle.machine_parts.specs.declared.frames.Held.{Held}
use Rattle.code_meaning.specs.Sizes.{frame_words, words_in}
use Rattle.machine_parts.specs.Frames.{Within, own, lie}

pub written : {X : Type 0} (base locals number : ℕ) (xs : List X) (x : X) → number < locals
    → take locals (drop base (slice_set xs (base + number) x)) ≡ slice_set (take locals (drop base xs)) number x
written base locals number xs x h = ap (take locals) (drop-set-add base xs number x) ∙ take-set-lt locals (drop base xs) number x h

pub stack_stays : {X : Type 0} (base locals number : ℕ) (xs : List X) (x : X) → number < locals → drop (base + locals) (slice_set xs (base + number) x) ≡ drop (base + locals) xs
stack_stays base locals number xs x h = drop-set-lt (base + locals) xs (base + number) x (omega arith)

pub rest_stays : {X : Type 0} (base number : ℕ) (xs : List X) (x : X) → take base (slice_set xs (base + number) x) ≡ take base xs
rest_stays base number xs x = take-set-le base xs (base + number) x (omega arith)

-- the last word lies on the top
module _ {X : Type 0} (n : ℕ) (xs : List X) where
  last_upper : (d : X) → n < length xs → get_or (reverse (drop n xs)) 0 d ≡ get_or xs (length xs - 1) d
  last_upper d h =
      get_or-reverse (drop n xs) 0 d (omega (arith, length-drop n xs)) ∙ get_or-drop n xs (length (drop n xs) - 1 - 0) d
      ∙ ap (λ k. get_or xs k d) {x = n + (length (drop n xs) - 1 - 0)} {y = length xs - 1} (omega (arith, length-drop n xs))

  pub upper : n < length xs → slice_get (reverse (drop n xs)) 0 ≡ slice_get xs (length xs - 1)
  upper h = last xs refl where
    last : (ys : List X) → xs ≡ ys → slice_get (reverse (drop n xs)) 0 ≡ slice_get xs (length xs - 1)
    last [] e = absurd (omega (arith, ap length e))
    last (d ∷ ys) e =
        slice_get-get_or (reverse (drop n xs)) 0 d (omega (arith, length-reverse (drop n xs), length-drop n xs)) ∙ ap Some (last_upper d h)
        ∙ sym (slice_get-get_or xs (length xs - 1) d (omega arith))

  pub none_upper : length xs ≤ n → slice_get (reverse (drop n xs)) 0 ≡ None
  none_upper h = slice_get_past (reverse (drop n xs)) 0 (omega (arith, length-reverse (drop n xs), length-drop n xs))

-- The second word from the top
module _ {X : Type 0} (n : ℕ) (xs : List X) where
  last_lower : (d : X) → n + 2 ≤ length xs → get_or (reverse (drop n xs)) 1 d ≡ get_or xs (length xs - 2) d
  last_lower d h =
      get_or-reverse (drop n xs) 1 d (omega (arith, length-drop n xs)) ∙ get_or-drop n xs (length (drop n xs) - 1 - 1) d
      ∙ ap (λ k. get_or xs k d) {x = n + (length (drop n xs) - 1 - 1)} {y = length xs - 2} (omega (arith, length-drop n xs))

  pub lower : n + 2 ≤ length xs → slice_get (reverse (drop n xs)) 1 ≡ slice_get xs (length xs - 2)
  lower h = last xs refl where
    last : (ys : List X) → xs ≡ ys → slice_get (reverse (drop n xs)) 1 ≡ slice_get xs (length xs - 2)
    last [] e = absurd (omega (arith, ap length e))
    last (d ∷ ys) e =
        slice_get-get_or (reverse (drop n xs)) 1 d (omega (arith, length-reverse (drop n xs), length-drop n xs)) ∙ ap Some (last_lower d h)
        ∙ sym (slice_get-get_or xs (length xs - 2) d (omega arith))

  pub none_lower : length xs < n + 2 → slice_get (reverse (drop n xs)) 1 ≡ None
  none_lower h = slice_get_past (reverse (drop n xs)) 1 (omega (arith, length-reverse (drop n xs), length-drop n xs))

pub left_below : (word : Word) (stack rest : List Word) → stack ≡ word ∷ rest → rest ≡ drop 1 stack
left_below word stack rest e = sym (ap (drop 1) e)

-- ---- a word that is written in the place of the last one

module _ {X : Type 0} where
  turned : (r x : X) (rs : List X) → reverse (slice_set (reverse (r ∷ rs)) (length rs) x) ≡ x ∷ rs
  turned r x rs =
      ap (λ ys. reverse (slice_set ys (length rs) x)) (reverse-append (r ∷ []) rs)
      ∙ ap reverse (set-append_right (reverse rs) (r ∷ []) (length rs) (length rs) x (length-reverse rs) (omega arith))
      ∙ ap (λ k. reverse (reverse rs ++ slice_set (r ∷ []) k x)) {x = length rs - length rs} {y = 0} (omega arith)
      ∙ reverse-append (reverse rs) (x ∷ []) ∙ ap (λ ys. x ∷ ys) (reverse-reverse rs)

  last_written : (xs : List X) (x : X) → 0 < length xs → reverse (slice_set xs (length xs - 1) x) ≡ x ∷ drop 1 (reverse xs)
  last_written xs x h = by_last (reverse xs) refl where
    by_last : (rs : List X) → reverse xs ≡ rs → reverse (slice_set xs (length xs - 1) x) ≡ x ∷ drop 1 (reverse xs)
    by_last [] e = absurd (omega (arith, length-reverse xs, ap length e))
    by_last (r ∷ rs) e =
        ap (λ ys. reverse (slice_set ys (length xs - 1) x)) (sym (reverse-reverse xs) ∙ ap reverse e)
        ∙ ap (λ k. reverse (slice_set (reverse (r ∷ rs)) k x)) {x = length xs - 1} {y = length rs} (omega (arith, length-reverse xs, ap length e))
        ∙ turned r x rs ∙ ap (λ ys. x ∷ drop 1 ys) (sym e)

  pub upper_written : (n : ℕ) (xs : List X) (x : X) → n < length xs → reverse (drop n (slice_set xs (length xs - 1) x)) ≡ x ∷ drop 1 (reverse (drop n xs))
  upper_written n xs x h =
      ap (λ k. reverse (drop n (slice_set xs k x))) {x = length xs - 1} {y = n + (length (drop n xs) - 1)} (omega (arith, length-drop n xs))
      ∙ ap reverse (drop-set-add n xs (length (drop n xs) - 1) x) ∙ last_written (drop n xs) x (omega (arith, length-drop n xs))

  pub locals_below : (base locals : ℕ) (xs : List X) (x : X) → base + locals < length xs → take locals (drop base (slice_set xs (length xs - 1) x)) ≡ take locals (drop base xs)
  locals_below base locals xs x h =
      ap (λ k. take locals (drop base (slice_set xs k x))) {x = length xs - 1} {y = base + (length xs - 1 - base)} (omega arith)
      ∙ ap (take locals) (drop-set-add base xs (length xs - 1 - base) x) ∙ take-set-le locals (drop base xs) (length xs - 1 - base) x (omega arith)

  pub rest_below : (base : ℕ) (xs : List X) (x : X) → base < length xs → take base (slice_set xs (length xs - 1) x) ≡ take base xs
  rest_below base xs x h = take-set-le base xs (length xs - 1) x (omega arith)

lying : (hs : List Held) (xs : List Word) → depth_of (lie hs xs) ≡ length hs
lying [] xs = refl
lying (h ∷ hs) xs = ap suc (lying hs (take h.base xs))

pub frames_below : (hs : List Held) (xs : List Word) → depth_of (lie (reverse hs) xs) ≡ length hs
frames_below hs xs = lying (reverse hs) xs ∙ length-reverse hs

take_none : {X : Type 0} (n : ℕ) → take {A = X} n [] ≡ []
take_none zero = refl
take_none (suc n) = refl

one_more : (n m : ℕ) → suc n + m ≡ suc (n + m)
one_more n m = omega arith

pub take_twice : {X : Type 0} (n m : ℕ) (xs : List X) → take n (take (n + m) xs) ≡ take n xs
take_twice zero m xs = refl
take_twice (suc n) m [] = ap (take (suc n)) (take_none (suc n + m))
take_twice (suc n) m (x ∷ xs) = ap (λ k. take (suc n) (take k (x ∷ xs))) (one_more n m) ∙ ap (λ ys. x ∷ ys) (take_twice n m xs)

take_again : {X : Type 0} (n : ℕ) (xs : List X) → take n (take n xs) ≡ take n xs
take_again zero xs = refl
take_again (suc n) [] = refl
take_again (suc n) (x ∷ xs) = ap (λ ys. x ∷ ys) (take_again n xs)

pub rest_stay : {X : Type 0} (base locals : ℕ) (xs : List X) → take base (take (base + locals) xs) ≡ take base xs
rest_stay base locals xs = take_twice base locals xs

pub locals_stay : {X : Type 0} (base locals : ℕ) (xs : List X) → take locals (drop base (take (base + locals) xs)) ≡ take locals (drop base xs)
locals_stay base locals xs = ap (take locals) (drop-take base locals xs) ∙ take_again locals (drop base xs)

pub no_stack : {X : Type 0} (n : ℕ) (xs : List X) → drop n (take n xs) ≡ []
no_stack zero xs = refl
no_stack (suc n) [] = refl
no_stack (suc n) (x ∷ xs) = no_stack n xs

pub all_locals : {X : Type 0} (xs : List X) → take (length xs) (drop 0 xs) ≡ xs
all_locals xs = take-length xs

pub no_words : {X : Type 0} (xs : List X) → drop (0 + length xs) xs ≡ []
no_words xs = ap (λ k. drop k xs) {x = 0 + length xs} {y = length xs} (omega arith) ∙ drop-length xs

pub reversed_length : {X : Type 0} (xs : List X) → length (reverse xs) ≡ length xs
reversed_length xs = length-reverse xs

module _ (h : Held) (xs : List Word) (fits : h.base + h.locals ≤ length xs) where
  short : length (take h.base xs) ≡ h.base
  short = omega (arith, length-take h.base xs)

  own_words : h.base + frame_words (own h xs) ≡ length xs
  own_words =
      omega (arith, length-take h.locals (drop h.base xs), length-drop h.base xs, length-reverse (drop (h.base + h.locals) xs), length-drop (h.base + h.locals) xs)

lie_counted : (hs : List Held) (xs : List Word) (n : ℕ) → n ≡ length xs → Within hs n → words_in (lie hs xs) ≡ length xs
lie_counted [] xs n e none = sym none ∙ e
lie_counted (h ∷ hs) xs n e within =
    let fits : h.base + h.locals ≤ length xs = subst (λ k. h.base + h.locals ≤ k) e within.0 in
    let lower = lie_counted hs (take h.base xs) h.base (sym (short h xs fits)) within.1 in
    omega (arith, lower, short h xs fits, own_words h xs fits)

-- the words are those of the frames
pub all_counted : (top : Held) (below : List Held) (xs : List Word) → Within (top ∷ below) (length xs) → length xs ≡ words_in (own top xs ∷ lie below (take top.base xs))
all_counted top below xs within = sym (lie_counted (top ∷ below) xs (length xs) refl within)
