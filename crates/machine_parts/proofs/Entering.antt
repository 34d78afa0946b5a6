-- A new frame, whose first locals are the upper operands of the one below it.
use Rattle.std.proofs.Common.{◌≡◌, ℕ, zero, suc, ◌+◌, ◌-◌, ◌<◌, ◌≤◌, List, [], ◌∷◌, ◌++◌, length, map, Some, None, arith, refl, ap, sym, subst, ◌∙◌}
use Rattle.std.specs.Prelude.{take, drop, reverse}
use Rattle.std.proofs.lemmas.List.{append_assoc, append-nil, drop-drop, drop-take, length-append, length-drop, length-map, length-reverse, reverse-append, reverse-reverse, take-append-drop, take-append-le, drop-append-le}
use Rattle.std.proofs.Math.Seq.{take-length, drop-length}
use Rattle.pl_code.specs.declared.kinds.Slot.{Slot}
use Rattle.code_meaning.specs.declared.word.Word.{Word}
use Rattle.code_meaning.specs.Machine.{take_words}
use Rattle.code_meaning.specs.Words.{start_of}
use Rattle.machine_parts.specs.declared.frames.Held.{Held}
use Rattle.machine_parts.specs.Frames.{own, lie, Enters}
use Rattle.machine_parts.specs.Frames.{with_stack}
use Rattle.machine_parts.proofs.Places.{take_twice, locals_stay}

pub height_is : {X : Type 0} (base locals : ℕ) (xs : List X) → length (reverse (drop (base + locals) xs)) ≡ length xs - base - locals
height_is base locals xs = length-reverse (drop (base + locals) xs) ∙ length-drop (base + locals) xs ∙ less_twice (length xs) base locals where
  less_twice : (n a b : ℕ) → n - (a + b) ≡ n - a - b
  less_twice n a b = omega arith

pub too_few : (n : ℕ) (stack taken : List Word) → length stack < n → take_words n stack taken ≡ None
too_few zero stack taken h = absurd (omega arith)
too_few (suc n) [] taken h = refl
too_few (suc n) (word ∷ stack) taken h = too_few n stack (word ∷ taken) (omega arith)

reversed : (word : Word) (words taken : List Word) → reverse words ++ (word ∷ taken) ≡ reverse (word ∷ words) ++ taken
reversed word words taken = sym (append_assoc (reverse words) (word ∷ []) taken) ∙ ap (λ ws. ws ++ taken) (sym (reverse-append (word ∷ []) words))

taking : (words rest taken : List Word) → take_words (length words) (words ++ rest) taken ≡ Some (reverse words ++ taken, rest)
taking [] rest taken = refl
taking (word ∷ words) rest taken = taking words rest (word ∷ taken) ∙ ap (λ ws. Some (ws, rest)) (reversed word words taken)

take_less : {X : Type 0} (n m : ℕ) (xs : List X) → n ≤ m → take n (take m xs) ≡ take n xs
take_less n m xs h = ap (λ k. take n (take k xs)) {x = m} {y = n + (m - n)} (omega arith) ∙ take_twice n (m - n) xs

module _ (xs : List Word) (low m n : ℕ) (h : low ≤ m) (e : n ≡ length xs - m) where
  again : low + (m - low) ≡ m
  again = omega arith

  split : drop low xs ≡ drop low (take m xs) ++ drop m xs
  split =
      sym (take-append-drop (m - low) (drop low xs))
      ∙ ap (λ ys. ys ++ drop (m - low) (drop low xs)) (sym (drop-take low (m - low) xs))
      ∙ ap (λ k. drop low (take k xs) ++ drop (m - low) (drop low xs)) again
      ∙ ap (λ ys. drop low (take m xs) ++ ys) (drop-drop (m - low) low xs ∙ ap (λ k. drop k xs) again)

  turned : reverse (drop low xs) ≡ reverse (drop m xs) ++ reverse (drop low (take m xs))
  turned = ap reverse split ∙ reverse-append (drop low (take m xs)) (drop m xs)

  counted : n ≡ length (reverse (drop m xs))
  counted = e ∙ sym (length-drop m xs) ∙ sym (length-reverse (drop m xs))

  pub taken_is : take_words n (reverse (drop low xs)) [] ≡ Some (drop m xs, reverse (drop low (take m xs)))
  taken_is =
      ap (λ s. take_words n s []) turned
      ∙ ap (λ k. take_words k (reverse (drop m xs) ++ reverse (drop low (take m xs))) []) counted
      ∙ taking (reverse (drop m xs)) (reverse (drop low (take m xs))) []
      ∙ ap (λ ws. Some (ws, reverse (drop low (take m xs)))) (append-nil (reverse (reverse (drop m xs))) ∙ reverse-reverse (drop m xs))

-- the frame below keeps its locals
pub same_locals : {X : Type 0} (base locals m : ℕ) (xs : List X) → base + locals ≤ m → take locals (drop base (take m xs)) ≡ take locals (drop base xs)
same_locals base locals m xs h =
    sym (locals_stay base locals (take m xs)) ∙ ap (λ ys. take locals (drop base ys)) (take_less (base + locals) m xs h) ∙ locals_stay base locals xs

pub new_locals : {X : Type 0} (m count : ℕ) (xs starts : List X) → m ≤ length xs → count ≡ length xs - m + length starts
    → take count (drop m (xs ++ starts)) ≡ drop m xs ++ starts
new_locals m count xs starts h e =
    ap (take count) (drop-append-le m xs starts h)
    ∙ ap (λ k. take k (drop m xs ++ starts)) (e ∙ ap (λ k. k + length starts) (sym (length-drop m xs)) ∙ sym (length-append (drop m xs) starts))
    ∙ take-length (drop m xs ++ starts)

pub new_stack : {X : Type 0} (m count : ℕ) (xs starts : List X) → m ≤ length xs → count ≡ length xs - m + length starts → drop (m + count) (xs ++ starts) ≡ []
new_stack m count xs starts h e = ap (λ k. drop k (xs ++ starts)) {x = m + count} {y = length xs + length starts} (omega arith) ∙ ap (λ k. drop k (xs ++ starts)) (sym (length-append xs starts)) ∙ drop-length (xs ++ starts)

module _ (top : Held) (below : List Held) (xs : List Word) (fun n m : ℕ) (slots : List Slot) (h : top.base + top.locals ≤ m) (e : m + n ≡ length xs) where
  abbrev pub callee : Held
  callee = record { text = top.text; fun = fun; line = 0; turns = 0; base = m; locals = n + length slots }

  abbrev starts : List Word
  starts = map start_of slots

  abbrev left : List Word
  left = reverse (drop (top.base + top.locals) (take m xs))

  all : n + length slots ≡ length xs - m + length starts
  all = ap (λ k. k + length slots) {x = n} {y = length xs - m} (omega arith) ∙ ap (λ k. length xs - m + k) (sym (length-map slots start_of))

  new_frame : own callee (xs ++ starts) ≡ record { text = top.text; fun = fun; line = 0; locals = drop m xs ++ starts; stack = []; turns = 0; due = [] }
  new_frame =
      ap (λ (ls : List Word). record { text = top.text; fun = fun; line = 0; locals = ls; stack = reverse (drop (m + (n + length slots)) (xs ++ starts)); turns = 0; due = [] })
      (new_locals m (n + length slots) xs starts (omega arith) all)
      ∙ ap (λ (s : List Word). record { text = top.text; fun = fun; line = 0; locals = drop m xs ++ starts; stack = reverse s; turns = 0; due = [] })
      (new_stack m (n + length slots) xs starts (omega arith) all)

  new_below : lie (reverse (below ++ top ∷ [])) (take m (xs ++ starts)) ≡ with_stack (own top xs) left ∷ lie (reverse below) (take top.base xs)
  new_below =
      ap (λ hs. lie hs (take m (xs ++ starts))) (reverse-append below (top ∷ []))
      ∙ ap (λ ys. lie (top ∷ reverse below) ys) (take-append-le m xs starts (omega arith))
      ∙ ap (λ (ls : List Word). record { text = top.text; fun = top.fun; line = top.line; locals = ls; stack = left; turns = top.turns; due = [] } ∷ lie (reverse below) (take top.base (take m xs)))
      (same_locals top.base top.locals m xs h)
      ∙ ap (λ ys. with_stack (own top xs) left ∷ lie (reverse below) ys) (take_less top.base m xs (omega arith))

  pub entered : Enters (take_words n (own top xs).stack []) fun slots (own top xs) (lie (reverse below) (take top.base xs))
      (own callee (xs ++ starts)) (lie (reverse (below ++ top ∷ [])) (take m (xs ++ starts)))
  entered =
      subst (λ o. Enters o fun slots (own top xs) (lie (reverse below) (take top.base xs)) (own callee (xs ++ starts)) (lie (reverse (below ++ top ∷ [])) (take m (xs ++ starts))))
      (sym (taken_is xs (top.base + top.locals) m n h (omega arith))) (new_frame, new_below)
