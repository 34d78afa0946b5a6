-- The frame below the newest one, which gets what that one gives.
use Rattle.std.proofs.Common.{◌≡◌, ℕ, suc, ◌+◌, ◌≤◌, List, [], ◌∷◌, ◌++◌, length, true, arith, ap, sym, subst, ◌∙◌}
use Rattle.std.specs.Prelude.{take, drop, reverse}
use Rattle.std.proofs.lemmas.List.{drop-append-le, length-drop, reverse-append, take-append-le}
use Rattle.code_meaning.specs.declared.word.Word.{Word}
use Rattle.machine_parts.specs.declared.frames.Held.{Held}
use Rattle.machine_parts.specs.Frames.{GivesBack, Within, at_line, own, lie, with_stack}

-- the frame below lies within the words below the newest one's
pub lower_fits : (held : Held) (lower below : List Held) (n : ℕ) → below ≡ lower ++ held ∷ [] → Within (reverse below) n → held.base + held.locals ≤ n
lower_fits held lower below n e within = (subst (λ hs. Within hs n) (ap reverse e ∙ reverse-append lower (held ∷ [])) within).0

module _ (held : Held) (ys : List Word) (word : Word) (line : ℕ) (fits : held.base + held.locals ≤ length ys) (next : line ≡ suc held.line) where
  abbrev pub waking : Held
  waking = record { text = held.text; fun = held.fun; line = line; turns = held.turns; base = held.base; locals = held.locals }

  same_locals : take held.locals (drop held.base (ys ++ word ∷ [])) ≡ take held.locals (drop held.base ys)
  same_locals =
      ap (take held.locals) (drop-append-le held.base ys (word ∷ []) (omega (arith, fits)))
      ∙ take-append-le held.locals (drop held.base ys) (word ∷ []) (omega (arith, fits, length-drop held.base ys))

  one_more : reverse (drop (held.base + held.locals) (ys ++ word ∷ [])) ≡ word ∷ reverse (drop (held.base + held.locals) ys)
  one_more = ap reverse (drop-append-le (held.base + held.locals) ys (word ∷ []) fits) ∙ reverse-append (drop (held.base + held.locals) ys) (word ∷ [])

  pub wakes : own waking (ys ++ word ∷ []) ≡ at_line (with_stack (own held ys) (word ∷ (own held ys).stack)) (suc held.line)
  wakes = λ i. record { text = held.text; fun = held.fun; line = next i; locals = same_locals i; stack = one_more i; turns = held.turns; due = [] }

  pub rest_as_it_was : take held.base (ys ++ word ∷ []) ≡ take held.base ys
  rest_as_it_was = take-append-le held.base ys (word ∷ []) (omega (arith, fits))

pub returned : (top held : Held) (lower below : List Held) (xs : List Word) (word : Word) (line : ℕ) → below ≡ lower ++ held ∷ [] → (fits : held.base + held.locals ≤ length (take top.base xs)) → (next : line ≡ suc held.line)
    → GivesBack word (own top xs) (lie (reverse below) (take top.base xs)) (own (waking held (take top.base xs) word line fits next) (take top.base xs ++ word ∷ [])) (lie (reverse lower) (take held.base (take top.base xs ++ word ∷ []))) true
returned top held lower below xs word line e fits next =
    let ys = take top.base xs in (
      own held ys,
      ap (λ hs. lie (reverse hs) ys) e ∙ ap (λ hs. lie hs ys) (reverse-append lower (held ∷ []))
          ∙ ap (λ zs. own held ys ∷ lie (reverse lower) zs) (sym (rest_as_it_was held ys word line fits next)),
      wakes held ys word line fits next,
    )
