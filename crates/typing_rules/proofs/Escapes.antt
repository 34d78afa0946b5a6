-- Texts with backslashes.
use Rattle.std.proofs.Common.{◌≡◌, ◌≢◌, refl, ap, sym, ◌∙◌, ℕ, suc, ◌<◌, ◌==◌, false, List, [], ◌∷◌, ◌++◌, length, get_or, arith}
use Rattle.std.proofs.lemmas.Bool.Decides.{nat_tests}
use Rattle.std.proofs.lemmas.List.{append_assoc}
use Rattle.typing_rules.specs.Rules.Literals.{unescaped}

-- no backslash is in it
abbrev pub Lacks : List ℕ → Type 0
Lacks xs = (i : ℕ) → i < length xs → get_or xs i 0 ≢ 92

no_backslash : (b : ℕ) → b ≢ 92 → (b == 92) ≡ false
no_backslash b h = grind (arith, nat_tests)

-- what is no backslash stands for itself
one : (b : ℕ) (rest : List ℕ) → b ≢ 92 → unescaped (b ∷ rest) ≡ b ∷ unescaped rest
one b [] h = refl
one b (c ∷ rest) h = rw (no_backslash b h)

lacks_rest : (b : ℕ) (xs : List ℕ) → Lacks (b ∷ xs) → Lacks xs
lacks_rest b xs h i l = h (suc i) (omega arith)

unescaped-before : (xs ys : List ℕ) → Lacks xs → unescaped (xs ++ ys) ≡ xs ++ unescaped ys
unescaped-before [] ys h = refl
unescaped-before (b ∷ xs) ys h =
    one b (xs ++ ys) (h 0 (omega arith)) ∙ ap (λ (r : List ℕ). b ∷ r) (unescaped-before xs ys (lacks_rest b xs h))

unescaped-plain : (xs : List ℕ) → Lacks xs → unescaped xs ≡ xs
unescaped-plain [] h = refl
unescaped-plain (b ∷ xs) h = one b xs (h 0 (omega arith)) ∙ ap (λ (r : List ℕ). b ∷ r) (unescaped-plain xs (lacks_rest b xs h))

-- a backslash before anything but a backslash
unescaped-other : (ys : List ℕ) → ((rest : List ℕ) → ys ≢ 92 ∷ rest) → 0 < length ys → unescaped (92 ∷ ys) ≡ unescaped ys
unescaped-other [] h l = absurd (omega arith)
unescaped-other (c ∷ ys) h l = sym (one c ys (λ e. h ys (ap (λ (n : ℕ). n ∷ ys) e)))

-- In each lemma `all` is the text, and what stands in `done` is what the pieces before `rest` stand for.

-- the last piece
pub at_last : (all done rest done_all : List ℕ)
    → unescaped all ≡ done ++ unescaped rest → Lacks rest → done_all ≡ done ++ rest → done_all ≡ unescaped all
at_last all done rest done_all so_far lacks last = last ∙ sym (so_far ∙ ap (λ (r : List ℕ). done ++ r) (unescaped-plain rest lacks))

-- a piece before a backslash
at_piece : (all done rest before behind done_piece : List ℕ)
    → unescaped all ≡ done ++ unescaped rest → rest ≡ before ++ 92 ∷ behind → Lacks before
    → done_piece ≡ done ++ before → unescaped all ≡ done_piece ++ unescaped (92 ∷ behind)
at_piece all done rest before behind done_piece so_far cut lacks piece =
    so_far
    ∙ ap (λ (r : List ℕ). done ++ unescaped r) cut
    ∙ ap (λ (r : List ℕ). done ++ r) (unescaped-before before (92 ∷ behind) lacks)
    ∙ sym (append_assoc done before (unescaped (92 ∷ behind)))
    ∙ ap (λ (d : List ℕ). d ++ unescaped (92 ∷ behind)) (sym piece)

-- and another backslash
pub at_backslash : (all done rest before behind further done_piece done_both : List ℕ)
    → unescaped all ≡ done ++ unescaped rest → rest ≡ before ++ 92 ∷ behind → Lacks before
    → done_piece ≡ done ++ before → behind ≡ 92 ∷ further → done_both ≡ done_piece ++ 92 ∷ [] → unescaped all ≡ done_both ++ unescaped further
at_backslash all done rest before behind further done_piece done_both so_far cut lacks piece other both =
    at_piece all done rest before behind done_piece so_far cut lacks piece
    ∙ ap (λ (r : List ℕ). done_piece ++ unescaped (92 ∷ r)) other
    ∙ sym (append_assoc done_piece (92 ∷ []) (unescaped further))
    ∙ ap (λ (d : List ℕ). d ++ unescaped further) (sym both)

none_left : (ys : List ℕ) → length ys ≡ 0 → ys ≡ []
none_left [] h = refl
none_left (y ∷ ys) h = absurd (omega arith)

-- and nothing behind it
pub at_end : (all done rest before behind done_piece done_both : List ℕ)
    → unescaped all ≡ done ++ unescaped rest → rest ≡ before ++ 92 ∷ behind → Lacks before
    → done_piece ≡ done ++ before → length behind ≡ 0 → done_both ≡ done_piece ++ 92 ∷ [] → unescaped all ≡ done_both ++ unescaped behind
at_end all done rest before behind done_piece done_both so_far cut lacks piece none both =
    at_piece all done rest before behind done_piece so_far cut lacks piece
    ∙ ap (λ (r : List ℕ). done_piece ++ unescaped (92 ∷ r)) (none_left behind none)
    ∙ sym (append_assoc done_piece (92 ∷ []) [])
    ∙ ap (λ (d : List ℕ). d ++ []) (sym both)
    ∙ ap (λ (r : List ℕ). done_both ++ unescaped r) (sym (none_left behind none))

-- and something else behind it
pub at_other : (all done rest before behind done_piece : List ℕ)
    → unescaped all ≡ done ++ unescaped rest → rest ≡ before ++ 92 ∷ behind → Lacks before
    → done_piece ≡ done ++ before → ((further : List ℕ) → behind ≢ 92 ∷ further) → 0 < length behind → unescaped all ≡ done_piece ++ unescaped behind
at_other all done rest before behind done_piece so_far cut lacks piece other some =
    at_piece all done rest before behind done_piece so_far cut lacks piece ∙ ap (λ (r : List ℕ). done_piece ++ r) (unescaped-other behind other some)
