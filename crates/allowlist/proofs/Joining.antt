-- Names that are joined, byte by byte.
use Rattle.std.proofs.Common.{◌≡◌, ℕ, ◌+◌, ◌<◌, ◌≤◌, Bool, false, not, List, ◌∷◌, Option, Some, None, get_or, length, drop, ap, ◌∙◌, add-one, drop-cons}
use Rattle.std.proofs.lemmas.List.{at_drop_all}
use Rattle.allowlist.specs.Lines.{joined_after, joined_or, names_joined}

drop_more : (word : List ℕ) (i : ℕ) → i < length word → drop i word ≡ get_or word i 0 ∷ drop (i + 1) word
drop_more word i h = rw (add-one, drop-cons word i 0)

by_byte : (begins : Bool) (b : ℕ) (bs : List ℕ) (o : Option Bool) → joined_after begins b ≡ o → names_joined begins (b ∷ bs) ≡ joined_or o (λ next. names_joined next bs)
unfolding names_joined
by_byte begins b bs o e = ap (λ t. joined_or t (λ next. names_joined next bs)) e

pub joins_on : (word : List ℕ) (i : ℕ) (begins next : Bool) → i < length word → joined_after begins (get_or word i 0) ≡ Some next → names_joined begins (drop i word) ≡ names_joined next (drop (i + 1) word)
joins_on word i begins next h e = ap (names_joined begins) (drop_more word i h) ∙ by_byte begins (get_or word i 0) (drop (i + 1) word) (Some next) e

pub joins_not : (word : List ℕ) (i : ℕ) (begins : Bool) → i < length word → joined_after begins (get_or word i 0) ≡ None → names_joined begins (drop i word) ≡ false
joins_not word i begins h e = ap (names_joined begins) (drop_more word i h) ∙ by_byte begins (get_or word i 0) (drop (i + 1) word) None e

pub joins_end : (word : List ℕ) (i : ℕ) (begins : Bool) → length word ≤ i → names_joined begins (drop i word) ≡ not begins
unfolding names_joined
joins_end word i begins h = at_drop_all (names_joined begins) word i h
