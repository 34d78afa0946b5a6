-- The names that dots join in a text, cut off one by one.
use Rattle.std.proofs.Common.{◌≡◌, ℕ, ◌+◌, ◌-◌, ◌<◌, Bool, true, false, cond, List, [], ◌∷◌, ◌++◌, length, drop, refl, sym, ap, ◌∙◌, arith, append_assoc}
use Rattle.std.specs.List.{position_or_len, before_first, after_first, onto_first}
use Rattle.std.specs.Prelude.{not}
use Rattle.std.specs.Str.{IsUtf8}
use Rattle.std.proofs.lemmas.List.{length-drop}
use Rattle.std.proofs.lemmas.List.Splits.{slice_split_first}
use Rattle.pipe_fields.specs.Fields.{is_dot, names_of}

-- what is left of a text when some names are cut off
pub record Cut (text : List ℕ) (names : List (List ℕ)) (rest : List ℕ) : Type 0 where
  pub same : names_of text ≡ names ++ names_of rest
  pub utf8 : IsUtf8 rest

-- the first name, where a dot stands behind it
pub cut_first : (s : List ℕ) → position_or_len is_dot s < length s → names_of s ≡ before_first is_dot s ∷ names_of (after_first is_dot s)
cut_first s h = slice_split_first is_dot s 0 h

one_more : (b : ℕ) (bs : List ℕ) (t : Bool) → (position_or_len is_dot bs ≡ length bs → names_of bs ≡ bs ∷ []) → cond (not t) (1 + position_or_len is_dot bs) 0 ≡ length (b ∷ bs)
    → cond t ([] ∷ names_of bs) (onto_first b (names_of bs)) ≡ (b ∷ bs) ∷ []
one_more b bs true ih h = absurd (omega arith)
one_more b bs false ih h = ap (onto_first b) (ih (omega arith))

-- the last name
pub cut_last : (s : List ℕ) → position_or_len is_dot s ≡ length s → names_of s ≡ s ∷ []
cut_last [] h = refl
cut_last (b ∷ bs) h = one_more b bs (is_dot b) (cut_last bs) h

pub shorter : (s after : List ℕ) → after ≡ drop (position_or_len is_dot s + 1) s → position_or_len is_dot s < length s → length after < length s
shorter s after e h = let l : length after ≡ length s - (position_or_len is_dot s + 1) = ap length e ∙ length-drop (position_or_len is_dot s + 1) s in omega arith

-- one name more is cut off
pub next_cut : (text : List ℕ) (names more_names : List (List ℕ)) (rest name more : List ℕ) → Cut text names rest → name ≡ before_first is_dot rest → more ≡ after_first is_dot rest → position_or_len is_dot rest < length rest
    → more_names ≡ names ++ name ∷ [] → names_of text ≡ more_names ++ names_of more
next_cut text names more_names rest name more cut first behind within pushed =
    cut.same ∙ ap (λ (ns : List (List ℕ)). names ++ ns) (cut_first rest within) ∙ rw (pushed, first, behind) (sym (append_assoc names (before_first is_dot rest ∷ []) (names_of (after_first is_dot rest))))

-- the last name is cut off
pub last_cut : (text : List ℕ) (names all : List (List ℕ)) (rest : List ℕ) → Cut text names rest → position_or_len is_dot rest ≡ length rest → all ≡ names ++ rest ∷ [] → all ≡ names_of text
last_cut text names all rest cut none pushed = pushed ∙ sym (cut.same ∙ ap (λ (ns : List (List ℕ)). names ++ ns) (cut_last rest none))
