-- What stands behind the last dot of a text, and behind its `/`.
use Rattle.std.proofs.Common.{◌≡◌, ℕ, suc, ◌+◌, ◌-◌, ◌<◌, Bool, true, false, cond, ◌||◌, List, [], ◌∷◌, Some, None, length, drop, refl, sym, ap, ◌∙◌, lit<, arith}
use Rattle.std.specs.List.{position_or_len, list_any}
use Rattle.std.specs.Prelude.{◌^◌, ◌&&◌, not, nat_lt, option_map}
use Rattle.std.specs.Str.{bytes_eq, IsUtf8}
use Rattle.std.proofs.lemmas.List.{length-drop}
use Rattle.std.proofs.lemmas.Fmt.{decimal_digit}
use Rattle.std.proofs.Math.ListN.{drop_of_length-le}
use Rattle.listing_parts.specs.Names.{is_slash}
use Rattle.listing_parts.specs.Numbers.{natural_of, number_of}
use Rattle.instruction_types.specs.Members.{is_dot, behind_dots, called_part, arity_part}
use Rattle.instruction_types.specs.Calls.{called_of}

-- the first place of a dot in a text, whose first byte is one or not
abbrev place : Bool → List ℕ → ℕ
place first bs = cond (not first) (1 + position_or_len is_dot bs) 0

some_dot : (b : ℕ) (bs : List ℕ) (t : Bool) → (position_or_len is_dot bs < length bs → list_any is_dot bs ≡ true) → place t bs < length (b ∷ bs) → (t || list_any is_dot bs) ≡ true
some_dot b bs true ih h = refl
some_dot b bs false ih h = ih (omega arith)

-- a text with a first place of a dot has a dot
has_dot : (s : List ℕ) → position_or_len is_dot s < length s → list_any is_dot s ≡ true
has_dot [] h = absurd (omega arith)
has_dot (b ∷ bs) h = some_dot b bs (is_dot b) (has_dot bs) h

no_first : (b : ℕ) (bs : List ℕ) (t : Bool) → (position_or_len is_dot bs ≡ length bs → list_any is_dot bs ≡ false) → place t bs ≡ length (b ∷ bs) → (t || list_any is_dot bs) ≡ false
no_first b bs true ih h = absurd (omega arith)
no_first b bs false ih h = ih (omega arith)

has_none : (s : List ℕ) → position_or_len is_dot s ≡ length s → list_any is_dot s ≡ false
has_none [] h = refl
has_none (b ∷ bs) h = no_first b bs (is_dot b) (has_none bs) h

behind_first : (b : ℕ) (bs : List ℕ) (t : Bool) → (position_or_len is_dot bs < length bs → behind_dots bs ≡ behind_dots (drop (position_or_len is_dot bs + 1) bs)) → place t bs < length (b ∷ bs)
    → cond (t || list_any is_dot bs) (behind_dots bs) (b ∷ bs) ≡ behind_dots (drop (place t bs + 1) (b ∷ bs))
behind_first b bs true ih h = refl
behind_first b bs false ih h =
    let l : position_or_len is_dot bs < length bs = omega arith in
    let n : suc (position_or_len is_dot bs + 1) ≡ 1 + position_or_len is_dot bs + 1 = omega arith in
    ap (λ t. cond t (behind_dots bs) (b ∷ bs)) (has_dot bs l) ∙ ih l ∙ ap (λ n. behind_dots (drop n (b ∷ bs))) n

-- what stands behind the last dot stands behind the first one
pub behind_one : (s : List ℕ) → position_or_len is_dot s < length s → behind_dots s ≡ behind_dots (drop (position_or_len is_dot s + 1) s)
behind_one [] h = absurd (omega arith)
behind_one (b ∷ bs) h = behind_first b bs (is_dot b) (behind_one bs) h

no_dots : (b : ℕ) (bs : List ℕ) (t : Bool) → place t bs ≡ length (b ∷ bs) → cond (t || list_any is_dot bs) (behind_dots bs) (b ∷ bs) ≡ b ∷ bs
no_dots b bs true h = absurd (omega arith)
no_dots b bs false h = ap (λ t. cond t (behind_dots bs) (b ∷ bs)) (has_none bs (omega arith))

-- and all where there is none
pub behind_none : (s : List ℕ) → position_or_len is_dot s ≡ length s → behind_dots s ≡ s
behind_none [] h = refl
behind_none (b ∷ bs) h = no_dots b bs (is_dot b) h

-- what has no `/` has no number behind it
no_number : natural_of (2 ^ 32) [] ≡ None
unfolding number_of
no_number = ap (λ t. cond (bytes_eq t [] && nat_lt 0 (2 ^ 32)) (Some 0) None) (decimal_digit 0 (lit< tt))

pub not_called : (s : List ℕ) → position_or_len is_slash s ≡ length s → None ≡ called_of s
unfolding arity_part
not_called s h =
    let past : drop (position_or_len is_slash s + 1) s ≡ [] = drop_of_length-le s (omega arith) in
    sym (ap (λ t. option_map (λ n. (called_part s, n)) (natural_of (2 ^ 32) t)) past ∙ ap (option_map (λ n. (called_part s, n))) no_number)

-- what is left of a text where its dots are passed
pub record Passed (text rest : List ℕ) : Type 0 where
  pub same : behind_dots text ≡ behind_dots rest
  pub utf8 : IsUtf8 rest

pub shorter : (s after : List ℕ) → after ≡ drop (position_or_len is_dot s + 1) s → position_or_len is_dot s < length s → length after < length s
shorter s after e h = let l : length after ≡ length s - (position_or_len is_dot s + 1) = ap length e ∙ length-drop (position_or_len is_dot s + 1) s in omega arith
