-- The forms of names, types and members in a listing.
use Rattle.std.specs.Prelude.{ℕ, ◌==◌, ◌^◌, ◌&&◌, ◌||◌, not, nat_lt, nat_le, Bool, true, false, List, [], ◌∷◌, Option, Some, None, if◌then◌else◌, is_some, length, drop, codes}
use Rattle.std.specs.List.{list_any, list_all, slice_split, position_or_len, before_first, after_first}
use Rattle.std.specs.Prelude.{fold}
use Rattle.std.specs.Str.{bytes_eq}
use Rattle.listing_parts.specs.Numbers.{natural_of}

abbrev pub is_letter : ℕ → Bool
is_letter b = nat_le 97 b && nat_le b 122 || nat_le 65 b && nat_le b 90 || b == 95

abbrev pub is_word_byte : ℕ → Bool
is_word_byte b = is_letter b || nat_le 48 b && nat_le b 57

-- a word: a letter or `_`, and then letters, digits and `_`
abbrev pub is_word : List ℕ → Bool
is_word [] = false
is_word (b ∷ bs) = is_letter b && list_all is_word_byte bs

-- the words that are no names: the types that have no class, and the others that the language keeps for itself
abbrev pub type_words : List (List ℕ)
type_words = codes "def" ∷ codes "boolean" ∷ codes "byte" ∷ codes "short" ∷ codes "char" ∷ codes "int" ∷ codes "long" ∷ []

abbrev pub other_words : List (List ℕ)
other_words =
    codes "if" ∷ codes "else" ∷ codes "while" ∷ codes "do" ∷ codes "for" ∷ codes "in" ∷ codes "continue" ∷ codes "break" ∷ codes "return"
    ∷ codes "new" ∷ codes "try" ∷ codes "catch" ∷ codes "throw" ∷ codes "this" ∷ codes "instanceof" ∷ codes "true" ∷ codes "false" ∷ codes "null" ∷ []

abbrev pub is_one_of : List (List ℕ) → List ℕ → Bool
is_one_of words s = list_any (λ word. bytes_eq word s) words

unfoldable pub is_name : List ℕ → Bool
is_name s = is_word s && not (is_one_of type_words s || is_one_of other_words s)

abbrev pub is_joint : ℕ → Bool
is_joint b = b == 46 || b == 36

-- a class: names with `.` or `$` between them
unfoldable pub is_class : List ℕ → Bool
is_class s = list_all is_name (slice_split is_joint s)

-- any number of `[]`
abbrev pub is_pairs : List ℕ → Bool
is_pairs [] = true
is_pairs (b ∷ []) = false
is_pairs (b ∷ c ∷ bs) = (b == 91) && (c == 93) && is_pairs bs

abbrev pub is_bracket : ℕ → Bool
is_bracket b = b == 91

-- a type: a class or a type word, and then any number of `[]`
unfoldable pub is_type : List ℕ → Bool
is_type s =
    (is_one_of type_words (before_first is_bracket s) || is_class (before_first is_bracket s))
    && is_pairs (drop (position_or_len is_bracket s) s)

-- the last `.` or `$`, or 0 where there is none
abbrev pub last_joint : List ℕ → ℕ
last_joint s = fold (λ last b. if is_joint b then b else last) 0 s

-- a field: a class, `.` and a name. So it is names with `.` or `$` between them, and the last of these is `.`
unfoldable pub is_field : List ℕ → Bool
is_field s = is_class s && (last_joint s == 46)

abbrev pub is_slash : ℕ → Bool
is_slash b = b == 47

-- what stands before the first `/`, where a number of arguments follows it
abbrev pub before_arity : List ℕ → Option (List ℕ)
before_arity s =
    if nat_lt (position_or_len is_slash s) (length s) && is_some (natural_of (2 ^ 32) (after_first is_slash s))
    then Some (before_first is_slash s) else None

-- whether this stands before a number of arguments
abbrev pub counts : (List ℕ → Bool) → Option (List ℕ) → Bool
counts is_it None = false
counts is_it (Some front) = is_it front

-- a method: a class, `.`, a name, `/` and its arguments
unfoldable pub is_method : List ℕ → Bool
is_method s = counts is_field (before_arity s)

-- a constructor: a class, `/` and its arguments
unfoldable pub is_constructor : List ℕ → Bool
is_constructor s = counts is_class (before_arity s)

-- a text, where it has a form
abbrev pub formed : (List ℕ → Bool) → List ℕ → Option (List ℕ)
formed is_it s = if is_it s then Some s else None
