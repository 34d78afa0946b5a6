-- How many bytes at the front of a text are of one lexeme, as they are counted from the front.
use Rattle.std.specs.Prelude.{ℕ, ◌+◌, Bool, false, ◌&&◌, ◌||◌, ◌==◌, if◌then◌else◌, List, [], ◌∷◌, Option, Some, None}
use Rattle.std.specs.Char.{is_ascii_digit, is_ascii_hexdigit}
use Rattle.std.specs.List.{prefix_len}
use Rattle.pl_lexer.specs.Bytes.{begins, after_run, is_octal_digit, is_letter, is_name_byte}
use Rattle.pl_lexer.specs.Numbers.{is_long_mark, is_float_mark, is_exponent_mark, after_plus_or_minus}
use Rattle.pl_lexer.specs.declared.found.Found.{Found}
use Rattle.pl_lexer.specs.declared.found.Found.TheVariants.{Leading}
use Rattle.pl_lexer.specs.declared.token.Kind.TheVariants.{ClassName}
use Rattle.pl_lexer.specs.Enclosed.{Next, on, end, wrong}

-- the whole part of a number in base 10
abbrev pub whole_length : List ℕ → ℕ
whole_length [] = 0
whole_length (b ∷ bs) = if b == 48 then 1 else prefix_len is_ascii_digit (b ∷ bs)

-- the mark of a long, if it stands there
abbrev pub mark_length : List ℕ → ℕ
mark_length bytes = if begins is_long_mark bytes then 1 else 0

-- digits, and the mark of a long
abbrev pub digits_length : (ℕ → Bool) → List ℕ → ℕ
digits_length p bytes = prefix_len p bytes + mark_length (after_run p bytes)

-- the text begins with `x` or `X` and a digit of base 16
abbrev pub begins_hexadecimal : List ℕ → Bool
begins_hexadecimal [] = false
begins_hexadecimal (b ∷ bs) = (b == 120 || b == 88) && begins is_ascii_hexdigit bs

abbrev pub hexadecimal_length : List ℕ → ℕ
hexadecimal_length [] = 0
hexadecimal_length (b ∷ bs) = 1 + digits_length is_ascii_hexdigit bs

-- the integer at the front
abbrev pub integer_length : List ℕ → ℕ
integer_length [] = 0
integer_length (b ∷ bs) =
    if b == 48 then 1 + (if begins_hexadecimal bs then hexadecimal_length bs else digits_length is_octal_digit bs)
    else digits_length is_ascii_digit (b ∷ bs)

-- after the whole part a fraction, an exponent or the mark of a floating-point type begins
abbrev pub goes_decimal : List ℕ → Bool
goes_decimal [] = false
goes_decimal (b ∷ bs) =
    is_float_mark b || b == 46 && begins is_ascii_digit bs || is_exponent_mark b && begins is_ascii_digit (after_plus_or_minus bs)

abbrev pub one_more : Option ℕ → Option ℕ
one_more (Some n) = Some (1 + n)
one_more None = None

-- the place after the byte that closes what is open
abbrev pub closed_by : Next → (Bool → Option ℕ) → Option ℕ
closed_by (on s) later = one_more (later s)
closed_by end later = Some 1
closed_by wrong later = None

abbrev pub closed_at : (Bool → ℕ → Next) → Bool → List ℕ → Option ℕ
closed_at next state [] = None
closed_at next state (b ∷ bs) = closed_by (next state b) (λ s. closed_at next s bs)

-- a dot at the front and the word after it
abbrev pub dot_word_length : List ℕ → Option ℕ
dot_word_length [] = None
dot_word_length (b ∷ bs) = if b == 46 && begins is_letter bs then Some (1 + prefix_len is_name_byte bs) else None

-- a class that n bytes name, or else what was found before
abbrev pub class_or : Found → Option ℕ → ℕ → Found
class_or best (Some class) n = Leading (ClassName class) n
class_or best None n = best

-- the second byte of the text is this one
abbrev pub second_is : ℕ → List ℕ → Bool
second_is b [] = false
second_is b (s ∷ bs) = begins (λ c. c == b) bs
