-- Numbers.
use Rattle.std.specs.Prelude.{ℕ, Bool, true, false, not, ◌&&◌, ◌||◌, ◌==◌, if◌then◌else◌, List, [], ◌∷◌, Option, Some, None}
use Rattle.std.specs.Char.{is_ascii_digit, is_ascii_hexdigit}
use Rattle.std.specs.List.{list_all}
use Rattle.pl_lexer.specs.declared.token.Kind.TheVariants.{Integer, DotInteger}
use Rattle.pl_lexer.specs.Lexeme.{Lexeme, token, foreign}
use Rattle.pl_lexer.specs.Bytes.{begins, is_nil, after_run, is_octal_digit}

-- `l` or `L`, which makes a number a long
abbrev pub is_long_mark : ℕ → Bool
is_long_mark b = b == 108 || b == 76

-- nothing, or the mark of a long
abbrev pub ends_integer : List ℕ → Bool
ends_integer [] = true
ends_integer (b ∷ bs) = is_long_mark b && is_nil bs

-- one or more bytes that pass, and the end of an integer
abbrev pub digits_end : (ℕ → Bool) → List ℕ → Bool
digits_end p bytes = begins p bytes && ends_integer (after_run p bytes)

-- what follows `0x` or `0X`: digits of base 16, and the end
abbrev pub ends_hexadecimal : List ℕ → Bool
ends_hexadecimal [] = false
ends_hexadecimal (b ∷ bs) = (b == 120 || b == 88) && digits_end is_ascii_hexdigit bs

-- a number in base 10, which is 0 or does not begin with 0, in base 8, or in base 16
abbrev pub is_integer : List ℕ → Bool
is_integer [] = false
is_integer (b ∷ bs) =
    if b == 48 then ends_integer bs || digits_end is_octal_digit bs || ends_hexadecimal bs
    else digits_end is_ascii_digit (b ∷ bs)

-- what stands after the whole part of a number in base 10: after 0, or after digits that do not begin with 0
abbrev pub after_whole : List ℕ → List ℕ
after_whole [] = []
after_whole (b ∷ bs) = if b == 48 then bs else after_run is_ascii_digit (b ∷ bs)

-- what stands after a fraction, if there is one
abbrev pub after_fraction : List ℕ → List ℕ
after_fraction [] = []
after_fraction (b ∷ bs) = if b == 46 && begins is_ascii_digit bs then after_run is_ascii_digit bs else b ∷ bs

abbrev pub is_exponent_mark : ℕ → Bool
is_exponent_mark b = b == 101 || b == 69

abbrev pub is_plus_or_minus : ℕ → Bool
is_plus_or_minus b = b == 43 || b == 45

abbrev pub after_plus_or_minus : List ℕ → List ℕ
after_plus_or_minus [] = []
after_plus_or_minus (b ∷ bs) = if is_plus_or_minus b then bs else b ∷ bs

-- what stands after an exponent, if there is one
abbrev pub after_exponent : List ℕ → List ℕ
after_exponent [] = []
after_exponent (b ∷ bs) =
    if is_exponent_mark b && begins is_ascii_digit (after_plus_or_minus bs)
    then after_run is_ascii_digit (after_plus_or_minus bs)
    else b ∷ bs

-- `f`, `F`, `d` or `D`
abbrev pub is_float_mark : ℕ → Bool
is_float_mark b = b == 102 || b == 70 || b == 100 || b == 68

-- the whole part is followed by a fraction, an exponent or a mark, or by more of these in this order, and by nothing else
abbrev pub ends_decimal : List ℕ → List ℕ → Bool
ends_decimal rest [] = not (is_nil rest)
ends_decimal rest (b ∷ bs) = is_float_mark b && is_nil bs

-- a number with a fraction, an exponent, or a mark of a floating-point type
abbrev pub is_decimal : List ℕ → Bool
is_decimal bytes = let rest = after_whole bytes in ends_decimal rest (after_exponent (after_fraction rest))

-- the number that bytes which begin with a digit are
abbrev pub number_of : List ℕ → Option Lexeme
number_of bytes = if is_decimal bytes then Some foreign else (if is_integer bytes then Some (token Integer) else None)

-- after a dot: 0, or digits that do not begin with 0
abbrev pub is_dot_integer : List ℕ → Bool
is_dot_integer [] = false
is_dot_integer (b ∷ bs) = if b == 48 then is_nil bs else list_all is_ascii_digit (b ∷ bs)

abbrev pub dot_number_of : List ℕ → Option Lexeme
dot_number_of bytes = if is_dot_integer bytes then Some (token DotInteger) else None
