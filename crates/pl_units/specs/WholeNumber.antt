-- Whole numbers in decimal: the grammar and the value. A `+` is unit 43, a `-` unit 45 and the digits are units 48 to 57.
use Rattle.std.specs.Prelude.{ℕ, ◌+◌, ◌-◌, ◌*◌, ◌^◌, ◌==◌, nat_lt, Bool, false, ◌&&◌, ◌||◌, Option, Some, None, List, [], ◌∷◌, length, ℤ, pos, negsuc, neg_ℤ, int_le, if◌then◌else◌}
use Rattle.std.specs.List.{list_all}
use Rattle.std.specs.Char.{is_ascii_digit}

-- one ASCII digit or more, and nothing else
abbrev pub is_numeral : List ℕ → Bool
is_numeral digits = nat_lt 0 (length digits) && list_all is_ascii_digit digits

-- each digit counts ten times as much as the next
abbrev pub digits_value : List ℕ → ℕ
digits_value [] = 0
digits_value (digit ∷ digits) = (digit - 48) * 10 ^ length digits + digits_value digits

-- the text begins with a minus
abbrev pub has_minus : List ℕ → Bool
has_minus [] = false
has_minus (unit ∷ rest) = unit == 45

-- the text without the one sign that it may begin with
abbrev pub without_sign : List ℕ → List ℕ
without_sign [] = []
without_sign (unit ∷ rest) = if unit == 43 || unit == 45 then rest else unit ∷ rest

-- an optional sign and at least one digit, which may be a leading zero
abbrev pub is_whole_number : List ℕ → Bool
is_whole_number text = is_numeral (without_sign text)

-- the number that such a text writes
abbrev pub whole_number : List ℕ → ℤ
whole_number text = let value = pos (digits_value (without_sign text)) in if has_minus text then neg_ℤ value else value

-- the number that a text writes, if the text is a whole number from the one to the other
unfoldable pub number_between : ℤ → ℤ → List ℕ → Option ℤ
number_between least most text =
    let number = whole_number text in
    if is_whole_number text && (int_le least number && int_le number most) then Some number else None

-- the same for a signed number of 32 bits, and of 64
abbrev pub int_of : List ℕ → Option ℤ
int_of = number_between (negsuc 2147483647) (pos 2147483647)

abbrev pub long_of : List ℕ → Option ℤ
long_of = number_between (negsuc 9223372036854775807) (pos 9223372036854775807)
