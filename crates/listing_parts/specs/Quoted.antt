-- Texts in double quotes.
use Rattle.std.specs.Prelude.{ℕ, zero, suc, ◌==◌, ◌+◌, ◌/◌, ◌%◌, ◌&&◌, ◌||◌, nat_lt, List, [], ◌∷◌, ◌++◌, Option, Some, None, if◌then◌else◌, option_map, length, encode_utf8}
use Rattle.std.specs.List.{find, flat_map}
use Rattle.std.specs.Str.{bytes_eq, is_utf8}
use Rattle.listing_parts.specs.Split.{◌>>=◌}
use Rattle.listing_parts.specs.Names.{formed}

-- a hexadecimal digit in lower case
abbrev pub hex_digit : ℕ → ℕ
hex_digit n = if nat_lt n 10 then 48 + n else 87 + n

-- a byte in quotes: `\` and `"` stand behind a `\`, and one below 32 is `\x` and two digits
abbrev pub escaped : ℕ → List ℕ
escaped b =
    if (b == 92) || (b == 34) then 92 ∷ b ∷ []
    else (if nat_lt b 32 then 92 ∷ 120 ∷ hex_digit (b / 16) ∷ hex_digit (b % 16) ∷ [] else b ∷ [])

-- a character in quotes
abbrev pub escaped_letter : ℕ → List ℕ
escaped_letter letter = flat_map escaped (encode_utf8 letter)

-- a text in quotes
unfoldable pub quoted : List ℕ → List ℕ
quoted s = 34 ∷ (flat_map escaped s ++ 34 ∷ [])

abbrev pub controls : List ℕ
controls = 0 ∷ 1 ∷ 2 ∷ 3 ∷ 4 ∷ 5 ∷ 6 ∷ 7 ∷ 8 ∷ 9 ∷ 10 ∷ 11 ∷ 12 ∷ 13 ∷ 14 ∷ 15 ∷ 16 ∷ 17 ∷ 18 ∷ 19 ∷ 20 ∷ 21 ∷ 22 ∷ 23 ∷ 24 ∷ 25 ∷ 26 ∷ 27 ∷ 28 ∷ 29 ∷ 30 ∷ 31 ∷ []

-- the byte below 32 with these digits
unfoldable pub control_of : ℕ → ℕ → Option ℕ
control_of high low = find (λ b. (hex_digit (b / 16) == high) && (hex_digit (b % 16) == low)) controls

-- What is read is a byte and what follows it.

abbrev pub control_at : List ℕ → Option (ℕ × List ℕ)
control_at [] = None
control_at (high ∷ []) = None
control_at (high ∷ low ∷ rest) = option_map (λ b. (b, rest)) (control_of high low)

abbrev pub escape_at : List ℕ → Option (ℕ × List ℕ)
escape_at [] = None
escape_at (b ∷ bs) = if b == 120 then control_at bs else (if (b == 92) || (b == 34) then Some (b, bs) else None)

unfoldable pub byte_at : List ℕ → Option (ℕ × List ℕ)
byte_at [] = None
byte_at (b ∷ bs) = if b == 92 then escape_at bs else (if (b == 34) || nat_lt b 32 then None else Some (b, bs))

-- the bytes up to a quote at the end, at most so many
unfoldable pub unquoted : ℕ → List ℕ → Option (List ℕ)
unquoted zero s = None
unquoted (suc n) s = if bytes_eq s (34 ∷ []) then Some [] else (byte_at s >>= λ p. option_map (λ t. p.0 ∷ t) (unquoted n p.1))

abbrev pub behind_quote : List ℕ → Option (List ℕ)
behind_quote [] = None
behind_quote (b ∷ bs) = if b == 34 then unquoted (length bs) bs else None

-- the text whose form in quotes this is
unfoldable pub text_of : List ℕ → Option (List ℕ)
text_of s = behind_quote s >>= formed is_utf8
