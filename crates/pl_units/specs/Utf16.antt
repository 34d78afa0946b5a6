-- Texts as lists of 16-bit code units, in the terms of the Unicode standard ("Unicode Encoding Forms"). A scalar value is
-- a number below 110000 (in base 16) that is no surrogate. UTF-8 writes it as one to four bytes, UTF-16 as one or two units.
use Rattle.std.specs.Prelude.{ℕ, ◌+◌, ◌-◌, ◌*◌, ◌/◌, ◌%◌, Bool, ◌&&◌, ◌||◌, List, [], ◌∷◌, nat_le, nat_lt, if◌then◌else◌}
use Rattle.std.specs.List.{flat_map}
use Rattle.std.specs.Str.{chars, encode_utf8_all}

-- a high-surrogate code unit, which begins a surrogate pair
abbrev pub is_high_surrogate : ℕ → Bool
is_high_surrogate unit = nat_le 0xD800 unit && nat_lt unit 0xDC00

-- a low-surrogate code unit, which ends a surrogate pair
abbrev pub is_low_surrogate : ℕ → Bool
is_low_surrogate unit = nat_le 0xDC00 unit && nat_lt unit 0xE000

-- the UTF-16 of a scalar value: itself up to U+FFFF, and beyond it the surrogate pair that holds the twenty bits of what it
-- has above 10000 (in base 16), the high ten first
abbrev pub units_of_scalar : ℕ → List ℕ
units_of_scalar scalar = if nat_lt scalar 0x1_0000 then scalar ∷ []
    else (0xD800 + (scalar - 0x1_0000) / 0x400) ∷ (0xDC00 + (scalar - 0x1_0000) % 0x400) ∷ []

-- the scalar value that a surrogate pair stands for
abbrev pub scalar_of_pair : ℕ → ℕ → ℕ
scalar_of_pair high low = 0x1_0000 + (high - 0xD800) * 0x400 + (low - 0xDC00)

-- the scalar value of a unit that is in no pair: U+FFFD, the replacement character, for an unpaired surrogate, and else itself
abbrev pub scalar_of_unit : ℕ → ℕ
scalar_of_unit unit = if is_high_surrogate unit || is_low_surrogate unit then 0xFFFD else unit

-- the scalar values of a text: a high surrogate is joined with a low one directly after it
unfoldable pub scalars_of : List ℕ → List ℕ
scalars_of [] = []
scalars_of (unit ∷ []) = scalar_of_unit unit ∷ []
scalars_of (unit ∷ next ∷ rest) =
    if is_high_surrogate unit && is_low_surrogate next then scalar_of_pair unit next ∷ scalars_of rest
    else scalar_of_unit unit ∷ scalars_of (next ∷ rest)

-- the units of a text in UTF-8: those of each of its scalar values
unfoldable pub units : List ℕ → List ℕ
units utf8 = flat_map units_of_scalar (chars utf8)

-- the UTF-8 of a text's units: that of each of its scalar values
unfoldable pub bytes : List ℕ → List ℕ
bytes text = encode_utf8_all (scalars_of text)
