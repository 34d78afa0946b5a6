-- Integer literals (Java Language Specification, 3.10.1).
use Rattle.std.specs.Prelude.{ℕ, ◌+◌, ◌*◌, ◌-◌, Bool, ◌||◌, ◌==◌, List, [], ◌∷◌, length, take, slice_index, nat_le, if◌then◌else◌}

-- `l` or `L`, which makes a literal a long
abbrev pub is_long_mark : ℕ → Bool
is_long_mark b = b == 108 || b == 76

-- whether a literal is a long, by its last byte
abbrev pub is_long : List ℕ → Bool
is_long bytes = is_long_mark (slice_index bytes (length bytes - 1))

-- what a digit is worth: `0` to `9`, and `a` or `A` and on
abbrev pub digit_of : ℕ → ℕ
digit_of b = if nat_le b 57 then b - 48 else (if nat_le 97 b then b - 87 else b - 55)

-- the number that digits of a base stand for, the digits before them being worth n
abbrev pub value_after : ℕ → ℕ → List ℕ → ℕ
value_after base n [] = n
value_after base n (digit ∷ digits) = value_after base (base * n + digit_of digit) digits

-- what stands behind a first 0: `x` or `X` and digits of base 16, or digits of base 8
abbrev pub behind_zero : List ℕ → ℕ
behind_zero [] = 0
behind_zero (b ∷ digits) = if b == 120 || b == 88 then value_after 16 0 digits else value_after 8 0 (b ∷ digits)

-- the number that a literal without a mark stands for
abbrev pub magnitude : List ℕ → ℕ
magnitude [] = 0
magnitude (b ∷ digits) = if b == 48 then behind_zero digits else value_after 10 0 (b ∷ digits)

-- a literal without its last byte
abbrev pub unmarked : List ℕ → List ℕ
unmarked bytes = take (length bytes - 1) bytes
