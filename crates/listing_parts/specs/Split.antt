-- Parts of a line, with one blank between them.
use Rattle.std.specs.Prelude.{ℕ, ◌==◌, ◌&&◌, nat_lt, Bool, List, ◌∷◌, ◌++◌, Option, Some, None, if◌then◌else◌, length, option_and_then}
use Rattle.std.specs.List.{position_or_len, before_first, after_first}

infixl 10 ◌>>=◌
abbrev pub ◌>>=◌ : {A B : Type 0} → Option A → (A → Option B) → Option B
o >>= f = option_and_then f o

abbrev pub blank : ℕ
blank = 32

abbrev pub is_blank : ℕ → Bool
is_blank b = b == 32

-- a byte that may stand in a part without quotes: of ASCII, and printed
abbrev pub is_plain : ℕ → Bool
is_plain b = nat_lt 32 b && nat_lt b 127

-- what stands before the first blank, and what behind it
unfoldable pub split_at_blank : List ℕ → Option (List ℕ × List ℕ)
split_at_blank s = if nat_lt (position_or_len is_blank s) (length s) then Some (before_first is_blank s, after_first is_blank s) else None

-- two parts, read
unfoldable pub both : {A B : Type 0} → (List ℕ → Option A) → (List ℕ → Option B) → List ℕ → Option (A × B)
both read_first read_second s = do
  p ← split_at_blank s
  a ← read_first p.0
  b ← read_second p.1
  Some (a, b)

-- two parts, written
abbrev pub spaced : List ℕ → List ℕ → List ℕ
spaced first second = first ++ blank ∷ second
