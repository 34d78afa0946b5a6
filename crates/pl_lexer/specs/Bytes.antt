-- Kinds of bytes, and the bytes that begin a text.
use Rattle.std.specs.Prelude.{ℕ, Bool, true, false, ◌||◌, ◌==◌, if◌then◌else◌, List, [], ◌∷◌, drop}
use Rattle.std.specs.Char.{is_ascii_digit, is_ascii_alphabetic}
use Rattle.std.specs.Int.{is_in_range}
use Rattle.std.specs.List.{prefix_len}

-- space, tab, line feed, carriage return
abbrev pub is_blank : ℕ → Bool
is_blank b = b == 32 || b == 9 || b == 10 || b == 13

-- a line ends before a line feed or a carriage return
abbrev pub in_line : ℕ → Bool
in_line b = if b == 10 || b == 13 then false else true

-- `_` and the letters of ASCII begin a name
abbrev pub is_letter : ℕ → Bool
is_letter b = is_ascii_alphabetic b || b == 95

abbrev pub is_name_byte : ℕ → Bool
is_name_byte b = is_letter b || is_ascii_digit b

abbrev pub is_octal_digit : ℕ → Bool
is_octal_digit b = is_in_range 48 55 b

-- `'` and `"`
abbrev pub is_quote : ℕ → Bool
is_quote b = b == 39 || b == 34

-- the text begins with a byte that passes
abbrev pub begins : (ℕ → Bool) → List ℕ → Bool
begins p [] = false
begins p (b ∷ bs) = p b

abbrev pub is_nil : List ℕ → Bool
is_nil [] = true
is_nil (b ∷ bs) = false

-- what stands after the bytes at the front that pass
abbrev pub after_run : (ℕ → Bool) → List ℕ → List ℕ
after_run p bytes = drop (prefix_len p bytes) bytes
