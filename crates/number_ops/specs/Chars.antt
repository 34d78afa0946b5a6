-- The members of Character, which know ASCII alone, and of Boolean.
use Rattle.std.specs.Prelude.{ℕ, ◌+◌, ◌-◌, ◌==◌, ◌&&◌, ◌||◌, nat_le, Bool, true, false, List, [], ◌∷◌, ℤ, pos, negsuc, if◌then◌else◌}
use Rattle.object_values.specs.declared.value.Value.{Value}
use Rattle.object_values.specs.declared.value.Value.TheVariants as v
use Rattle.number_ops.specs.declared.chars.OneChar.{OneChar}
use Rattle.number_ops.specs.declared.chars.OneChar.TheVariants as char

abbrev pub is_digit : ℕ → Bool
is_digit unit = nat_le 48 unit && nat_le unit 57

abbrev pub is_upper : ℕ → Bool
is_upper unit = nat_le 65 unit && nat_le unit 90

abbrev pub is_lower : ℕ → Bool
is_lower unit = nat_le 97 unit && nat_le unit 122

abbrev pub is_space : ℕ → Bool
is_space unit = (nat_le 9 unit && nat_le unit 13) || (nat_le 28 unit && nat_le unit 32)

abbrev pub to_lower : ℕ → ℕ
to_lower unit = if is_upper unit then unit + 32 else unit

abbrev pub to_upper : ℕ → ℕ
to_upper unit = if is_lower unit then unit - 32 else unit

abbrev pub of_char : OneChar → ℕ → Value
of_char char.CharValue unit = v.Char unit
of_char char.IsDigit unit = v.Bool (is_digit unit)
of_char char.IsLetter unit = v.Bool (is_upper unit || is_lower unit)
of_char char.IsLetterOrDigit unit = v.Bool (is_upper unit || is_lower unit || is_digit unit)
of_char char.IsLowerCase unit = v.Bool (is_lower unit)
of_char char.IsUpperCase unit = v.Bool (is_upper unit)
of_char char.IsWhitespace unit = v.Bool (is_space unit)
of_char char.ToLowerCase unit = v.Char (to_lower unit)
of_char char.ToUpperCase unit = v.Char (to_upper unit)

abbrev pub is_true : ℕ → ℕ → ℕ → ℕ → Bool
is_true t r u e = t == 116 && r == 114 && u == 117 && e == 101

-- `true` in any case
abbrev pub spells_true : List ℕ → Bool
spells_true (t ∷ r ∷ u ∷ e ∷ []) = is_true (to_lower t) (to_lower r) (to_lower u) (to_lower e)
spells_true text = false

abbrev pub parse_flag : Value → Bool
parse_flag (v.Str text) = spells_true text
parse_flag value = false

-- -1, 0 or 1: false comes before true
abbrev pub flag_order : Bool → Bool → ℤ
flag_order false false = pos 0
flag_order false true = negsuc 0
flag_order true false = pos 1
flag_order true true = pos 0
