-- Values: which of them are one, and which may be keys.
use Rattle.std.specs.Prelude.{◌==◌, Bool, true, false}
use Rattle.std.specs.Str.{bytes_eq}
use Rattle.std.specs.Ordering.{int_eq}
use Rattle.object_values.specs.declared.value.Value.{Value}
use Rattle.object_values.specs.declared.value.Value.TheVariants as v

abbrev pub same_flag : Bool → Bool → Bool
same_flag true other = other
same_flag false true = false
same_flag false false = true

-- whether two values are of one kind and have one content
abbrev pub same_value : Value → Value → Bool
same_value v.Null v.Null = true
same_value (v.Bool a) (v.Bool b) = same_flag a b
same_value (v.Byte a) (v.Byte b) = int_eq a b
same_value (v.Short a) (v.Short b) = int_eq a b
same_value (v.Char a) (v.Char b) = a == b
same_value (v.Int a) (v.Int b) = int_eq a b
same_value (v.Long a) (v.Long b) = int_eq a b
same_value (v.Str a) (v.Str b) = bytes_eq a b
same_value (v.Ref a) (v.Ref b) = a == b
same_value a b = false

-- whether a value may be a key: it is anything but an object
abbrev pub is_simple : Value → Bool
is_simple (v.Ref id) = false
is_simple value = true
