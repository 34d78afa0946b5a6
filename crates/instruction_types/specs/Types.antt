-- What the types, classes and interfaces of code are.
use Rattle.std.specs.Prelude.{ℕ, ◌==◌, ◌-◌, ◌/◌, ◌||◌, Bool, List, Option, Some, None, nat_lt, if◌then◌else◌, is_some, length, codes, option_and_then}
use Rattle.std.specs.List.{position_or_len, before_first}
use Rattle.std.specs.Str.{bytes_eq}
use Rattle.pl_types.specs.declared.primitive.Primitive.{Primitive}
use Rattle.pl_types.specs.declared.primitive.Primitive.TheVariants as prim
use Rattle.pl_types.specs.declared.classes.TheConstants.{PRELUDE}
use Rattle.pl_types.specs.declared.ty.Ty.{Ty, out-Ty}
use Rattle.pl_types.specs.declared.ty.Ty.TheOpen.{Ty-F}
use Rattle.pl_types.specs.Names.{class_of_full}
use Rattle.pl_types.specs.Texts.{primitive_of}
use Rattle.allowlist.specs.Allow.{iface_method_of}
use Rattle.pl_code.specs.declared.kinds.Slot.{Slot}
use Rattle.pl_code.specs.declared.kinds.Slot.TheVariants.{I, J, R}

-- the kind of a primitive's values
abbrev pub kind_of_primitive : Primitive → Slot
kind_of_primitive prim.Boolean = I
kind_of_primitive prim.Byte = I
kind_of_primitive prim.Short = I
kind_of_primitive prim.Char = I
kind_of_primitive prim.Int = I
kind_of_primitive prim.Long = J

abbrev pub kind_of_word : Option Primitive → Slot
kind_of_word None = R
kind_of_word (Some p) = kind_of_primitive p

-- The kind of the values of a type, by its text: what is no primitive is a reference.
unfoldable pub kind_of_text : List ℕ → Slot
kind_of_text text = kind_of_word (primitive_of text)

-- the same of a type of the catalogue
abbrev pub kind_of_layer : Ty-F Ty → Slot
kind_of_layer (Ty-F.Prim p) = kind_of_primitive p
kind_of_layer other = R

unfoldable pub kind_of_type : Ty → Slot
kind_of_type t = kind_of_layer (out-Ty t)

abbrev pub is_opening : ℕ → Bool
is_opening b = b == 91

-- a type's text without the `[]` at its end, and how many of them there are
unfoldable pub element_of : List ℕ → List ℕ
element_of text = before_first is_opening text

unfoldable pub dimensions_of : List ℕ → ℕ
dimensions_of text = (length text - position_or_len is_opening text) / 2

-- the hidden classes are none of the catalogue
abbrev pub in_catalogue : Option ℕ → Option ℕ
in_catalogue None = None
in_catalogue (Some class) = if nat_lt class PRELUDE then Some class else None

-- the class of the catalogue with a full name
unfoldable pub catalogue_class : List ℕ → Option ℕ
catalogue_class name = in_catalogue (class_of_full name)

abbrev pub is_known_word : List ℕ → Bool
is_known_word word = bytes_eq word (codes "def") || is_some (primitive_of word) || is_some (catalogue_class word)

-- Whether a type is one that values can have: `def`, a primitive or a class of the catalogue, and then any number of `[]`.
unfoldable pub is_known_type : List ℕ → Bool
is_known_type text = is_known_word (element_of text)

-- the method of the functional interface with a full name
unfoldable pub interface_method : List ℕ → Option ℕ
interface_method name = option_and_then iface_method_of (catalogue_class name)
