-- The texts of types.
use Rattle.std.specs.Prelude.{ℕ, nat_lt, ◌==◌, ◌&&◌, Bool, true, List, [], ◌∷◌, ◌++◌, Option, Some, None, codes, option_map, reverse, if◌then◌else◌}
use Rattle.std.specs.Str.{bytes_eq}
use Rattle.pl_types.specs.declared.primitive.Primitive.{Primitive}
use Rattle.pl_types.specs.declared.primitive.Primitive.TheVariants as prim
use Rattle.pl_types.specs.declared.ty.Ty.{Ty}
use Rattle.pl_types.specs.declared.ty.Ty.TheVariants as ty
use Rattle.pl_types.specs.declared.ty.Ty.TheOpen.{Ty-F}
use Rattle.pl_types.specs.declared.ty.Ty.TheFolds.{fold-Ty}
use Rattle.pl_types.specs.declared.texts.ClassNames.{ClassNames}
use Rattle.pl_types.specs.declared.texts.ClassNames.TheVariants.{Short, Full}
use Rattle.pl_types.specs.Classes.{full_name, short_name}
use Rattle.pl_types.specs.Names.{class_of_full}

-- the keyword of a primitive type
abbrev pub primitive_word : Primitive → List ℕ
primitive_word prim.Boolean = codes "boolean"
primitive_word prim.Byte = codes "byte"
primitive_word prim.Short = codes "short"
primitive_word prim.Char = codes "char"
primitive_word prim.Int = codes "int"
primitive_word prim.Long = codes "long"

-- the primitive type whose keyword a word is, if it is one
abbrev pub primitive_of : List ℕ → Option Primitive
primitive_of word =
    if bytes_eq word (codes "boolean") then Some prim.Boolean
    else (if bytes_eq word (codes "byte") then Some prim.Byte
    else (if bytes_eq word (codes "short") then Some prim.Short
    else (if bytes_eq word (codes "char") then Some prim.Char
    else (if bytes_eq word (codes "int") then Some prim.Int
    else (if bytes_eq word (codes "long") then Some prim.Long
    else None)))))

-- The text of a type whose classes have these names. A layer of it, with the text of its element: an array's type is that of
-- its elements and `[]`.
abbrev pub text_layer : (ℕ → List ℕ) → Ty-F (List ℕ) → List ℕ
text_layer name Ty-F.Void = codes "void"
text_layer name Ty-F.Null = codes "null"
text_layer name Ty-F.Def = codes "def"
text_layer name (Ty-F.Prim p) = primitive_word p
text_layer name (Ty-F.Class class) = name class
text_layer name (Ty-F.Array element) = element ++ codes "[]"

abbrev pub type_text : (ℕ → List ℕ) → Ty → List ℕ
type_text name = fold-Ty (List ℕ) (text_layer name)

abbrev pub names_of : ClassNames → ℕ → List ℕ
names_of Short class = short_name class
names_of Full class = full_name class

-- with short names, as messages have it, and with full names, as listings have it
abbrev pub short_text : Ty → List ℕ
short_text = type_text short_name

abbrev pub full_text : Ty → List ℕ
full_text = type_text full_name

-- the type with a primitive's keyword, or of the class with a full name
abbrev pub named_type : Option Primitive → Option ℕ → Option Ty
named_type (Some p) class = Some (ty.Prim p)
named_type None class = option_map ty.Class class

-- the type that a word without `[]` is in full
abbrev pub plain_type : List ℕ → Option Ty
plain_type word =
    if bytes_eq word (codes "void") then Some ty.Void
    else (if bytes_eq word (codes "null") then Some ty.Null
    else (if bytes_eq word (codes "def") then Some ty.Def
    else named_type (primitive_of word) (class_of_full word)))

abbrev pub array_of : Option Ty → Option Ty
array_of element = option_map ty.Array element

-- the type whose full text is this from the end to the front
unfoldable pub type_of_reversed : List ℕ → Option Ty
type_of_reversed [] = plain_type []
type_of_reversed (b ∷ []) = plain_type (b ∷ [])
type_of_reversed (b ∷ c ∷ rest) = if b == 93 && c == 91 then array_of (type_of_reversed rest) else plain_type (reverse (b ∷ c ∷ rest))

-- The type that a text is in full, if it is one: each `[]` at its end is one of arrays of what stands before.
unfoldable pub type_of_full : List ℕ → Option Ty
type_of_full text = type_of_reversed (reverse text)

-- whether every class in a type is one of the table
abbrev pub known_layer : Ty-F Bool → Bool
known_layer Ty-F.Void = true
known_layer Ty-F.Null = true
known_layer Ty-F.Def = true
known_layer (Ty-F.Prim p) = true
known_layer (Ty-F.Class class) = nat_lt class 57
known_layer (Ty-F.Array element) = element

abbrev pub is_known : Ty → Bool
is_known = fold-Ty Bool known_layer
