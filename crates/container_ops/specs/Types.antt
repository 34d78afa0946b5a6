-- What is asked of types and values where an array is made, read or written, and what elements begin with.
use Rattle.std.specs.Prelude.{◌≡◌, ℕ, suc, ◌||◌, ◌&&◌, Bool, true, false, List, [], ◌∷◌, length, nat_lt, pos, if◌then◌else◌}
use Rattle.pl_types.specs.declared.classes.TheConstants.{PRELUDE}
use Rattle.pl_types.specs.declared.primitive.Primitive.{Primitive}
use Rattle.pl_types.specs.declared.primitive.Primitive.TheVariants as prim
use Rattle.pl_types.specs.declared.ty.Ty.{Ty, out-Ty}
use Rattle.pl_types.specs.declared.ty.Ty.TheOpen.{Ty-F}
use Rattle.pl_types.specs.declared.ty.Ty.TheFolds.{fold-Ty}
use Rattle.pl_types.specs.Types.{same_types}
use Rattle.object_values.specs.declared.value.Value.{Value}
use Rattle.object_values.specs.declared.value.Value.TheVariants as v
use Rattle.object_heap.specs.Fits.{is_primitive, has_type}
use Rattle.object_heap.specs.Objects.{Kind}
use Rattle.object_heap.specs.Store.{Store}
use Rattle.object_heap.specs.declared.answer.Answer.{Answer}
use Rattle.object_heap.specs.declared.answer.Answer.TheVariants as a
use Rattle.object_heap.specs.Effects.{Effect, Gives}
use Rattle.container_outcomes.specs.Outcomes.{effect, fails, is_text, null_error}
use Rattle.container_outcomes.specs.declared.outcome.Outcome.{Outcome}
use Rattle.container_outcomes.specs.declared.outcome.Raised.TheVariants as raised

-- false, 0 and null
abbrev pub default_of_primitive : Primitive → Value
default_of_primitive prim.Boolean = v.Bool false
default_of_primitive prim.Byte = v.Byte (pos 0)
default_of_primitive prim.Short = v.Short (pos 0)
default_of_primitive prim.Char = v.Char 0
default_of_primitive prim.Int = v.Int (pos 0)
default_of_primitive prim.Long = v.Long (pos 0)

abbrev pub default_of_layer : Ty-F Ty → Value
default_of_layer (Ty-F.Prim p) = default_of_primitive p
default_of_layer other = v.Null

abbrev pub default_of : Ty → Value
default_of of = default_of_layer (out-Ty of)

-- how many `[]` a type has
abbrev pub dimensions_layer : Ty-F ℕ → ℕ
dimensions_layer (Ty-F.Array more) = suc more
dimensions_layer other = 0

abbrev pub dimensions_of : Ty → ℕ
dimensions_of = fold-Ty ℕ dimensions_layer

-- the type of the elements of an array type, and of every other type itself
abbrev pub element_layer : Ty → Ty-F Ty → Ty
element_layer of (Ty-F.Array elem) = elem
element_layer of other = of

abbrev pub element_of : Ty → Ty
element_of of = element_layer of (out-Ty of)

abbrev pub primitive_layer : Ty-F Ty → Bool
primitive_layer (Ty-F.Prim p) = true
primitive_layer other = false

abbrev pub is_primitive_type : Ty → Bool
is_primitive_type of = primitive_layer (out-Ty of)

-- What is read or written as of a type goes with an array's elements: where one of the two types is primitive they are one.
abbrev pub goes_with : Ty → Ty → Bool
goes_with of elem = if is_primitive_type of || is_primitive_type elem then same_types elem of else true

-- a value that is read as of a primitive type is one of it
abbrev pub read_as_layer : Ty-F Ty → Value → Bool
read_as_layer (Ty-F.Prim p) value = is_primitive p value
read_as_layer other value = true

abbrev pub is_read_as : Ty → Value → Bool
is_read_as of value = read_as_layer (out-Ty of) value

-- a type of values that is no array type
abbrev pub base_layer : Ty-F Ty → Bool
base_layer (Ty-F.Array elem) = false
base_layer Ty-F.Void = false
base_layer Ty-F.Null = false
base_layer Ty-F.Def = true
base_layer (Ty-F.Prim p) = true
base_layer (Ty-F.Class class) = nat_lt class PRELUDE

abbrev pub base_is_type : Ty → Bool
base_is_type of = base_layer (out-Ty of)

-- all values are of a type
abbrev pub are_of_type : List Kind → Ty → List Value → Bool
are_of_type ks of [] = true
are_of_type ks of (value ∷ values) = has_type ks of value && are_of_type ks of values

-- a value of another kind where an array, a list or an iterator is wanted; and what comes of it and of null
abbrev pub other_kind : Outcome
other_kind = fails raised.ClassCast

abbrev pub on_null : Store → Effect
on_null store = effect store null_error

abbrev pub on_other_kind : Store → Effect
on_other_kind store = effect store other_kind

-- What gives a value that is no text, and adds no object, takes no memory.
abbrev pub MakesNothing : Store → Effect → Type 0
MakesNothing old (Gives value new) = (is_text value ≡ false) × (length new.objects ≡ length old.objects)
MakesNothing old effect = ⊥

abbrev pub Spares : Store → Effect → Answer → Type 0
Spares old effect a.NoMemory = MakesNothing old effect → ⊥
Spares old effect answer = Unit {0}
