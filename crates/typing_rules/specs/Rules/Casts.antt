-- Casts.
use Rattle.std.specs.Prelude.{ℕ, ℤ, pos, neg_ℤ, int_le, Bool, true, false, ◌&&◌, List, [], ◌∷◌, Option, Some, None, Ok, if◌then◌else◌}
use Rattle.pl_types.specs.declared.ty.Ty.{Ty, out-Ty}
use Rattle.pl_types.specs.declared.ty.Ty.TheOpen.{Ty-F}
use Rattle.pl_types.specs.declared.primitive.Primitive.TheVariants as p
use Rattle.pl_types.specs.declared.conversion.Cast.{Cast}
use Rattle.pl_types.specs.declared.rules.TheConstants.{BAD_CAST}
use Rattle.pl_types.specs.Types.{same_types}
use Rattle.pl_types.specs.Casts.{cast_of}
use Rattle.pl_types.specs.Classes.{class_is_below}
use Rattle.typed_tree.specs.declared.typed.Typed.{Typed}
use Rattle.typed_tree.specs.declared.typed.Node.TheVariants as n
use Rattle.typed_tree.specs.declared.operation.Operation.TheVariants as o
use Rattle.typed_tree.specs.declared.operation.Constant.{Constant}
use Rattle.typed_tree.specs.declared.operation.Constant.TheVariants as k
use Rattle.typing_rules.specs.declared.part.Part.{Part}
use Rattle.typing_rules.specs.declared.part.Form.{Form}
use Rattle.typing_rules.specs.declared.part.Form.TheVariants as f
use Rattle.typing_rules.specs.Outcomes.{Out, refuse, bind}
use Rattle.typing_rules.specs.Rules.Nodes.{typed, applied, type_in, type_of_part, plain}

-- a number that is not negative, as a unit
abbrev pub unit_of : ℤ → ℕ
unit_of (pos n) = n
unit_of value = 0

abbrev pub within : ℤ → ℤ → ℤ → Bool
within low high value = int_le low value && int_le value high

abbrev pub as_byte : ℤ → Option Constant
as_byte value = if within (neg_ℤ (pos 128)) (pos 127) value then Some (k.Byte value) else None

abbrev pub as_short : ℤ → Option Constant
as_short value = if within (neg_ℤ (pos 32768)) (pos 32767) value then Some (k.Short value) else None

abbrev pub as_char : ℤ → Option Constant
as_char value = if within (pos 0) (pos 65535) value then Some (k.Char (unit_of value)) else None

-- An int literal, or the `-` directly before one with it, stands for a byte, a short or a char where its value is in that type's range.
abbrev pub standing_layer : Form → Ty-F Ty → Option Constant
standing_layer (f.Number value) (Ty-F.Prim p.Byte) = as_byte value
standing_layer (f.Number value) (Ty-F.Prim p.Short) = as_short value
standing_layer (f.Number value) (Ty-F.Prim p.Char) = as_char value
standing_layer form to = None

abbrev pub standing : Form → Ty → Option Constant
standing form to = standing_layer form (out-Ty to)

-- What a cast from the table gives: nothing of it is left where the type is the same. Without one, the expression that is cast is refused.
abbrev pub cast_by : Option Cast → ℕ → ℕ → Ty → Typed → Out Typed
cast_by None broken at to x = refuse BAD_CAST broken
cast_by (Some cast) broken at to x = if same_types (type_in x) to then Ok x else Ok (applied at to (o.Cast cast) (x ∷ []))

-- a cast of the table, written or added, at a place
abbrev pub cast_at : ℕ → Ty → Part → Bool → Out Typed
cast_at at to x written = cast_by (cast_of class_is_below (type_of_part x) to written) x.at at to x.typed

abbrev pub literal_or : Option Constant → ℕ → Ty → Out Typed → Out Typed
literal_or None at to other = other
literal_or (Some constant) at to other = Ok (typed at to (n.Constant constant))

-- a cast that typing adds, where the expression stands that is cast
abbrev pub cast_to : Ty → Part → Out Typed
cast_to to x = literal_or (standing x.form to) x.at to (cast_at x.at to x false)

-- a cast that is written
abbrev pub asked : ℕ → Ty → Part → Out Part
asked at to x = bind (cast_at at to x true) (λ y. Ok (plain at y))

-- parts that are all cast to one type
abbrev pub cast_each : Ty → List Part → Out (List Typed)
cast_each to [] = Ok []
cast_each to (x ∷ xs) = bind (cast_to to x) (λ y. bind (cast_each to xs) (λ ys. Ok (y ∷ ys)))
