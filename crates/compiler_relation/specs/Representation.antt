-- How values are represented on the operand stack and in locals, by their types.
use Rattle.std.specs.Prelude.{Option, Some, None}
use Rattle.pl_types.specs.declared.primitive.Primitive.{Primitive}
use Rattle.pl_types.specs.declared.primitive.Primitive.TheVariants as prim
use Rattle.pl_types.specs.declared.ty.Ty.{Ty, out-Ty}
use Rattle.pl_types.specs.declared.ty.Ty.TheOpen.{Ty-F}
use Rattle.object_values.specs.declared.value.Value.{Value}
use Rattle.pl_code.specs.declared.kinds.Slot.{Slot}
use Rattle.pl_code.specs.declared.kinds.Slot.TheVariants as slot
use Rattle.code_meaning.specs.declared.word.Word.{Word}
use Rattle.code_meaning.specs.declared.word.Word.TheVariants.{R}
use Rattle.code_meaning.specs.Words.{unboxed}

-- a primitive as a number, every other value as it is, a primitive of a reference's type in its box, and nothing of void
pub data Representation : Type 0 where
  Unboxed Boxed Absent : Representation

abbrev pub representation_of_layer : Ty-F Ty → Representation
representation_of_layer Ty-F.Void = Absent
representation_of_layer (Ty-F.Prim p) = Unboxed
representation_of_layer other = Boxed

abbrev pub representation_of : Ty → Representation
representation_of of = representation_of_layer (out-Ty of)

abbrev pub low : Representation → Value → Option Word
low Unboxed value = Some (unboxed value)
low Boxed value = Some (R value)
low Absent value = None

-- ---- kinds of locals, parameters and results

abbrev pub kind_of_primitive : Primitive → Slot
kind_of_primitive prim.Long = slot.J
kind_of_primitive p = slot.I

abbrev pub kind_of_layer : Ty-F Ty → Slot
kind_of_layer (Ty-F.Prim p) = kind_of_primitive p
kind_of_layer other = slot.R

abbrev pub kind_of : Ty → Slot
kind_of of = kind_of_layer (out-Ty of)

abbrev pub result_of_layer : Ty-F Ty → Option Slot
result_of_layer Ty-F.Void = None
result_of_layer layer = Some (kind_of_layer layer)

abbrev pub result_of : Ty → Option Slot
result_of of = result_of_layer (out-Ty of)
