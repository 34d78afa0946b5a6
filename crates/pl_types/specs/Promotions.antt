-- Binary numeric promotion (Java Language Specification, 5.6), and which int literals stand for a narrower type.
use Rattle.std.specs.Prelude.{Option, Some, None, ℤ, pos, neg_ℤ, ◌≤ℤ◌}
use Rattle.pl_types.specs.declared.primitive.Primitive.{Primitive}
use Rattle.pl_types.specs.declared.primitive.Primitive.TheVariants.{Boolean, Byte, Short, Char, Int, Long}

-- the type to which both sides of an arithmetic operator become, by the types of the two
abbrev pub promote_of : Primitive → Primitive → Option Primitive
promote_of Boolean Boolean = None
promote_of Boolean Byte = None
promote_of Boolean Short = None
promote_of Boolean Char = None
promote_of Boolean Int = None
promote_of Boolean Long = None
promote_of Byte Boolean = None
promote_of Byte Byte = Some Int
promote_of Byte Short = Some Int
promote_of Byte Char = Some Int
promote_of Byte Int = Some Int
promote_of Byte Long = Some Long
promote_of Short Boolean = None
promote_of Short Byte = Some Int
promote_of Short Short = Some Int
promote_of Short Char = Some Int
promote_of Short Int = Some Int
promote_of Short Long = Some Long
promote_of Char Boolean = None
promote_of Char Byte = Some Int
promote_of Char Short = Some Int
promote_of Char Char = Some Int
promote_of Char Int = Some Int
promote_of Char Long = Some Long
promote_of Int Boolean = None
promote_of Int Byte = Some Int
promote_of Int Short = Some Int
promote_of Int Char = Some Int
promote_of Int Int = Some Int
promote_of Int Long = Some Long
promote_of Long Boolean = None
promote_of Long Byte = Some Long
promote_of Long Short = Some Long
promote_of Long Char = Some Long
promote_of Long Int = Some Long
promote_of Long Long = Some Long

-- An int literal, or the `-` directly before one with it, stands for a type that is narrower than int where its value is in that type's range.
abbrev pub LiteralFits : ℤ → Primitive → Type 0
LiteralFits value Byte = (neg_ℤ (pos 128) ≤ℤ value) × (value ≤ℤ pos 127)
LiteralFits value Short = (neg_ℤ (pos 32768) ≤ℤ value) × (value ≤ℤ pos 32767)
LiteralFits value Char = (pos 0 ≤ℤ value) × (value ≤ℤ pos 65535)
LiteralFits value Boolean = ⊥
LiteralFits value Int = ⊥
LiteralFits value Long = ⊥
