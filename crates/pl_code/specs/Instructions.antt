-- Instructions and their lines.
use Rattle.std.specs.Prelude.{ℕ, ◌^◌, ◌&&◌, nat_lt, Bool, true, List, Option, Some, None, codes, decimal}
use Rattle.std.specs.Fmt.{signed_decimal}
use Rattle.std.specs.Int.Signed.{mag}
use Rattle.std.specs.Str.{is_utf8}
use Rattle.listing_parts.specs.Split.{spaced}
use Rattle.listing_parts.specs.Names.{is_word, is_class, is_type, is_field, is_method, is_constructor}
use Rattle.listing_parts.specs.Quoted.{quoted}
use Rattle.pl_code.specs.declared.code.Instruction.{Instruction}
use Rattle.pl_code.specs.declared.code.Instruction.TheVariants.{Plain, Arithmetic, Dynamic, Int, Long, Quoted, Numbered, Boxing, Unboxing, Cast, Typed, Sized, DefCall, Invoke, New, Field, Lambda, Ref, NewRef}
use Rattle.pl_code.specs.declared.head.Head.{Head}
use Rattle.pl_code.specs.declared.head.Head.TheVariants as head
use Rattle.pl_code.specs.Words.{head_word, way_word, primitive_word}

-- an interface, or `-`
abbrev pub interface_text : Option (List ℕ) → List ℕ
interface_text None = codes "-"
interface_text (Some class) = class

-- a word and what stands behind it
abbrev pub with_operand : Head → List ℕ → List ℕ
with_operand h operand = spaced (head_word h) operand

-- An instruction's line, without its newline.
unfoldable pub instruction_text : Instruction → List ℕ
instruction_text (Plain plain) = head_word (head.Plain plain)
instruction_text (Arithmetic op width) = head_word (head.Arithmetic op width)
instruction_text (Dynamic op) = head_word (head.Dynamic op)
instruction_text (Int number) = with_operand head.Int (signed_decimal number)
instruction_text (Long number) = with_operand head.Long (signed_decimal number)
instruction_text (Quoted quoting text) = with_operand (head.Quoted quoting) (quoted text)
instruction_text (Numbered numbered number) = with_operand (head.Numbered numbered) (decimal number)
instruction_text (Boxing primitive) = with_operand head.Boxing (primitive_word primitive)
instruction_text (Unboxing primitive way) = with_operand head.Unboxing (spaced (primitive_word primitive) (way_word way))
instruction_text (Cast ty way) = with_operand head.Cast (spaced ty (way_word way))
instruction_text (Typed typed ty) = with_operand (head.Typed typed) ty
instruction_text (Sized sized ty number) = with_operand (head.Sized sized) (spaced ty (decimal number))
instruction_text (DefCall word number) = with_operand head.DefCall (spaced word (decimal number))
instruction_text (Invoke method) = with_operand head.Invoke method
instruction_text (New constructor) = with_operand head.New constructor
instruction_text (Field field) = with_operand head.Field field
instruction_text (Lambda interface function number) = with_operand head.Lambda (spaced (interface_text interface) (spaced (decimal function) (decimal number)))
instruction_text (Ref interface ty word) = with_operand head.Ref (spaced (interface_text interface) (spaced ty word))
instruction_text (NewRef interface ty) = with_operand head.NewRef (spaced (interface_text interface) ty)

-- What every instruction of a program keeps by its type: numbers in the range of their types, texts of their forms.

abbrev pub is_number : ℕ → Bool
is_number n = nat_lt n (2 ^ 32)

abbrev pub is_interface : Option (List ℕ) → Bool
is_interface None = true
is_interface (Some class) = is_class class

unfoldable pub is_instruction : Instruction → Bool
is_instruction (Plain plain) = true
is_instruction (Arithmetic op width) = true
is_instruction (Dynamic op) = true
is_instruction (Int number) = nat_lt (mag number) (2 ^ 31)
is_instruction (Long number) = nat_lt (mag number) (2 ^ 63)
is_instruction (Quoted quoting text) = is_utf8 text
is_instruction (Numbered numbered number) = is_number number
is_instruction (Boxing primitive) = true
is_instruction (Unboxing primitive way) = true
is_instruction (Cast ty way) = is_type ty
is_instruction (Typed typed ty) = is_type ty
is_instruction (Sized sized ty number) = is_type ty && is_number number
is_instruction (DefCall word number) = is_word word && is_number number
is_instruction (Invoke method) = is_method method
is_instruction (New constructor) = is_constructor constructor
is_instruction (Field field) = is_field field
is_instruction (Lambda interface function number) = is_interface interface && is_number function && is_number number
is_instruction (Ref interface ty word) = is_interface interface && is_type ty && is_word word
is_instruction (NewRef interface ty) = is_interface interface && is_type ty
