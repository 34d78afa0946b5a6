-- Code and its listing.
use Rattle.std.specs.Prelude.{ℕ, ◌+◌, ◌^◌, ◌&&◌, nat_le, Bool, List, [], ◌∷◌, ◌++◌, Option, Some, None, codes, decimal, map, length}
use Rattle.std.specs.List.{flat_map, list_all}
use Rattle.listing_parts.specs.Split.{spaced}
use Rattle.listing_parts.specs.Names.{is_class}
use Rattle.pl_code.specs.declared.kinds.Slot.{Slot}
use Rattle.pl_code.specs.declared.code.Trap.{Trap}
use Rattle.pl_code.specs.declared.code.FunCode.{FunCode}
use Rattle.pl_code.specs.declared.code.Code.{Code}
use Rattle.pl_code.specs.declared.head.Head.TheVariants as head
use Rattle.pl_code.specs.Words.{head_word, slot_letter, loop_word}
use Rattle.pl_code.specs.Instructions.{instruction_text, is_instruction, is_number, with_operand}

-- what a function gives: a letter, or `V` for nothing
abbrev pub result_text : Option Slot → List ℕ
result_text None = codes "V"
result_text (Some slot) = slot_letter slot ∷ []

-- parameters or locals: a letter for each, or `-` where there is none
abbrev pub slots_text : List Slot → List ℕ
slots_text [] = codes "-"
slots_text (slot ∷ slots) = map slot_letter (slot ∷ slots)

-- the line `fun` of a function with this number
abbrev pub header_text : ℕ → Bool → Option Slot → List Slot → List Slot → List ℕ
header_text number loops result params locals =
    with_operand head.Fun (spaced (decimal number) (spaced (loop_word loops) (spaced (result_text result) (spaced (slots_text params) (slots_text locals)))))

abbrev pub trap_text : Trap → List ℕ
trap_text t = with_operand head.Trap (spaced (decimal t.from) (spaced (decimal t.to) (spaced (decimal t.at) t.class)))

-- the lines of a function: `fun`, its traps, its instructions, `end`
abbrev pub function_lines : ℕ → FunCode → List (List ℕ)
function_lines number f =
    header_text number f.loops f.result f.params f.locals ∷ (map trap_text f.traps ++ (map instruction_text f.lines ++ head_word head.End ∷ []))

-- the lines of functions, numbered from one on
abbrev pub functions_lines : ℕ → List FunCode → List (List ℕ)
functions_lines number [] = []
functions_lines number (f ∷ fs) = function_lines number f ++ functions_lines (number + 1) fs

abbrev pub first_line : List ℕ
first_line = codes "painless 1"

-- the lines of a code
unfoldable pub code_lines : Code → List (List ℕ)
code_lines c = first_line ∷ functions_lines 0 c.functions

-- a line with its newline
abbrev pub ended : List ℕ → List ℕ
ended line = line ++ 10 ∷ []

-- lines, each with its newline
abbrev pub text_of : List (List ℕ) → List ℕ
text_of lines = flat_map ended lines

-- The listing of a code.
abbrev pub written : Code → List ℕ
written c = text_of (code_lines c)

-- What every code of a program keeps by its type.

abbrev pub is_trap : Trap → Bool
is_trap t = is_number t.from && is_number t.to && is_number t.at && is_class t.class

abbrev pub is_function : FunCode → Bool
is_function f = list_all is_trap f.traps && list_all is_instruction f.lines

unfoldable pub is_code : Code → Bool
is_code c = list_all is_function c.functions && nat_le (length c.functions) (2 ^ 64)
