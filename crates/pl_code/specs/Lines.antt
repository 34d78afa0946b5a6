-- Lines of a listing, and how one is read.
use Rattle.std.specs.Prelude.{ℕ, ◌^◌, ◌==◌, nat_lt, Bool, true, List, [], ◌∷◌, Option, Some, None, if◌then◌else◌, codes, option_map, length}
use Rattle.std.specs.List.{find}
use Rattle.std.specs.Str.{bytes_eq}
use Rattle.listing_parts.specs.Split.{split_at_blank, both, ◌>>=◌}
use Rattle.listing_parts.specs.Names.{formed, is_word, is_class, is_type, is_field, is_method, is_constructor}
use Rattle.listing_parts.specs.Numbers.{natural_of, integer_of}
use Rattle.listing_parts.specs.Quoted.{text_of}
use Rattle.pl_types.specs.declared.primitive.Primitive.{Primitive}
use Rattle.pl_code.specs.declared.kinds.Way.{Way}
use Rattle.pl_code.specs.declared.kinds.Slot.{Slot}
use Rattle.pl_code.specs.declared.kinds.Quoting.{Quoting}
use Rattle.pl_code.specs.declared.kinds.Numbered.{Numbered}
use Rattle.pl_code.specs.declared.kinds.Typed.{Typed}
use Rattle.pl_code.specs.declared.kinds.Sized.{Sized}
use Rattle.pl_code.specs.declared.code.Instruction.TheVariants as code
use Rattle.pl_code.specs.declared.head.Head.{Head}
use Rattle.pl_code.specs.declared.head.Head.TheVariants as head
use Rattle.pl_code.specs.declared.line.Line.{Line}
use Rattle.pl_code.specs.declared.line.Line.TheVariants.{Fun, Caught, Do, End}
use Rattle.pl_code.specs.declared.fields.TheConstants.{WAYS, PRIMITIVES, LOOPS, SLOTS}
use Rattle.pl_code.specs.Words.{head_word, head_of, way_word, primitive_word, slot_letter, loop_word}
use Rattle.pl_code.specs.Instructions.{instruction_text, is_instruction}
use Rattle.pl_code.specs.Listing.{header_text, trap_text, is_trap}

-- a line's text
unfoldable pub line_text : Line → List ℕ
line_text (Fun h) = header_text h.number h.loops h.result h.params h.locals
line_text (Caught t) = trap_text t
line_text (Do i) = instruction_text i
line_text End = head_word head.End

unfoldable pub is_line : Line → Bool
is_line (Fun h) = nat_lt h.number (2 ^ 64)
is_line (Caught t) = is_trap t
is_line (Do i) = is_instruction i
is_line End = true

-- What is read of one part.

unfoldable pub way_of : List ℕ → Option Way
way_of s = find (λ w. bytes_eq (way_word w) s) WAYS

unfoldable pub primitive_of : List ℕ → Option Primitive
primitive_of s = find (λ p. bytes_eq (primitive_word p) s) PRIMITIVES

unfoldable pub loops_of : List ℕ → Option Bool
loops_of s = find (λ loops. bytes_eq (loop_word loops) s) LOOPS

unfoldable pub letter_of : ℕ → Option Slot
letter_of b = find (λ slot. slot_letter slot == b) SLOTS

abbrev pub result_of : List ℕ → Option (Option Slot)
result_of [] = None
result_of (b ∷ []) = if b == 86 then Some None else option_map (λ slot. Some slot) (letter_of b)
result_of (b ∷ c ∷ bs) = None

abbrev pub letters_of : List ℕ → Option (List Slot)
letters_of [] = Some []
letters_of (b ∷ bs) = letter_of b >>= λ slot. option_map (λ slots. slot ∷ slots) (letters_of bs)

unfoldable pub slots_of : List ℕ → Option (List Slot)
slots_of s = if bytes_eq s (codes "-") then Some [] else (if length s == 0 then None else letters_of s)

unfoldable pub interface_of : List ℕ → Option (Option (List ℕ))
interface_of s = if bytes_eq s (codes "-") then Some None else option_map (λ class. Some class) (formed is_class s)

abbrev pub number_of : List ℕ → Option ℕ
number_of = natural_of (2 ^ 32)

-- What is read of what stands behind a word.

abbrev pub numbered_of : Numbered → List ℕ → Option Line
numbered_of numbered s = option_map (λ n. Do (code.Numbered numbered n)) (number_of s)

abbrev pub int_of : List ℕ → Option Line
int_of s = option_map (λ n. Do (code.Int n)) (integer_of (2 ^ 31) s)

abbrev pub long_of : List ℕ → Option Line
long_of s = option_map (λ n. Do (code.Long n)) (integer_of (2 ^ 63) s)

abbrev pub quoted_of : Quoting → List ℕ → Option Line
quoted_of quoting s = option_map (λ t. Do (code.Quoted quoting t)) (text_of s)

abbrev pub boxing_of : List ℕ → Option Line
boxing_of s = option_map (λ p. Do (code.Boxing p)) (primitive_of s)

abbrev pub unboxing_of : List ℕ → Option Line
unboxing_of s = option_map (λ p. Do (code.Unboxing p.0 p.1)) (both primitive_of way_of s)

abbrev pub cast_of : List ℕ → Option Line
cast_of s = option_map (λ p. Do (code.Cast p.0 p.1)) (both (formed is_type) way_of s)

abbrev pub typed_of : Typed → List ℕ → Option Line
typed_of typed s = option_map (λ t. Do (code.Typed typed t)) (formed is_type s)

abbrev pub sized_of : Sized → List ℕ → Option Line
sized_of sized s = option_map (λ p. Do (code.Sized sized p.0 p.1)) (both (formed is_type) number_of s)

abbrev pub defcall_of : List ℕ → Option Line
defcall_of s = option_map (λ p. Do (code.DefCall p.0 p.1)) (both (formed is_word) number_of s)

abbrev pub invoke_of : List ℕ → Option Line
invoke_of s = option_map (λ m. Do (code.Invoke m)) (formed is_method s)

abbrev pub new_of : List ℕ → Option Line
new_of s = option_map (λ m. Do (code.New m)) (formed is_constructor s)

abbrev pub field_of : List ℕ → Option Line
field_of s = option_map (λ m. Do (code.Field m)) (formed is_field s)

abbrev pub lambda_of : List ℕ → Option Line
lambda_of s = option_map (λ p. Do (code.Lambda p.0 p.1.0 p.1.1)) (both interface_of (both number_of number_of) s)

abbrev pub ref_of : List ℕ → Option Line
ref_of s = option_map (λ p. Do (code.Ref p.0 p.1.0 p.1.1)) (both interface_of (both (formed is_type) (formed is_word)) s)

abbrev pub newref_of : List ℕ → Option Line
newref_of s = option_map (λ p. Do (code.NewRef p.0 p.1)) (both interface_of (formed is_type) s)

abbrev pub header_of : List ℕ → Option Line
header_of s =
    option_map (λ p. Fun (record { number = p.0; loops = p.1.0; result = p.1.1.0; params = p.1.1.1.0; locals = p.1.1.1.1 }))
    (both (natural_of (2 ^ 64)) (both loops_of (both result_of (both slots_of slots_of))) s)

abbrev pub trap_of : List ℕ → Option Line
trap_of s =
    option_map (λ p. Caught (record { from = p.0; to = p.1.0; at = p.1.1.0; class = p.1.1.1 }))
    (both number_of (both number_of (both number_of (formed is_class))) s)

unfoldable pub operand_line : Head → List ℕ → Option Line
operand_line (head.Plain plain) s = None
operand_line (head.Arithmetic op width) s = None
operand_line (head.Dynamic op) s = None
operand_line head.Int s = int_of s
operand_line head.Long s = long_of s
operand_line (head.Quoted quoting) s = quoted_of quoting s
operand_line (head.Numbered numbered) s = numbered_of numbered s
operand_line head.Boxing s = boxing_of s
operand_line head.Unboxing s = unboxing_of s
operand_line head.Cast s = cast_of s
operand_line (head.Typed typed) s = typed_of typed s
operand_line (head.Sized sized) s = sized_of sized s
operand_line head.DefCall s = defcall_of s
operand_line head.Invoke s = invoke_of s
operand_line head.New s = new_of s
operand_line head.Field s = field_of s
operand_line head.Lambda s = lambda_of s
operand_line head.Ref s = ref_of s
operand_line head.NewRef s = newref_of s
operand_line head.Fun s = header_of s
operand_line head.Trap s = trap_of s
operand_line head.End s = None

-- what a word alone says
unfoldable pub bare_line : Head → Option Line
bare_line (head.Plain plain) = Some (Do (code.Plain plain))
bare_line (head.Arithmetic op width) = Some (Do (code.Arithmetic op width))
bare_line (head.Dynamic op) = Some (Do (code.Dynamic op))
bare_line head.End = Some End
bare_line h = None

abbrev pub line_from : List ℕ → Option (List ℕ × List ℕ) → Option Line
line_from s None = head_of s >>= bare_line
line_from s (Some p) = head_of p.0 >>= λ h. operand_line h p.1

-- what a line says
unfoldable pub line_of : List ℕ → Option Line
line_of s = line_from s (split_at_blank s)
