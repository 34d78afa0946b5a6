-- The lines of code are text without newlines.
use Rattle.std.proofs.Common.{◌≡◌, ℕ, ◌^◌, true, ◌&&◌, List, Option, arith}
use Rattle.std.specs.Prelude.{nat_lt, decimal}
use Rattle.std.specs.Fmt.{signed_decimal}
use Rattle.std.specs.Int.Signed.{mag}
use Rattle.std.proofs.lemmas.Bool.{and_parts, ltb-true}
use Rattle.listing_parts.specs.Names.{is_word, is_class, is_type}
use Rattle.listing_parts.proofs.Clean.{plain_decimal, plain_signed, plain_class, plain_type, plain_word, plain_field, plain_method, plain_constructor}
use Rattle.listing_parts.proofs.Unbroken.{IsUnbroken, unbroken_plain, unbroken_spaced, unbroken_quoted}
use Rattle.pl_code.specs.declared.code.Instruction.{Instruction}
use Rattle.pl_code.specs.declared.code.Instruction.TheVariants as code
use Rattle.pl_code.specs.declared.code.Trap.{Trap}
use Rattle.pl_code.specs.declared.head.Head.{Head}
use Rattle.pl_code.specs.declared.head.Head.TheVariants as head
use Rattle.pl_code.specs.declared.line.Header.{Header}
use Rattle.pl_code.specs.declared.line.Line.{Line}
use Rattle.pl_code.specs.declared.line.Line.TheVariants.{Fun, Caught, Do, End}
use Rattle.pl_code.specs.Words.{head_word, way_word, primitive_word, loop_word}
use Rattle.pl_code.specs.Instructions.{instruction_text, is_instruction, is_number, is_interface, interface_text, with_operand}
use Rattle.pl_code.specs.Listing.{result_text, slots_text, header_text, trap_text, is_trap}
use Rattle.pl_code.specs.Lines.{line_text, is_line}
use Rattle.pl_code.proofs.Heads.{head_plain}
use Rattle.pl_code.proofs.FieldForms.{primitive_plain, way_plain, loops_plain, result_plain, slots_plain, interface_plain}

number : (n : ℕ) → is_number n ≡ true → IsUnbroken (decimal n)
number n h = let below = ltb-true n (2 ^ 32) h in unbroken_plain (decimal n) (plain_decimal n (omega arith))

operand : (h : Head) (s : List ℕ) → IsUnbroken s → IsUnbroken (with_operand h s)
operand h s u = unbroken_spaced (head_word h) s (unbroken_plain (head_word h) (head_plain h)) u

bare : (h : Head) → IsUnbroken (head_word h)
bare h = unbroken_plain (head_word h) (head_plain h)

interface : (i : Option (List ℕ)) → is_interface i ≡ true → IsUnbroken (interface_text i)
interface i h = unbroken_plain (interface_text i) (interface_plain i h)

type_text : (t : List ℕ) → is_type t ≡ true → IsUnbroken t
type_text t h = unbroken_plain t (plain_type t h)

pub instruction_unbroken : (i : Instruction) → is_instruction i ≡ true → IsUnbroken (instruction_text i)
unfolding instruction_text is_instruction
instruction_unbroken (code.Plain plain) h = bare (head.Plain plain)
instruction_unbroken (code.Arithmetic op width) h = bare (head.Arithmetic op width)
instruction_unbroken (code.Dynamic op) h = bare (head.Dynamic op)
instruction_unbroken (code.Int n) h = let below = ltb-true (mag n) (2 ^ 31) h in operand head.Int _ (unbroken_plain (signed_decimal n) (plain_signed n (omega arith)))
instruction_unbroken (code.Long n) h = operand head.Long _ (unbroken_plain (signed_decimal n) (plain_signed n (ltb-true (mag n) (2 ^ 63) h)))
instruction_unbroken (code.Quoted quoting t) h = operand (head.Quoted quoting) _ (unbroken_quoted t h)
instruction_unbroken (code.Numbered numbered n) h = operand (head.Numbered numbered) _ (number n h)
instruction_unbroken (code.Boxing p) h = operand head.Boxing _ (unbroken_plain (primitive_word p) (primitive_plain p))
instruction_unbroken (code.Unboxing p w) h = operand head.Unboxing _ (unbroken_spaced (primitive_word p) (way_word w) (unbroken_plain (primitive_word p) (primitive_plain p)) (unbroken_plain (way_word w) (way_plain w)))
instruction_unbroken (code.Cast t w) h = operand head.Cast _ (unbroken_spaced t (way_word w) (type_text t h) (unbroken_plain (way_word w) (way_plain w)))
instruction_unbroken (code.Typed typed t) h = operand (head.Typed typed) _ (type_text t h)
instruction_unbroken (code.Sized sized t n) h = let p = and_parts (is_type t) (is_number n) h in operand (head.Sized sized) _ (unbroken_spaced t (decimal n) (type_text t p.0) (number n p.1))
instruction_unbroken (code.DefCall w n) h = let p = and_parts (is_word w) (is_number n) h in operand head.DefCall _ (unbroken_spaced w (decimal n) (unbroken_plain w (plain_word w p.0)) (number n p.1))
instruction_unbroken (code.Invoke m) h = operand head.Invoke _ (unbroken_plain m (plain_method m h))
instruction_unbroken (code.New m) h = operand head.New _ (unbroken_plain m (plain_constructor m h))
instruction_unbroken (code.Field m) h = operand head.Field _ (unbroken_plain m (plain_field m h))
instruction_unbroken (code.Lambda i f n) h =
    let p = and_parts (is_interface i && is_number f) (is_number n) h in
    let q = and_parts (is_interface i) (is_number f) p.0 in
    operand head.Lambda _ (unbroken_spaced (interface_text i) _ (interface i q.0) (unbroken_spaced (decimal f) (decimal n) (number f q.1) (number n p.1)))
instruction_unbroken (code.Ref i t w) h =
    let p = and_parts (is_interface i && is_type t) (is_word w) h in
    let q = and_parts (is_interface i) (is_type t) p.0 in
    operand head.Ref _ (unbroken_spaced (interface_text i) _ (interface i q.0) (unbroken_spaced t w (type_text t q.1) (unbroken_plain w (plain_word w p.1))))
instruction_unbroken (code.NewRef i t) h = let p = and_parts (is_interface i) (is_type t) h in operand head.NewRef _ (unbroken_spaced (interface_text i) t (interface i p.0) (type_text t p.1))

trap_unbroken : (t : Trap) → is_trap t ≡ true → IsUnbroken (trap_text t)
trap_unbroken t h =
    let p = and_parts (is_number t.from && is_number t.to && is_number t.at) (is_class t.class) h in
    let q = and_parts (is_number t.from && is_number t.to) (is_number t.at) p.0 in
    let r = and_parts (is_number t.from) (is_number t.to) q.0 in
    operand head.Trap _ (unbroken_spaced (decimal t.from) _ (number t.from r.0) (unbroken_spaced (decimal t.to) _ (number t.to r.1)
    (unbroken_spaced (decimal t.at) t.class (number t.at q.1) (unbroken_plain t.class (plain_class t.class p.1)))))

header_unbroken : (h : Header) → nat_lt h.number (2 ^ 64) ≡ true → IsUnbroken (header_text h.number h.loops h.result h.params h.locals)
header_unbroken h l =
    operand head.Fun _ (unbroken_spaced (decimal h.number) _ (unbroken_plain (decimal h.number) (plain_decimal h.number (ltb-true h.number (2 ^ 64) l)))
    (unbroken_spaced (loop_word h.loops) _ (unbroken_plain (loop_word h.loops) (loops_plain h.loops))
    (unbroken_spaced (result_text h.result) _ (unbroken_plain (result_text h.result) (result_plain h.result))
    (unbroken_spaced (slots_text h.params) (slots_text h.locals) (unbroken_plain (slots_text h.params) (slots_plain h.params)) (unbroken_plain (slots_text h.locals) (slots_plain h.locals))))))

pub line_unbroken : (l : Line) → is_line l ≡ true → IsUnbroken (line_text l)
unfolding line_text is_line
line_unbroken (Fun header) h = header_unbroken header h
line_unbroken (Caught t) h = trap_unbroken t h
line_unbroken (Do i) h = instruction_unbroken i h
line_unbroken End h = bare head.End
