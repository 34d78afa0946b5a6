-- A line is read back, and nothing else is.
use Rattle.std.proofs.Common.{◌≡◌, ℕ, ◌^◌, Bool, true, ◌&&◌, List, Option, Some, None, refl, subst, ap, ◌∙◌, arith}
use Rattle.std.specs.Prelude.{nat_lt, option_map, option_and_then, decimal, ℤ}
use Rattle.std.specs.Fmt.{signed_decimal}
use Rattle.std.specs.Int.Signed.{mag}
use Rattle.std.specs.Str.{is_utf8, bytes_eq}
use Rattle.std.proofs.lemmas.Slice.Eq.{bytes_eq-Decides}
use Rattle.pl_code.specs.declared.head.TheConstants.{HEADS}
use Rattle.std.proofs.lemmas.Bool.{and_parts, and_from, ltb-true}
use Rattle.std.proofs.lemmas.Option.{none-some, same_Some, option_and_then_some}
use Rattle.listing_parts.specs.Split.{split_at_blank, both, spaced}
use Rattle.listing_parts.specs.Names.{formed, is_word, is_class, is_type, is_field, is_method, is_constructor}
use Rattle.listing_parts.specs.Numbers.{natural_of, integer_of}
use Rattle.listing_parts.specs.Quoted.{quoted, text_of}
use Rattle.listing_parts.proofs.Forms.{IsForm, formed_form}
use Rattle.listing_parts.proofs.NumberForms.{natural_form, integer_form}
use Rattle.listing_parts.proofs.Parts.{IsPlain, both_form, split_back, split_sound, split_none}
use Rattle.listing_parts.proofs.Clean.{plain_decimal, plain_type, plain_word}
use Rattle.listing_parts.proofs.Unquoting.{mapped, quoted_form, found_passes}
use Rattle.pl_types.specs.declared.primitive.Primitive.{Primitive}
use Rattle.pl_code.specs.declared.kinds.Way.{Way}
use Rattle.pl_code.specs.declared.kinds.Slot.{Slot}
use Rattle.pl_code.specs.declared.kinds.Quoting.{Quoting}
use Rattle.pl_code.specs.declared.kinds.Numbered.{Numbered}
use Rattle.pl_code.specs.declared.kinds.Typed.{Typed}
use Rattle.pl_code.specs.declared.kinds.Sized.{Sized}
use Rattle.pl_code.specs.declared.code.Instruction.{Instruction}
use Rattle.pl_code.specs.declared.code.Instruction.TheVariants as code
use Rattle.pl_code.specs.declared.code.Trap.{Trap}
use Rattle.pl_code.specs.declared.head.Head.{Head}
use Rattle.pl_code.specs.declared.head.Head.TheVariants as head
use Rattle.pl_code.specs.declared.line.Header.{Header}
use Rattle.pl_code.specs.declared.line.Line.{Line}
use Rattle.pl_code.specs.declared.line.Line.TheVariants.{Fun, Caught, Do, End}
use Rattle.pl_code.specs.Words.{head_word, head_of, way_word, primitive_word, loop_word}
use Rattle.pl_code.specs.Instructions.{instruction_text, is_instruction, is_number, is_interface, interface_text, with_operand}
use Rattle.pl_code.specs.Listing.{result_text, slots_text, header_text, trap_text, is_trap}
use Rattle.pl_code.specs.Lines.{line_text, is_line, way_of, primitive_of, loops_of, result_of, slots_of, interface_of, number_of, operand_line, bare_line, line_from, line_of}
use Rattle.pl_code.proofs.Heads.{head_back, head_plain}
use Rattle.pl_code.proofs.FieldForms.{way_form, primitive_form, primitive_plain, loops_form, loops_plain, result_form, result_plain, slots_form, slots_plain, interface_form, interface_plain}

-- this line says what stands behind a word
record Says (h : Head) (s : List ℕ) (l : Line) : Type 0 where
  fits : is_line l ≡ true
  text : line_text l ≡ with_operand h s

-- lines with one word, made of what stands behind it
record Made {A : Type 0} (h : Head) (text : A → List ℕ) (Fits : A → Type 0) (read : List ℕ → Option A) (make : A → Line) : Type 0 where
  form : IsForm text Fits read
  fits : (x : A) → Fits x → is_line (make x) ≡ true
  writes : (x : A) → line_text (make x) ≡ with_operand h (text x)

made_sound : {A : Type 0} {h : Head} {text : A → List ℕ} {Fits : A → Type 0} {read : List ℕ → Option A} {make : A → Line} → Made h text Fits read make
    → (s : List ℕ) (l : Line) → option_map make (read s) ≡ Some l → Says h s l
made_sound {h = h} {read = read} {make = make} made s l e =
    let m = mapped make (read s) l e in
    let p = made.form.sound s m.x m.from in
    subst (Says h s) m.to (record { fits = made.fits m.x p.0; text = made.writes m.x ∙ ap (with_operand h) p.1 })

made_back : {A : Type 0} {h : Head} {text : A → List ℕ} {Fits : A → Type 0} {read : List ℕ → Option A} {make : A → Line} → Made h text Fits read make
    → (x : A) → Fits x → option_map make (read (text x)) ≡ Some (make x)
made_back {make = make} made x f = ap (option_map make) (made.form.complete x f)

number_form : IsForm decimal (λ n. is_number n ≡ true) number_of
number_form = natural_form (2 ^ 32) (omega arith)

number_plain : (n : ℕ) → is_number n ≡ true → IsPlain (decimal n)
number_plain n h = let below = ltb-true n (2 ^ 32) h in plain_decimal n (omega arith)

count_form : IsForm decimal (λ n. nat_lt n (2 ^ 64) ≡ true) (natural_of (2 ^ 64))
count_form = natural_form (2 ^ 64) (omega arith)

count_plain : (n : ℕ) → nat_lt n (2 ^ 64) ≡ true → IsPlain (decimal n)
count_plain n h = plain_decimal n (ltb-true n (2 ^ 64) h)

int_made : Made {A = ℤ} head.Int signed_decimal (λ z. nat_lt (mag z) (2 ^ 31) ≡ true) (integer_of (2 ^ 31)) (λ z. Do (code.Int z))
unfolding line_text is_line instruction_text is_instruction
int_made = record { form = integer_form (2 ^ 31) (omega arith); fits = λ x f. f; writes = λ x. refl }

long_made : Made {A = ℤ} head.Long signed_decimal (λ z. nat_lt (mag z) (2 ^ 63) ≡ true) (integer_of (2 ^ 63)) (λ z. Do (code.Long z))
unfolding line_text is_line instruction_text is_instruction
long_made = record { form = integer_form (2 ^ 63) (omega arith); fits = λ x f. f; writes = λ x. refl }

quoted_made : (quoting : Quoting) → Made {A = List ℕ} (head.Quoted quoting) quoted (λ t. is_utf8 t ≡ true) text_of (λ t. Do (code.Quoted quoting t))
unfolding line_text is_line instruction_text is_instruction
quoted_made quoting = record { form = quoted_form; fits = λ x f. f; writes = λ x. refl }

numbered_made : (numbered : Numbered) → Made {A = ℕ} (head.Numbered numbered) decimal (λ n. is_number n ≡ true) number_of (λ n. Do (code.Numbered numbered n))
unfolding line_text is_line instruction_text is_instruction
numbered_made numbered = record { form = number_form; fits = λ x f. f; writes = λ x. refl }

boxing_made : Made {A = Primitive} head.Boxing primitive_word (λ p. Unit {0}) primitive_of (λ p. Do (code.Boxing p))
unfolding line_text is_line instruction_text is_instruction
boxing_made = record { form = primitive_form; fits = λ x f. refl; writes = λ x. refl }

unboxing_made : Made {A = Primitive × Way} head.Unboxing (λ (p : Primitive × Way). spaced (primitive_word p.0) (way_word p.1)) (λ (p : Primitive × Way). Unit {0} × Unit {0}) (both primitive_of way_of) (λ (p : Primitive × Way). Do (code.Unboxing p.0 p.1))
unfolding line_text is_line instruction_text is_instruction
unboxing_made = record { form = both_form primitive_form (λ p f. primitive_plain p) way_form; fits = λ x f. refl; writes = λ x. refl }

cast_made : Made {A = List ℕ × Way} head.Cast (λ (p : List ℕ × Way). spaced p.0 (way_word p.1)) (λ (p : List ℕ × Way). (is_type p.0 ≡ true) × Unit {0}) (both (formed is_type) way_of) (λ (p : List ℕ × Way). Do (code.Cast p.0 p.1))
unfolding line_text is_line instruction_text is_instruction
cast_made = record { form = both_form (formed_form is_type) plain_type way_form; fits = λ x f. f.0; writes = λ x. refl }

typed_made : (typed : Typed) → Made {A = List ℕ} (head.Typed typed) (λ t. t) (λ t. is_type t ≡ true) (formed is_type) (λ t. Do (code.Typed typed t))
unfolding line_text is_line instruction_text is_instruction
typed_made typed = record { form = formed_form is_type; fits = λ x f. f; writes = λ x. refl }

sized_made : (sized : Sized) → Made {A = List ℕ × ℕ} (head.Sized sized) (λ (p : List ℕ × ℕ). spaced p.0 (decimal p.1)) (λ (p : List ℕ × ℕ). (is_type p.0 ≡ true) × (is_number p.1 ≡ true)) (both (formed is_type) number_of) (λ (p : List ℕ × ℕ). Do (code.Sized sized p.0 p.1))
unfolding line_text is_line instruction_text is_instruction
sized_made sized = record { form = both_form (formed_form is_type) plain_type number_form; fits = λ x f. and_from (is_type x.0) (is_number x.1) f.0 f.1; writes = λ x. refl }

defcall_made : Made {A = List ℕ × ℕ} head.DefCall (λ (p : List ℕ × ℕ). spaced p.0 (decimal p.1)) (λ (p : List ℕ × ℕ). (is_word p.0 ≡ true) × (is_number p.1 ≡ true)) (both (formed is_word) number_of) (λ (p : List ℕ × ℕ). Do (code.DefCall p.0 p.1))
unfolding line_text is_line instruction_text is_instruction
defcall_made = record { form = both_form (formed_form is_word) plain_word number_form; fits = λ x f. and_from (is_word x.0) (is_number x.1) f.0 f.1; writes = λ x. refl }

invoke_made : Made {A = List ℕ} head.Invoke (λ t. t) (λ t. is_method t ≡ true) (formed is_method) (λ t. Do (code.Invoke t))
unfolding line_text is_line instruction_text is_instruction
invoke_made = record { form = formed_form is_method; fits = λ x f. f; writes = λ x. refl }

new_made : Made {A = List ℕ} head.New (λ t. t) (λ t. is_constructor t ≡ true) (formed is_constructor) (λ t. Do (code.New t))
unfolding line_text is_line instruction_text is_instruction
new_made = record { form = formed_form is_constructor; fits = λ x f. f; writes = λ x. refl }

field_made : Made {A = List ℕ} head.Field (λ t. t) (λ t. is_field t ≡ true) (formed is_field) (λ t. Do (code.Field t))
unfolding line_text is_line instruction_text is_instruction
field_made = record { form = formed_form is_field; fits = λ x f. f; writes = λ x. refl }

lambda_made : Made {A = Option (List ℕ) × (ℕ × ℕ)} head.Lambda (λ (p : Option (List ℕ) × (ℕ × ℕ)). spaced (interface_text p.0) (spaced (decimal p.1.0) (decimal p.1.1))) (λ (p : Option (List ℕ) × (ℕ × ℕ)). (is_interface p.0 ≡ true) × ((is_number p.1.0 ≡ true) × (is_number p.1.1 ≡ true))) (both interface_of (both number_of number_of)) (λ (p : Option (List ℕ) × (ℕ × ℕ)). Do (code.Lambda p.0 p.1.0 p.1.1))
unfolding line_text is_line instruction_text is_instruction
lambda_made = record { form = both_form interface_form interface_plain (both_form number_form number_plain number_form); fits = λ x f. and_from (is_interface x.0 && is_number x.1.0) (is_number x.1.1) (and_from (is_interface x.0) (is_number x.1.0) f.0 f.1.0) f.1.1; writes = λ x. refl }

ref_made : Made {A = Option (List ℕ) × (List ℕ × List ℕ)} head.Ref (λ (p : Option (List ℕ) × (List ℕ × List ℕ)). spaced (interface_text p.0) (spaced p.1.0 p.1.1)) (λ (p : Option (List ℕ) × (List ℕ × List ℕ)). (is_interface p.0 ≡ true) × ((is_type p.1.0 ≡ true) × (is_word p.1.1 ≡ true))) (both interface_of (both (formed is_type) (formed is_word))) (λ (p : Option (List ℕ) × (List ℕ × List ℕ)). Do (code.Ref p.0 p.1.0 p.1.1))
unfolding line_text is_line instruction_text is_instruction
ref_made = record { form = both_form interface_form interface_plain (both_form (formed_form is_type) plain_type (formed_form is_word)); fits = λ x f. and_from (is_interface x.0 && is_type x.1.0) (is_word x.1.1) (and_from (is_interface x.0) (is_type x.1.0) f.0 f.1.0) f.1.1; writes = λ x. refl }

newref_made : Made {A = Option (List ℕ) × List ℕ} head.NewRef (λ (p : Option (List ℕ) × List ℕ). spaced (interface_text p.0) p.1) (λ (p : Option (List ℕ) × List ℕ). (is_interface p.0 ≡ true) × (is_type p.1 ≡ true)) (both interface_of (formed is_type)) (λ (p : Option (List ℕ) × List ℕ). Do (code.NewRef p.0 p.1))
unfolding line_text is_line instruction_text is_instruction
newref_made = record { form = both_form interface_form interface_plain (formed_form is_type); fits = λ x f. and_from (is_interface x.0) (is_type x.1) f.0 f.1; writes = λ x. refl }

header_made : Made {A = ℕ × (Bool × (Option Slot × (List Slot × List Slot)))} head.Fun (λ (p : ℕ × (Bool × (Option Slot × (List Slot × List Slot)))). spaced (decimal p.0) (spaced (loop_word p.1.0) (spaced (result_text p.1.1.0) (spaced (slots_text p.1.1.1.0) (slots_text p.1.1.1.1))))) (λ (p : ℕ × (Bool × (Option Slot × (List Slot × List Slot)))). (nat_lt p.0 (2 ^ 64) ≡ true) × (Unit {0} × (Unit {0} × (Unit {0} × Unit {0})))) (both (natural_of (2 ^ 64)) (both loops_of (both result_of (both slots_of slots_of)))) (λ (p : ℕ × (Bool × (Option Slot × (List Slot × List Slot)))). Fun (record { number = p.0; loops = p.1.0; result = p.1.1.0; params = p.1.1.1.0; locals = p.1.1.1.1 }))
unfolding line_text is_line instruction_text is_instruction
header_made = record { form = both_form count_form count_plain (both_form loops_form (λ x f. loops_plain x) (both_form result_form (λ x f. result_plain x) (both_form slots_form (λ x f. slots_plain x) slots_form))); fits = λ x f. f.0; writes = λ x. refl }

trap_made : Made {A = ℕ × (ℕ × (ℕ × List ℕ))} head.Trap (λ (p : ℕ × (ℕ × (ℕ × List ℕ))). spaced (decimal p.0) (spaced (decimal p.1.0) (spaced (decimal p.1.1.0) p.1.1.1))) (λ (p : ℕ × (ℕ × (ℕ × List ℕ))). (is_number p.0 ≡ true) × ((is_number p.1.0 ≡ true) × ((is_number p.1.1.0 ≡ true) × (is_class p.1.1.1 ≡ true)))) (both number_of (both number_of (both number_of (formed is_class)))) (λ (p : ℕ × (ℕ × (ℕ × List ℕ))). Caught (record { from = p.0; to = p.1.0; at = p.1.1.0; class = p.1.1.1 }))
unfolding line_text is_line instruction_text is_instruction
trap_made = record { form = both_form number_form number_plain (both_form number_form number_plain (both_form number_form number_plain (formed_form is_class))); fits = λ x f. and_from (is_number x.0 && is_number x.1.0 && is_number x.1.1.0) (is_class x.1.1.1) (and_from (is_number x.0 && is_number x.1.0) (is_number x.1.1.0) (and_from (is_number x.0) (is_number x.1.0) f.0 f.1.0) f.1.1.0) f.1.1.1; writes = λ x. refl }

-- what is read behind a word stands there
operand_sound : (h : Head) (s : List ℕ) (l : Line) → operand_line h s ≡ Some l → Says h s l
unfolding operand_line
operand_sound (head.Plain plain) s l e = absurd (none-some l e)
operand_sound (head.Arithmetic op width) s l e = absurd (none-some l e)
operand_sound (head.Dynamic op) s l e = absurd (none-some l e)
operand_sound head.Int s l e = made_sound int_made s l e
operand_sound head.Long s l e = made_sound long_made s l e
operand_sound (head.Quoted quoting) s l e = made_sound (quoted_made quoting) s l e
operand_sound (head.Numbered numbered) s l e = made_sound (numbered_made numbered) s l e
operand_sound head.Boxing s l e = made_sound boxing_made s l e
operand_sound head.Unboxing s l e = made_sound unboxing_made s l e
operand_sound head.Cast s l e = made_sound cast_made s l e
operand_sound (head.Typed typed) s l e = made_sound (typed_made typed) s l e
operand_sound (head.Sized sized) s l e = made_sound (sized_made sized) s l e
operand_sound head.DefCall s l e = made_sound defcall_made s l e
operand_sound head.Invoke s l e = made_sound invoke_made s l e
operand_sound head.New s l e = made_sound new_made s l e
operand_sound head.Field s l e = made_sound field_made s l e
operand_sound head.Lambda s l e = made_sound lambda_made s l e
operand_sound head.Ref s l e = made_sound ref_made s l e
operand_sound head.NewRef s l e = made_sound newref_made s l e
operand_sound head.Fun s l e = made_sound header_made s l e
operand_sound head.Trap s l e = made_sound trap_made s l e
operand_sound head.End s l e = absurd (none-some l e)

-- and a word alone
record Stands (h : Head) (l : Line) : Type 0 where
  fits : is_line l ≡ true
  text : line_text l ≡ head_word h

stands : (h : Head) (m l : Line) → Stands h m → Some m ≡ Some l → Stands h l
stands h m l s e = subst (Stands h) (same_Some m l e) s

bare_sound : (h : Head) (l : Line) → bare_line h ≡ Some l → Stands h l
unfolding bare_line line_text is_line instruction_text is_instruction
bare_sound (head.Plain plain) l e = stands (head.Plain plain) (Do (code.Plain plain)) l (record { fits = refl; text = refl }) e
bare_sound (head.Arithmetic op width) l e = stands (head.Arithmetic op width) (Do (code.Arithmetic op width)) l (record { fits = refl; text = refl }) e
bare_sound (head.Dynamic op) l e = stands (head.Dynamic op) (Do (code.Dynamic op)) l (record { fits = refl; text = refl }) e
bare_sound head.End l e = stands head.End End l (record { fits = refl; text = refl }) e
bare_sound h l e = absurd (none-some l e)

pub head_sound : (s : List ℕ) (h : Head) → head_of s ≡ Some h → head_word h ≡ s
unfolding head_of
head_sound s h e = (bytes_eq-Decides (head_word h) s).0 (found_passes (λ y. bytes_eq (head_word y) s) HEADS h e)

record Reads (s : List ℕ) (l : Line) : Type 0 where
  fits : is_line l ≡ true
  text : line_text l ≡ s

read_from : (s : List ℕ) (o : Option (List ℕ × List ℕ)) (l : Line) → split_at_blank s ≡ o → line_from s o ≡ Some l → Reads s l
read_from s None l split e = option_and_then_some bare_line (head_of s) l e (λ h found said.
    let bare = bare_sound h l said in
    record { fits = bare.fits; text = bare.text ∙ head_sound s h found })
read_from s (Some p) l split e = option_and_then_some (λ h. operand_line h p.1) (head_of p.0) l e (λ h found said.
    let says = operand_sound h p.1 l said in
    record { fits = says.fits; text = says.text ∙ ap (λ w. spaced w p.1) (head_sound p.0 h found) ∙ split_sound s p.0 p.1 split })

line_sound : (s : List ℕ) (l : Line) → line_of s ≡ Some l → (is_line l ≡ true) × (line_text l ≡ s)
unfolding line_of
line_sound s l e = let r = read_from s (split_at_blank s) l refl e in (r.fits, r.text)

operand_back : (h : Head) (operand : List ℕ) (l : Line) → operand_line h operand ≡ Some l → line_of (with_operand h operand) ≡ Some l
unfolding line_of
operand_back h operand l e =
    ap (line_from (with_operand h operand)) (split_back (head_word h) operand (head_plain h))
    ∙ ap (option_and_then (λ k. operand_line k operand)) (head_back h) ∙ e

bare_back : (h : Head) (l : Line) → bare_line h ≡ Some l → line_of (head_word h) ≡ Some l
unfolding line_of
bare_back h l e =
    ap (line_from (head_word h)) (split_none (head_word h) (head_plain h))
    ∙ ap (option_and_then bare_line) (head_back h) ∙ e

instruction_back : (i : Instruction) → is_instruction i ≡ true → line_of (instruction_text i) ≡ Some (Do i)
unfolding instruction_text is_instruction bare_line operand_line
instruction_back (code.Plain plain) h = bare_back (head.Plain plain) _ refl
instruction_back (code.Arithmetic op width) h = bare_back (head.Arithmetic op width) _ refl
instruction_back (code.Dynamic op) h = bare_back (head.Dynamic op) _ refl
instruction_back (code.Int n) h = operand_back head.Int _ _ (made_back int_made n h)
instruction_back (code.Long n) h = operand_back head.Long _ _ (made_back long_made n h)
instruction_back (code.Quoted quoting t) h = operand_back (head.Quoted quoting) _ _ (made_back (quoted_made quoting) t h)
instruction_back (code.Numbered numbered n) h = operand_back (head.Numbered numbered) _ _ (made_back (numbered_made numbered) n h)
instruction_back (code.Boxing p) h = operand_back head.Boxing _ _ (made_back boxing_made p tt)
instruction_back (code.Unboxing p w) h = operand_back head.Unboxing _ _ (made_back unboxing_made (p, w) (tt, tt))
instruction_back (code.Cast t w) h = operand_back head.Cast _ _ (made_back cast_made (t, w) (h, tt))
instruction_back (code.Typed typed t) h = operand_back (head.Typed typed) _ _ (made_back (typed_made typed) t h)
instruction_back (code.Sized sized t n) h = operand_back (head.Sized sized) _ _ (made_back (sized_made sized) (t, n) (and_parts (is_type t) (is_number n) h))
instruction_back (code.DefCall w n) h = operand_back head.DefCall _ _ (made_back defcall_made (w, n) (and_parts (is_word w) (is_number n) h))
instruction_back (code.Invoke m) h = operand_back head.Invoke _ _ (made_back invoke_made m h)
instruction_back (code.New m) h = operand_back head.New _ _ (made_back new_made m h)
instruction_back (code.Field m) h = operand_back head.Field _ _ (made_back field_made m h)
instruction_back (code.Lambda i f n) h =
    let p = and_parts (is_interface i && is_number f) (is_number n) h in
    let q = and_parts (is_interface i) (is_number f) p.0 in
    operand_back head.Lambda _ _ (made_back lambda_made (i, (f, n)) (q.0, (q.1, p.1)))
instruction_back (code.Ref i t w) h =
    let p = and_parts (is_interface i && is_type t) (is_word w) h in
    let q = and_parts (is_interface i) (is_type t) p.0 in
    operand_back head.Ref _ _ (made_back ref_made (i, (t, w)) (q.0, (q.1, p.1)))
instruction_back (code.NewRef i t) h = operand_back head.NewRef _ _ (made_back newref_made (i, t) (and_parts (is_interface i) (is_type t) h))

trap_back : (t : Trap) → is_trap t ≡ true → line_of (trap_text t) ≡ Some (Caught t)
unfolding operand_line
trap_back t h =
    let p = and_parts (is_number t.from && is_number t.to && is_number t.at) (is_class t.class) h in
    let q = and_parts (is_number t.from && is_number t.to) (is_number t.at) p.0 in
    let r = and_parts (is_number t.from) (is_number t.to) q.0 in
    operand_back head.Trap _ _ (made_back trap_made (t.from, (t.to, (t.at, t.class))) (r.0, (r.1, (q.1, p.1))))

header_back : (h : Header) → nat_lt h.number (2 ^ 64) ≡ true → line_of (header_text h.number h.loops h.result h.params h.locals) ≡ Some (Fun h)
unfolding operand_line
header_back h f = operand_back head.Fun _ _ (made_back header_made (h.number, (h.loops, (h.result, (h.params, h.locals)))) (f, (tt, (tt, (tt, tt)))))

line_back : (l : Line) → is_line l ≡ true → line_of (line_text l) ≡ Some l
unfolding line_text is_line bare_line
line_back (Fun header) h = header_back header h
line_back (Caught t) h = trap_back t h
line_back (Do i) h = instruction_back i h
line_back End h = bare_back head.End End refl

-- a line is read back, and nothing else is
pub line_form : IsForm line_text (λ l. is_line l ≡ true) line_of
line_form = record { sound = line_sound; complete = line_back }
