-- The parts of lines are read back, and nothing else is.
use Rattle.std.proofs.Common.{◌≡◌, ℕ, Bool, true, false, List, [], ◌∷◌, length, map, Option, Some, None, refl, sym, subst, ap, ◌∙◌, arith, inl, inr}
use Rattle.std.specs.Prelude.{◌==◌, option_map, option_and_then, codes}
use Rattle.std.specs.List.{find, list_all}
use Rattle.std.specs.Str.{bytes_eq}
use Rattle.std.proofs.lemmas.Bool.{and_from, cond-true, cond-false, eqb-true, ne_eqb, cases_Bool, false_from_ne_true}
use Rattle.std.proofs.lemmas.Option.{none-some, same_Some, option_and_then_some}
use Rattle.std.proofs.lemmas.Slice.Eq.{bytes_eq-Decides}
use Rattle.listing_parts.specs.Split.{is_plain}
use Rattle.listing_parts.specs.Names.{formed, is_class, is_name}
use Rattle.listing_parts.proofs.Forms.{IsForm, formed_form}
use Rattle.listing_parts.proofs.Parts.{IsPlain}
use Rattle.listing_parts.proofs.Clean.{plain_class}
use Rattle.listing_parts.proofs.Unquoting.{found_passes, mapped}
use Rattle.pl_types.specs.declared.primitive.Primitive.{Primitive}
use Rattle.pl_types.specs.declared.primitive.Primitive.TheVariants as primitive
use Rattle.pl_code.specs.declared.kinds.Way.{Way}
use Rattle.pl_code.specs.declared.kinds.Way.TheVariants as way
use Rattle.pl_code.specs.declared.kinds.Slot.{Slot}
use Rattle.pl_code.specs.declared.kinds.Slot.TheVariants as slot
use Rattle.pl_code.specs.declared.fields.TheConstants.{WAYS, PRIMITIVES, LOOPS, SLOTS}
use Rattle.pl_code.specs.Words.{way_word, primitive_word, slot_letter, loop_word}
use Rattle.pl_code.specs.Instructions.{interface_text, is_interface}
use Rattle.pl_code.specs.Listing.{result_text, slots_text}
use Rattle.pl_code.specs.Lines.{way_of, primitive_of, loops_of, letter_of, result_of, letters_of, slots_of, interface_of}

-- a word of a table
table_form : {A : Type 0} (word : A → List ℕ) (all : List A) → ((x : A) → find (λ y. bytes_eq (word y) (word x)) all ≡ Some x) → IsForm word (λ x. Unit {0}) (λ s. find (λ y. bytes_eq (word y) s) all)
table_form word all back = record {
  sound = λ s x h. (tt, (bytes_eq-Decides (word x) s).0 (found_passes (λ y. bytes_eq (word y) s) all x h));
  complete = λ x h. back x;
}

way_back : (w : Way) → find (λ y. bytes_eq (way_word y) (way_word w)) WAYS ≡ Some w
way_back way.Implicit = refl
way_back way.Explicit = refl

pub way_form : IsForm way_word (λ x. Unit {0}) way_of
unfolding way_of
way_form = table_form way_word WAYS way_back

primitive_back : (p : Primitive) → find (λ y. bytes_eq (primitive_word y) (primitive_word p)) PRIMITIVES ≡ Some p
primitive_back primitive.Boolean = refl
primitive_back primitive.Byte = refl
primitive_back primitive.Short = refl
primitive_back primitive.Char = refl
primitive_back primitive.Int = refl
primitive_back primitive.Long = refl

pub primitive_form : IsForm primitive_word (λ x. Unit {0}) primitive_of
unfolding primitive_of
primitive_form = table_form primitive_word PRIMITIVES primitive_back

pub primitive_plain : (p : Primitive) → IsPlain (primitive_word p)
primitive_plain primitive.Boolean = refl
primitive_plain primitive.Byte = refl
primitive_plain primitive.Short = refl
primitive_plain primitive.Char = refl
primitive_plain primitive.Int = refl
primitive_plain primitive.Long = refl

pub way_plain : (w : Way) → IsPlain (way_word w)
way_plain way.Implicit = refl
way_plain way.Explicit = refl

loops_back : (b : Bool) → find (λ y. bytes_eq (loop_word y) (loop_word b)) LOOPS ≡ Some b
loops_back true = refl
loops_back false = refl

pub loops_form : IsForm loop_word (λ x. Unit {0}) loops_of
unfolding loops_of
loops_form = table_form loop_word LOOPS loops_back

pub loops_plain : (b : Bool) → IsPlain (loop_word b)
loops_plain true = refl
loops_plain false = refl

pub letter_back : (s : Slot) → letter_of (slot_letter s) ≡ Some s
unfolding letter_of
letter_back slot.I = refl
letter_back slot.J = refl
letter_back slot.R = refl

pub letter_sound : (b : ℕ) (s : Slot) → letter_of b ≡ Some s → slot_letter s ≡ b
unfolding letter_of
letter_sound b s h = eqb-true (slot_letter s) b (found_passes (λ y. slot_letter y == b) SLOTS s h)

letter_plain : (s : Slot) → is_plain (slot_letter s) ≡ true
letter_plain slot.I = refl
letter_plain slot.J = refl
letter_plain slot.R = refl

-- what a function gives

result_back : (r : Option Slot) → result_of (result_text r) ≡ Some r
unfolding letter_of
result_back None = refl
result_back (Some slot.I) = refl
result_back (Some slot.J) = refl
result_back (Some slot.R) = refl

result_sound : (s : List ℕ) (r : Option Slot) → result_of s ≡ Some r → result_text r ≡ s
result_sound [] r h = absurd (none-some r h)
result_sound (b ∷ []) r h = elim (cases_Bool (b == 86)) [
  | inl is ↦ (let none : None ≡ r = same_Some None r (sym (cond-true _ _ _ is) ∙ h) in
      ap result_text (sym none) ∙ ap (λ x. x ∷ []) (sym (eqb-true b 86 is)))
  | inr isnt ↦ (let m = mapped (λ (x : Slot). Some x) (letter_of b) r (sym (cond-false _ _ _ isnt) ∙ h) in
      ap result_text (sym m.to) ∙ ap (λ x. x ∷ []) (letter_sound b m.x m.from))
]
result_sound (b ∷ c ∷ bs) r h = absurd (none-some r h)

pub result_form : IsForm result_text (λ x. Unit {0}) result_of
result_form = record { sound = λ s r h. (tt, result_sound s r h); complete = λ r h. result_back r }

pub result_plain : (r : Option Slot) → IsPlain (result_text r)
result_plain None = refl
result_plain (Some s) = and_from (is_plain (slot_letter s)) true (letter_plain s) refl

-- parameters and locals

letters_back : (slots : List Slot) → letters_of (map slot_letter slots) ≡ Some slots
letters_back [] = refl
letters_back (x ∷ xs) =
    ap (option_and_then (λ y. option_map (λ ys. y ∷ ys) (letters_of (map slot_letter xs)))) (letter_back x)
    ∙ ap (option_map (λ ys. x ∷ ys)) (letters_back xs)

letters_sound : (s : List ℕ) (slots : List Slot) → letters_of s ≡ Some slots → map slot_letter slots ≡ s
letters_sound [] slots h = ap (map slot_letter) (sym (same_Some [] slots h))
letters_sound (b ∷ bs) slots h = option_and_then_some (λ y. option_map (λ ys. y ∷ ys) (letters_of bs)) (letter_of b) slots h (λ y e g.
    let m = mapped (λ ys. y ∷ ys) (letters_of bs) slots g in
    ap (map slot_letter) (sym m.to) ∙ ap (λ c. c ∷ map slot_letter m.x) (letter_sound b y e) ∙ ap (λ t. b ∷ t) (letters_sound bs m.x m.from))

no_dash : (x : Slot) (t : List ℕ) → bytes_eq (slot_letter x ∷ t) (codes "-") ≡ false
no_dash slot.I t = refl
no_dash slot.J t = refl
no_dash slot.R t = refl

slots_back : (slots : List Slot) → slots_of (slots_text slots) ≡ Some slots
unfolding slots_of
slots_back [] = refl
slots_back (x ∷ xs) =
    cond-false _ _ _ (no_dash x (map slot_letter xs)) ∙ cond-false _ _ _ (ne_eqb (length (map slot_letter (x ∷ xs))) 0 (λ e. omega arith)) ∙ letters_back (x ∷ xs)

slots_some : (s : List ℕ) (slots : List Slot) → (length s == 0) ≡ false → map slot_letter slots ≡ s → slots_text slots ≡ s
slots_some s [] some e = let empty : (length s == 0) ≡ true = ap (λ t. length t == 0) (sym e) in cc
slots_some s (x ∷ xs) some e = e

slots_sound : (s : List ℕ) (slots : List Slot) → slots_of s ≡ Some slots → slots_text slots ≡ s
unfolding slots_of
slots_sound s slots h = elim (cases_Bool (bytes_eq s (codes "-"))) [
  | inl is ↦ (let none : [] ≡ slots = same_Some [] slots (sym (cond-true _ _ _ is) ∙ h) in
      ap slots_text (sym none) ∙ sym ((bytes_eq-Decides s (codes "-")).0 is))
  | inr isnt ↦ elim (cases_Bool (length s == 0)) [
    | inl empty ↦ absurd (none-some slots (sym (cond-true _ _ _ empty) ∙ (sym (cond-false _ _ _ isnt) ∙ h)))
    | inr some ↦ slots_some s slots some (letters_sound s slots (sym (cond-false _ _ _ some) ∙ (sym (cond-false _ _ _ isnt) ∙ h)))
  ]
]

pub slots_form : IsForm slots_text (λ x. Unit {0}) slots_of
slots_form = record { sound = λ s r h. (tt, slots_sound s r h); complete = λ r h. slots_back r }

letters_plain : (slots : List Slot) → IsPlain (map slot_letter slots)
letters_plain [] = refl
letters_plain (x ∷ xs) = and_from (is_plain (slot_letter x)) (list_all is_plain (map slot_letter xs)) (letter_plain x) (letters_plain xs)

pub slots_plain : (slots : List Slot) → IsPlain (slots_text slots)
slots_plain [] = refl
slots_plain (x ∷ xs) = letters_plain (x ∷ xs)

-- interfaces

dash_is_no_class : is_class (codes "-") ≡ false
unfolding is_class is_name
dash_is_no_class = refl

interface_back : (i : Option (List ℕ)) → is_interface i ≡ true → interface_of (interface_text i) ≡ Some i
unfolding interface_of
interface_back None h = refl
interface_back (Some class) h =
    let other : bytes_eq class (codes "-") ≡ false = false_from_ne_true (bytes_eq class (codes "-")) (λ e.
    let same : class ≡ codes "-" = (bytes_eq-Decides class (codes "-")).0 e in
    let wrong : is_class (codes "-") ≡ true = subst (λ c. is_class c ≡ true) same h in
    let right = dash_is_no_class in cc) in
    cond-false _ _ _ other ∙ ap (option_map (λ c. Some c)) ((formed_form is_class).complete class h)

interface_sound : (s : List ℕ) (i : Option (List ℕ)) → interface_of s ≡ Some i → (is_interface i ≡ true) × (interface_text i ≡ s)
unfolding interface_of
interface_sound s i h = elim (cases_Bool (bytes_eq s (codes "-"))) [
  | inl is ↦ (let none : None ≡ i = same_Some None i (sym (cond-true _ _ _ is) ∙ h) in
      (ap is_interface (sym none), ap interface_text (sym none) ∙ sym ((bytes_eq-Decides s (codes "-")).0 is)))
  | inr isnt ↦ (let m = mapped (λ (c : List ℕ). Some c) (formed is_class s) i (sym (cond-false _ _ _ isnt) ∙ h) in
      let form = (formed_form is_class).sound s m.x m.from in
      (ap is_interface (sym m.to) ∙ form.0, ap interface_text (sym m.to) ∙ form.1))
]

pub interface_form : IsForm interface_text (λ i. is_interface i ≡ true) interface_of
interface_form = record { sound = interface_sound; complete = interface_back }

pub interface_plain : (i : Option (List ℕ)) → is_interface i ≡ true → IsPlain (interface_text i)
interface_plain None h = refl
interface_plain (Some class) h = plain_class class h
