-- The kind of the values of a type that was read from a text is that which its text tells.
use Rattle.std.proofs.Common.{◌≡◌, ℕ, Bool, true, false, cond, List, Option, Some, None, codes, refl, sym, ap, ◌∙◌, subst}
use Rattle.std.specs.Str.{bytes_eq}
use Rattle.std.proofs.lemmas.Slice.Eq.{bytes_eq-Decides}
use Rattle.pl_types.specs.declared.primitive.Primitive.{Primitive}
use Rattle.pl_types.specs.declared.primitive.Primitive.TheVariants as prim
use Rattle.pl_types.specs.declared.ty.Ty.{Ty, out-Ty}
use Rattle.pl_types.specs.declared.ty.Ty.TheFolds.{fold_out-Ty, map-Ty}
use Rattle.pl_types.specs.declared.ty.Ty.TheOpen.{Ty-F}
use Rattle.pl_types.specs.declared.ty.Ty.TheVariants.{Prim, outs-Prim}
use Rattle.pl_types.specs.Classes.{full_name}
use Rattle.pl_types.specs.Texts.{primitive_of, primitive_word, full_text, text_layer, type_of_full, type_of_reversed}
use Rattle.pl_types.proofs.TypeTexts.{spelled}
use Rattle.pl_code.specs.declared.kinds.Slot.TheVariants as slot
use Rattle.instruction_types.specs.Types.{kind_of_layer, kind_of_primitive, kind_of_text, kind_of_type, kind_of_word}

-- ---- a text that is a primitive's keyword

chosen : (b : Bool) (a p : Primitive) (o : Option Primitive) (P : Primitive → Type 0) → cond b (Some a) o ≡ Some p → (b ≡ true → P a) → (o ≡ Some p → P p) → P p
chosen true a p o P e h k = let same : a ≡ p = cc in subst P same (h refl)
chosen false a p o P e h k = k e

is_word : (w v : List ℕ) → bytes_eq w v ≡ true → w ≡ v
is_word w v h = (bytes_eq-Decides w v).0 h

keyword_is : (w : List ℕ) (p : Primitive) → primitive_of w ≡ Some p → w ≡ primitive_word p
keyword_is w p e =
    let P : Primitive → Type 0 = λ q. w ≡ primitive_word q in
    chosen (bytes_eq w (codes "boolean")) prim.Boolean p _ P e (is_word w (codes "boolean")) (λ e1.
    chosen (bytes_eq w (codes "byte")) prim.Byte p _ P e1 (is_word w (codes "byte")) (λ e2.
    chosen (bytes_eq w (codes "short")) prim.Short p _ P e2 (is_word w (codes "short")) (λ e3.
    chosen (bytes_eq w (codes "char")) prim.Char p _ P e3 (is_word w (codes "char")) (λ e4.
    chosen (bytes_eq w (codes "int")) prim.Int p _ P e4 (is_word w (codes "int")) (λ e5.
    chosen (bytes_eq w (codes "long")) prim.Long p None P e5 (is_word w (codes "long")) (λ e6. cc))))))

read_keyword : (p : Primitive) → type_of_full (primitive_word p) ≡ Some (Prim p)
unfolding type_of_full type_of_reversed
read_keyword prim.Boolean = refl
read_keyword prim.Byte = refl
read_keyword prim.Short = refl
read_keyword prim.Char = refl
read_keyword prim.Int = refl
read_keyword prim.Long = refl

some_is : (a b : Ty) → Some a ≡ Some b → a ≡ b
some_is a b e = cc

of_keyword : (text : List ℕ) (of : Ty) (p : Primitive) → type_of_full text ≡ Some of → primitive_of text ≡ Some p → kind_of_layer (out-Ty of) ≡ kind_of_primitive p
of_keyword text of p read is =
    let same : Prim p ≡ of = some_is (Prim p) of (sym (read_keyword p) ∙ ap type_of_full (sym (keyword_is text p is)) ∙ read) in
    ap (λ of. kind_of_layer (out-Ty of)) (sym same) ∙ ap kind_of_layer (outs-Prim p)

-- ---- and one that is none

no_keyword : (p : Primitive) → primitive_of (primitive_word p) ≡ None → ⊥
no_keyword prim.Boolean e = cc
no_keyword prim.Byte e = cc
no_keyword prim.Short e = cc
no_keyword prim.Char e = cc
no_keyword prim.Int e = cc
no_keyword prim.Long e = cc

of_no_keyword : (text : List ℕ) (layer : Ty-F Ty) → primitive_of text ≡ None → text_layer full_name (map-Ty Ty (List ℕ) full_text layer) ≡ text → kind_of_layer layer ≡ slot.R
of_no_keyword text Ty-F.Void none is = refl
of_no_keyword text Ty-F.Null none is = refl
of_no_keyword text Ty-F.Def none is = refl
of_no_keyword text (Ty-F.Prim p) none is = absurd (no_keyword p (ap primitive_of is ∙ none))
of_no_keyword text (Ty-F.Class class) none is = refl
of_no_keyword text (Ty-F.Array elem) none is = refl

by_keyword : (text : List ℕ) (of : Ty) (o : Option Primitive) → type_of_full text ≡ Some of → primitive_of text ≡ o → kind_of_word o ≡ kind_of_layer (out-Ty of)
by_keyword text of (Some p) read is = sym (of_keyword text of p read is)
by_keyword text of None read is = sym (of_no_keyword text (out-Ty of) is (sym (fold_out-Ty (List ℕ) (text_layer full_name) of) ∙ spelled text of read))

pub text_kind : (text : List ℕ) (of : Ty) → type_of_full text ≡ Some of → kind_of_text text ≡ kind_of_type of
unfolding kind_of_text kind_of_type
text_kind text of read = by_keyword text of (primitive_of text) read refl
