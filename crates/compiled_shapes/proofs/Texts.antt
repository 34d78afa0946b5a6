-- The text of a type tells the kind of its values, and how many `[]` it has.
use Rattle.std.proofs.Common.{◌≡◌, ℕ, suc, ◌+◌, ◌-◌, ◌/◌, ◌≤◌, ◌<◌, Bool, true, false, not, cond, List, [], ◌∷◌, ◌++◌, codes, get_or, map, length, Option, Some, None, sym, refl, ap, ◌∙◌, subst, arith, length-append}
use Rattle.std.specs.List.{range_with_len, position_or_len}
use Rattle.std.specs.Str.{bytes_eq}
use Rattle.std.proofs.lemmas.Bool.{ltb-true, false≢true}
use Rattle.std.proofs.lemmas.List.FromFn.{get_or-map-range_with_len}
use Rattle.std.proofs.lemmas.Slice.Eq.{bytes_eq-Decides}
use Rattle.pl_types.specs.declared.primitive.Primitive.{Primitive}
use Rattle.pl_types.specs.declared.primitive.Primitive.TheVariants as prim
use Rattle.pl_types.specs.declared.ty.Ty.{Ty, out-Ty}
use Rattle.pl_types.specs.declared.ty.Ty.TheFolds.{fold-roll-Ty, ind-Ty, map-Ty}
use Rattle.pl_types.specs.declared.ty.Ty.TheOpen.{Ty-F}
use Rattle.pl_types.specs.declared.ty.Ty.TheViews.{roll-Ty, roll-out-Ty}
use Rattle.pl_types.specs.Classes.{class_table, class_row, full_name}
use Rattle.pl_types.specs.Texts.{primitive_word, primitive_of, text_layer, full_text}
use Rattle.pl_code.specs.declared.kinds.Slot.TheVariants.{R}
use Rattle.instruction_types.specs.Types.{is_opening, kind_of_word, kind_of_text, dimensions_of}
use Rattle.compiler_relation.specs.Types as containers
use Rattle.compiler_relation.specs.Types.{dimensions_layer}
use Rattle.compiler_relation.specs.Representation.{kind_of_layer, kind_of}
use Rattle.program_typing.specs.Types.{listed_layer, is_listed, IsNamed}
use Rattle.compiled_shapes.proofs.Named.{at_layer, listed_at}

-- ---- how many `[]` a text has

place_more : (xs ys : List ℕ) → position_or_len is_opening (xs ++ (91 ∷ ys)) ≡ position_or_len is_opening xs
place_more [] ys = refl
place_more (x ∷ xs) ys = ap (λ n. cond (not (is_opening x)) (1 + n) 0) (place_more xs ys)

place_within : (xs : List ℕ) → position_or_len is_opening xs ≤ length xs
place_within [] = omega arith
place_within (x ∷ xs) = pick (not (is_opening x)) (place_within xs)
  where
    pick : (b : Bool) → position_or_len is_opening xs ≤ length xs → cond b (1 + position_or_len is_opening xs) 0 ≤ suc (length xs)
    pick true h = omega (arith, h)
    pick false h = omega arith

halves : (m n : ℕ) → m ≤ n → (n + 2 - m) / 2 ≡ suc ((n - m) / 2)
halves m n h = omega (arith, h)

dimensions_more : (xs : List ℕ) → dimensions_of (xs ++ codes "[]") ≡ suc (dimensions_of xs)
unfolding dimensions_of
dimensions_more xs =
    ap (λ n. (length (xs ++ codes "[]") - n) / 2) (place_more xs (93 ∷ []))
    ∙ ap (λ n. (n - position_or_len is_opening xs) / 2) (length-append xs (codes "[]"))
    ∙ halves (position_or_len is_opening xs) (length xs) (place_within xs)

primitive_dimensions : (p : Primitive) → dimensions_of (primitive_word p) ≡ 0
unfolding dimensions_of
primitive_dimensions prim.Boolean = refl
primitive_dimensions prim.Byte = refl
primitive_dimensions prim.Short = refl
primitive_dimensions prim.Char = refl
primitive_dimensions prim.Int = refl
primitive_dimensions prim.Long = refl

def_dimensions : dimensions_of (codes "def") ≡ 0
unfolding dimensions_of
def_dimensions = refl

each_flat : map (λ class. dimensions_of (full_name class)) (range_with_len 0 55) ≡ map (λ class. 0) (range_with_len 0 55)
unfolding dimensions_of full_name class_row class_table
each_flat = refl

class_dimensions : (class : ℕ) → class < 55 → dimensions_of (full_name class) ≡ 0
class_dimensions class h =
    sym (get_or-map-range_with_len (λ c. dimensions_of (full_name c)) 0 55 class class 0 h (omega arith))
    ∙ ap (λ xs. get_or xs class 0) each_flat
    ∙ get_or-map-range_with_len (λ c. 0) 0 55 class class 0 h (omega arith)

dimensions_at : (x : Ty-F Ty) → containers.dimensions_of (roll-Ty x) ≡ dimensions_layer (map-Ty Ty ℕ containers.dimensions_of x)
dimensions_at x = fold-roll-Ty ℕ dimensions_layer x

abbrev HasAsMany : Ty → Type 0
HasAsMany of = is_listed of ≡ true → dimensions_of (full_text of) ≡ containers.dimensions_of of

layer_dimensions : (y : Ty-F ((t : Ty) × HasAsMany t)) → HasAsMany (roll-Ty (map-Ty ((t : Ty) × HasAsMany t) Ty (λ e. e.0) y))
layer_dimensions Ty-F.Void h = absurd (false≢true (sym (listed_at Ty-F.Void) ∙ h))
layer_dimensions Ty-F.Null h = absurd (false≢true (sym (listed_at Ty-F.Null) ∙ h))
layer_dimensions Ty-F.Def h = ap dimensions_of (at_layer Ty-F.Def) ∙ def_dimensions ∙ sym (dimensions_at Ty-F.Def)
layer_dimensions (Ty-F.Prim p) h = ap dimensions_of (at_layer (Ty-F.Prim p)) ∙ primitive_dimensions p ∙ sym (dimensions_at (Ty-F.Prim p))
layer_dimensions (Ty-F.Class class) h =
    ap dimensions_of (at_layer (Ty-F.Class class)) ∙ class_dimensions class (ltb-true class 55 (sym (listed_at (Ty-F.Class class)) ∙ h))
    ∙ sym (dimensions_at (Ty-F.Class class))
layer_dimensions (Ty-F.Array e) h =
    ap dimensions_of (at_layer (Ty-F.Array e.0)) ∙ dimensions_more (full_text e.0) ∙ ap suc (e.1 (sym (listed_at (Ty-F.Array e.0)) ∙ h))
    ∙ sym (dimensions_at (Ty-F.Array e.0))

all_dimensions : (t : Ty) → HasAsMany t
all_dimensions = ind-Ty HasAsMany (λ x y is. let P : Ty-F Ty → Type 0 = λ z. HasAsMany (roll-Ty z) in subst P is (layer_dimensions y))

pub text_dimensions : (of : Ty) → IsNamed of → dimensions_of (full_text of) ≡ containers.dimensions_of of
text_dimensions of named = all_dimensions of named.listed

-- ---- the kind of a type's values

zero_not_suc : (n : ℕ) → 0 ≡ suc n → ⊥
zero_not_suc n e = omega (arith, e)

-- one choice between a primitive and others
chosen : (b : Bool) (a p : Primitive) (o : Option Primitive) (P : Primitive → Type 0) → cond b (Some a) o ≡ Some p → (b ≡ true → P a) → (o ≡ Some p → P p) → P p
chosen true a p o P e h k = let same : a ≡ p = cc in subst P same (h refl)
chosen false a p o P e h k = k e

is_word : (w v : List ℕ) → bytes_eq w v ≡ true → w ≡ v
is_word w v h = (bytes_eq-Decides w v).0 h

keyword_is : (w : List ℕ) (p : Primitive) → primitive_of w ≡ Some p → w ≡ primitive_word p
keyword_is w p e =
    let P : Primitive → Type 0 = λ q. w ≡ primitive_word q in
    chosen (bytes_eq w (codes "boolean")) prim.Boolean p _ P e (is_word w (codes "boolean")) (λ e1.
    chosen (bytes_eq w (codes "byte")) prim.Byte p _ P e1 (is_word w (codes "byte")) (λ e2.
    chosen (bytes_eq w (codes "short")) prim.Short p _ P e2 (is_word w (codes "short")) (λ e3.
    chosen (bytes_eq w (codes "char")) prim.Char p _ P e3 (is_word w (codes "char")) (λ e4.
    chosen (bytes_eq w (codes "int")) prim.Int p _ P e4 (is_word w (codes "int")) (λ e5.
    chosen (bytes_eq w (codes "long")) prim.Long p None P e5 (is_word w (codes "long")) (λ e6. cc))))))

-- no keyword has a `[]`
array_word : (xs : List ℕ) → primitive_of (xs ++ codes "[]") ≡ None
array_word xs = pick (primitive_of (xs ++ codes "[]")) refl
  where
    pick : (o : Option Primitive) → primitive_of (xs ++ codes "[]") ≡ o → primitive_of (xs ++ codes "[]") ≡ None
    pick None e = e
    pick (Some p) e =
        absurd (zero_not_suc (dimensions_of xs) (sym (primitive_dimensions p) ∙ ap dimensions_of (sym (keyword_is (xs ++ codes "[]") p e)) ∙ dimensions_more xs))

array_kind : (xs : List ℕ) → kind_of_text (xs ++ codes "[]") ≡ R
unfolding kind_of_text
array_kind xs = ap kind_of_word (array_word xs)

primitive_kind : (p : Primitive) → kind_of_text (primitive_word p) ≡ kind_of_layer (Ty-F.Prim p)
unfolding kind_of_text
primitive_kind prim.Boolean = refl
primitive_kind prim.Byte = refl
primitive_kind prim.Short = refl
primitive_kind prim.Char = refl
primitive_kind prim.Int = refl
primitive_kind prim.Long = refl

def_kind : kind_of_text (codes "def") ≡ R
unfolding kind_of_text
def_kind = refl

each_reference : map (λ class. kind_of_text (full_name class)) (range_with_len 0 55) ≡ map (λ class. R) (range_with_len 0 55)
unfolding kind_of_text full_name class_row class_table
each_reference = refl

class_kind : (class : ℕ) → class < 55 → kind_of_text (full_name class) ≡ R
class_kind class h =
    sym (get_or-map-range_with_len (λ c. kind_of_text (full_name c)) 0 55 class class R h (omega arith))
    ∙ ap (λ xs. get_or xs class R) each_reference
    ∙ get_or-map-range_with_len (λ c. R) 0 55 class class R h (omega arith)

layer_kind : (y : Ty-F Ty) → listed_layer (map-Ty Ty Bool is_listed y) ≡ true → kind_of_text (text_layer full_name (map-Ty Ty (List ℕ) full_text y)) ≡ kind_of_layer y
layer_kind Ty-F.Void h = absurd (false≢true h)
layer_kind Ty-F.Null h = absurd (false≢true h)
layer_kind Ty-F.Def h = def_kind
layer_kind (Ty-F.Prim p) h = primitive_kind p
layer_kind (Ty-F.Class class) h = class_kind class (ltb-true class 55 h)
layer_kind (Ty-F.Array e) h = array_kind (full_text e)

pub text_kind : (of : Ty) → IsNamed of → kind_of_text (full_text of) ≡ kind_of of
text_kind of named =
    ap (λ of. kind_of_text (full_text of)) (sym (roll-out-Ty of)) ∙ ap kind_of_text (at_layer (out-Ty of))
    ∙ layer_kind (out-Ty of) (sym (listed_at (out-Ty of)) ∙ ap is_listed (roll-out-Ty of) ∙ named.listed)
