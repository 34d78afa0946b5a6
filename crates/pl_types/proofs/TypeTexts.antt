-- The full texts of types, read and written.
use Rattle.std.proofs.Common.{◌≡◌, ℕ, ◌<◌, Bool, true, false, ◌&&◌, cond, eqb, List, [], ◌∷◌, ◌++◌, Option, Some, None, codes, get_or, map, sym, refl, ap, ◌∙◌, subst, reverse, arith}
use Rattle.std.specs.List.{range_with_len}
use Rattle.std.specs.Str.{bytes_eq}
use Rattle.std.proofs.lemmas.Bool.{eqb-true, false≢true}
use Rattle.std.proofs.lemmas.List.{reverse-append, reverse-reverse}
use Rattle.std.proofs.lemmas.List.FromFn.{get_or-map-range_with_len}
use Rattle.std.proofs.lemmas.Slice.Eq.{bytes_eq-Decides}
use borrow.Author.Tests.{ltb-true}
use Rattle.pl_types.specs.declared.primitive.Primitive.{Primitive}
use Rattle.pl_types.specs.declared.primitive.Primitive.TheVariants as prim
use Rattle.pl_types.specs.declared.ty.Ty.{Ty}
use Rattle.pl_types.specs.declared.ty.Ty.TheFolds.{fold-roll-Ty, ind-Ty, map-Ty}
use Rattle.pl_types.specs.declared.ty.Ty.TheOpen.{Ty-F}
use Rattle.pl_types.specs.declared.ty.Ty.TheViews.{roll-Ty}
use Rattle.pl_types.specs.declared.ty.Ty.TheVariants.{Void, Null, Def, Prim, Class, Array, rolls-Void, rolls-Null, rolls-Def, rolls-Prim, rolls-Class, rolls-Array}
use Rattle.pl_types.specs.Classes.{class_table, class_row, full_name}
use Rattle.pl_types.specs.Names.{class_of_full}
use Rattle.pl_types.specs.Texts.{primitive_word, primitive_of, text_layer, full_text, named_type, plain_type, array_of, type_of_full, type_of_reversed, known_layer, is_known}
use Rattle.pl_types.proofs.FullNames.{class_spelled}

pub array_text : (element : List ℕ) → type_of_full (element ++ codes "[]") ≡ array_of (type_of_full element)
unfolding type_of_full type_of_reversed
array_text element = ap type_of_reversed (reverse-append element (codes "[]"))

brackets : (b c : ℕ) (rest : List ℕ) (x y : Bool) → eqb b 93 ≡ x → eqb c 91 ≡ y → ((element : List ℕ) → reverse (b ∷ c ∷ rest) ≡ element ++ codes "[]" → ⊥) → (x && y) ≡ false
brackets b c rest true true e f h =
    absurd (h (reverse rest) (ap (λ z. reverse (z ∷ c ∷ rest)) (eqb-true b 93 e) ∙ ap (λ z. reverse (93 ∷ z ∷ rest)) (eqb-true c 91 f) ∙ reverse-append (codes "][") rest))
brackets b c rest true false e f h = refl
brackets b c rest false y e f h = refl

plain_reversed : (r : List ℕ) → ((element : List ℕ) → reverse r ≡ element ++ codes "[]" → ⊥) → type_of_reversed r ≡ plain_type (reverse r)
unfolding type_of_reversed
plain_reversed [] h = refl
plain_reversed (b ∷ []) h = refl
plain_reversed (b ∷ c ∷ rest) h =
    ap (λ t. cond t (array_of (type_of_reversed rest)) (plain_type (reverse (b ∷ c ∷ rest)))) (brackets b c rest (eqb b 93) (eqb c 91) refl refl h)

pub plain_text : (text : List ℕ) → ((element : List ℕ) → text ≡ element ++ codes "[]" → ⊥) → type_of_full text ≡ plain_type text
unfolding type_of_full
plain_text text h =
    plain_reversed (reverse text) (λ element e. h element (sym (reverse-reverse text) ∙ e)) ∙ ap plain_type (reverse-reverse text)

-- what is read from the full text of a type is the type
abbrev pub IsRead : Ty → Type 0
IsRead t = is_known t ≡ true → type_of_full (full_text t) ≡ Some t

at_layer : (x : Ty-F Ty) → full_text (roll-Ty x) ≡ text_layer full_name (map-Ty Ty (List ℕ) full_text x)
at_layer x = fold-roll-Ty (List ℕ) (text_layer full_name) x

read_primitive : (p : Primitive) → type_of_full (primitive_word p) ≡ Some (Prim p)
unfolding type_of_full type_of_reversed
read_primitive prim.Boolean = refl
read_primitive prim.Byte = refl
read_primitive prim.Short = refl
read_primitive prim.Char = refl
read_primitive prim.Int = refl
read_primitive prim.Long = refl

each_read : map (λ class. type_of_full (full_name class)) (range_with_len 0 57) ≡ map (λ class. Some (Class class)) (range_with_len 0 57)
unfolding type_of_full type_of_reversed class_of_full full_name class_row class_table
each_read = refl

read_class : (class : ℕ) → class < 57 → type_of_full (full_name class) ≡ Some (Class class)
read_class class h =
    sym (get_or-map-range_with_len (λ c. type_of_full (full_name c)) 0 57 class class None h (omega arith))
    ∙ ap (λ xs. get_or xs class None) each_read
    ∙ get_or-map-range_with_len (λ c. Some (Class c)) 0 57 class class None h (omega arith)

read_void : type_of_full (codes "void") ≡ Some Void
unfolding type_of_full type_of_reversed
read_void = refl

read_null : type_of_full (codes "null") ≡ Some Null
unfolding type_of_full type_of_reversed
read_null = refl

read_def : type_of_full (codes "def") ≡ Some Def
unfolding type_of_full type_of_reversed
read_def = refl

layer : (y : Ty-F ((t : Ty) × IsRead t)) → IsRead (roll-Ty (map-Ty ((t : Ty) × IsRead t) Ty (λ e. e.0) y))
layer Ty-F.Void known = ap type_of_full (at_layer Ty-F.Void) ∙ read_void ∙ ap Some (sym rolls-Void)
layer Ty-F.Null known = ap type_of_full (at_layer Ty-F.Null) ∙ read_null ∙ ap Some (sym rolls-Null)
layer Ty-F.Def known = ap type_of_full (at_layer Ty-F.Def) ∙ read_def ∙ ap Some (sym rolls-Def)
layer (Ty-F.Prim p) known = ap type_of_full (at_layer (Ty-F.Prim p)) ∙ read_primitive p ∙ ap Some (sym (rolls-Prim p))
layer (Ty-F.Class class) known =
    ap type_of_full (at_layer (Ty-F.Class class))
    ∙ read_class class (ltb-true class 57 (sym (fold-roll-Ty Bool known_layer (Ty-F.Class class)) ∙ known))
    ∙ ap Some (sym (rolls-Class class))
layer (Ty-F.Array e) known =
    ap type_of_full (at_layer (Ty-F.Array e.0))
    ∙ array_text (full_text e.0)
    ∙ ap array_of (e.1 (sym (fold-roll-Ty Bool known_layer (Ty-F.Array e.0)) ∙ known))
    ∙ ap Some (sym (rolls-Array e.0))

pub read_back : (t : Ty) → IsRead t
read_back = ind-Ty IsRead (λ x y is. let P : Ty-F Ty → Type 0 = λ z. IsRead (roll-Ty z) in subst P is (layer y))

-- What is read has the text that it was read from. One choice between a type and others
pick : (b : Bool) (a t : Ty) (o : Option Ty) (P : Ty → Type 0) → cond b (Some a) o ≡ Some t → (b ≡ true → P a) → (o ≡ Some t → P t) → P t
pick true a t o P e h k = let same : a ≡ t = cc in subst P same (h refl)
pick false a t o P e h k = k e

chosen : (b : Bool) (a p : Primitive) (o : Option Primitive) (P : Primitive → Type 0) → cond b (Some a) o ≡ Some p → (b ≡ true → P a) → (o ≡ Some p → P p) → P p
chosen true a p o P e h k = let same : a ≡ p = cc in subst P same (h refl)
chosen false a p o P e h k = k e

is_word : (w v : List ℕ) → bytes_eq w v ≡ true → v ≡ w
is_word w v h = sym ((bytes_eq-Decides w v).0 h)

primitive_spelled : (w : List ℕ) (p : Primitive) → primitive_of w ≡ Some p → primitive_word p ≡ w
primitive_spelled w p e =
    let P : Primitive → Type 0 = λ q. primitive_word q ≡ w in
    chosen (bytes_eq w (codes "boolean")) prim.Boolean p _ P e (is_word w (codes "boolean")) (λ e1.
    chosen (bytes_eq w (codes "byte")) prim.Byte p _ P e1 (is_word w (codes "byte")) (λ e2.
    chosen (bytes_eq w (codes "short")) prim.Short p _ P e2 (is_word w (codes "short")) (λ e3.
    chosen (bytes_eq w (codes "char")) prim.Char p _ P e3 (is_word w (codes "char")) (λ e4.
    chosen (bytes_eq w (codes "int")) prim.Int p _ P e4 (is_word w (codes "int")) (λ e5.
    chosen (bytes_eq w (codes "long")) prim.Long p None P e5 (is_word w (codes "long")) (λ e6. cc))))))

named_spelled : (w : List ℕ) (t : Ty) (o : Option Primitive) (k : Option ℕ) → named_type o k ≡ Some t → ((p : Primitive) → o ≡ Some p → primitive_word p ≡ w) → ((class : ℕ) → k ≡ Some class → full_name class ≡ w) → full_text t ≡ w
named_spelled w t (Some p) k e h g =
    let same : Prim p ≡ t = cc in
    ap full_text (sym same) ∙ ap full_text (sym (rolls-Prim p)) ∙ at_layer (Ty-F.Prim p) ∙ h p refl
named_spelled w t None (Some class) e h g =
    let same : Class class ≡ t = cc in
    ap full_text (sym same) ∙ ap full_text (sym (rolls-Class class)) ∙ at_layer (Ty-F.Class class) ∙ g class refl
named_spelled w t None None e h g = cc

plain_spelled : (w : List ℕ) (t : Ty) → plain_type w ≡ Some t → full_text t ≡ w
plain_spelled w t e =
    let P : Ty → Type 0 = λ u. full_text u ≡ w in
    pick (bytes_eq w (codes "void")) Void t _ P e (λ h. ap full_text (sym rolls-Void) ∙ at_layer Ty-F.Void ∙ is_word w (codes "void") h) (λ e1.
    pick (bytes_eq w (codes "null")) Null t _ P e1 (λ h. ap full_text (sym rolls-Null) ∙ at_layer Ty-F.Null ∙ is_word w (codes "null") h) (λ e2.
    pick (bytes_eq w (codes "def")) Def t _ P e2 (λ h. ap full_text (sym rolls-Def) ∙ at_layer Ty-F.Def ∙ is_word w (codes "def") h) (λ e3.
    named_spelled w t (primitive_of w) (class_of_full w) e3 (primitive_spelled w) (λ class f. (class_spelled w class f).1))))

array_spelled : (o : Option Ty) (t : Ty) (text : List ℕ) → array_of o ≡ Some t → ((e : Ty) → o ≡ Some e → full_text e ≡ text) → full_text t ≡ text ++ codes "[]"
array_spelled None t text h k = cc
array_spelled (Some e) t text h k =
    let same : Array e ≡ t = cc in
    ap full_text (sym same) ∙ ap full_text (sym (rolls-Array e)) ∙ at_layer (Ty-F.Array e) ∙ ap (λ xs. xs ++ codes "[]") (k e refl)

both : (a b : Bool) → (a && b) ≡ true → (a ≡ true) × (b ≡ true)
both true b h = (refl, h)
both false b h = absurd (false≢true h)

longer_spelled : (b c : ℕ) (rest : List ℕ) (t : Ty) (x : Bool) → (eqb b 93 && eqb c 91) ≡ x → cond x (array_of (type_of_reversed rest)) (plain_type (reverse (b ∷ c ∷ rest))) ≡ Some t
    → ((e : Ty) → type_of_reversed rest ≡ Some e → full_text e ≡ reverse rest) → full_text t ≡ reverse (b ∷ c ∷ rest)
longer_spelled b c rest t true e f k =
    let tests = both (eqb b 93) (eqb c 91) e in
    array_spelled (type_of_reversed rest) t (reverse rest) f k
    ∙ sym (ap (λ z. reverse (z ∷ c ∷ rest)) (eqb-true b 93 tests.0) ∙ ap (λ z. reverse (93 ∷ z ∷ rest)) (eqb-true c 91 tests.1) ∙ reverse-append (codes "][") rest)
longer_spelled b c rest t false e f k = plain_spelled (reverse (b ∷ c ∷ rest)) t f

reversed_spelled : (r : List ℕ) (t : Ty) → type_of_reversed r ≡ Some t → full_text t ≡ reverse r
unfolding type_of_reversed
reversed_spelled [] t e = plain_spelled [] t e
reversed_spelled (b ∷ []) t e = plain_spelled (b ∷ []) t e
reversed_spelled (b ∷ c ∷ rest) t e = longer_spelled b c rest t (eqb b 93 && eqb c 91) refl e (reversed_spelled rest)

pub spelled : (text : List ℕ) (t : Ty) → type_of_full text ≡ Some t → full_text t ≡ text
unfolding type_of_full
spelled text t e = reversed_spelled (reverse text) t e ∙ reverse-reverse text

pub of_element : (text element : List ℕ) (o : Option Ty) → text ≡ element ++ codes "[]" → o ≡ type_of_full element → array_of o ≡ type_of_full text
of_element text element o e h = ap array_of h ∙ sym (array_text element) ∙ ap type_of_full (sym e)
