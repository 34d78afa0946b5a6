-- Types that code names: their classes are known, and their texts have the form that code asks for.
use Rattle.std.proofs.Common.{◌≡◌, ℕ, ◌+◌, ◌<◌, Bool, true, false, ◌&&◌, ◌||◌, cond, eqb, List, [], ◌∷◌, ◌++◌, length, take, drop, codes, map, sym, refl, ap, ◌∙◌, subst, arith}
use Rattle.std.specs.Prelude.{not, nat_lt, Option, Some, None, if◌then◌else◌}
use Rattle.std.specs.List.{range_with_len, position_or_len}
use Rattle.std.proofs.lemmas.Bool.{eqb-true, ltb-true, lt-ltb}
use Rattle.std.proofs.lemmas.List.{take-append-le, drop-append-le}
use Rattle.std.proofs.lemmas.List.Sums.{prefix_len-le-length}
use Rattle.std.proofs.lemmas.List.Folds.{prefix_len-append}
use Rattle.std.proofs.lemmas.List.FromFn.{get_or-map-range_with_len}
use Rattle.std.specs.Prelude.{get_or}
use Rattle.pl_types.specs.declared.primitive.Primitive.{Primitive}
use Rattle.pl_types.specs.declared.primitive.Primitive.TheVariants as prim
use Rattle.pl_types.specs.declared.ty.Ty.{Ty, out-Ty}
use Rattle.pl_types.specs.declared.ty.Ty.TheFolds.{fold-roll-Ty, fold_out-Ty, ind-Ty, map-Ty}
use Rattle.pl_types.specs.declared.ty.Ty.TheOpen.{Ty-F}
use Rattle.pl_types.specs.declared.ty.Ty.TheViews.{roll-Ty}
use Rattle.pl_types.specs.declared.ty.Ty.TheVariants.{Class, rolls-Class}
use Rattle.pl_types.specs.declared.classes.TheConstants.{STRING, PRELUDE}
use Rattle.pl_types.specs.Classes.{class_table, class_row, full_name}
use Rattle.pl_types.specs.Texts.{primitive_word, text_layer, full_text, known_layer, is_known}
use Rattle.listing_parts.specs.Names.{type_words, is_one_of, is_name, is_class, is_pairs, is_bracket, is_type, formed as formed_as}
use Rattle.program_typing.specs.Types.{listed_layer, is_listed, IsNamed}

-- ---- classes

-- what holds of each type by its layers
abbrev Known : Ty → Type 0
Known t = is_listed t ≡ true → is_known t ≡ true

below : (class : ℕ) → nat_lt class PRELUDE ≡ true → class < 55
below class h = ltb-true class 55 h

known_layers : (y : Ty-F ((t : Ty) × Known t)) → Known (roll-Ty (map-Ty ((t : Ty) × Known t) Ty (λ e. e.0) y))
known_layers Ty-F.Void h = fold-roll-Ty Bool known_layer Ty-F.Void
known_layers Ty-F.Null h = fold-roll-Ty Bool known_layer Ty-F.Null
known_layers Ty-F.Def h = fold-roll-Ty Bool known_layer Ty-F.Def
known_layers (Ty-F.Prim p) h = fold-roll-Ty Bool known_layer (Ty-F.Prim p)
known_layers (Ty-F.Class class) h =
    let under : class < 55 = below class (sym (fold-roll-Ty Bool listed_layer (Ty-F.Class class)) ∙ h) in
    fold-roll-Ty Bool known_layer (Ty-F.Class class) ∙ lt-ltb class 57 (omega (arith, under))
known_layers (Ty-F.Array e) h = fold-roll-Ty Bool known_layer (Ty-F.Array e.0) ∙ e.1 (sym (fold-roll-Ty Bool listed_layer (Ty-F.Array e.0)) ∙ h)

known : (t : Ty) → Known t
known = ind-Ty Known (λ x y is. let P : Ty-F Ty → Type 0 = λ z. Known (roll-Ty z) in subst P is (known_layers y))

pub named_known : (t : Ty) → IsNamed t → is_known t ≡ true
named_known t h = known t h.listed

-- the type of texts
pub string_named : IsNamed (Class STRING)
string_named = record { listed = ap is_listed (sym (rolls-Class STRING)) ∙ fold-roll-Ty Bool listed_layer (Ty-F.Class STRING) }

pub listed_out : (t : Ty) → IsNamed t → listed_layer (map-Ty Ty Bool is_listed (out-Ty t)) ≡ true
listed_out t h = sym (fold_out-Ty Bool listed_layer t) ∙ h.listed

-- ---- texts

same_place : (s : List ℕ) → position_or_len is_bracket (s ++ codes "[]") ≡ position_or_len is_bracket s
same_place s = prefix_len-append (λ (b : ℕ). not (is_bracket b)) s (codes "[]") ∙ chosen (eqb (position_or_len is_bracket s) (length s)) refl
  where
    chosen : (b : Bool) → eqb (position_or_len is_bracket s) (length s) ≡ b → cond b (length s + 0) (position_or_len is_bracket s) ≡ position_or_len is_bracket s
    chosen true e = let same : position_or_len is_bracket s ≡ length s = eqb-true (position_or_len is_bracket s) (length s) e in omega (arith, same)
    chosen false e = refl

last_more : (x y z w : Bool) → (z ≡ true → w ≡ true) → (x && y && z) ≡ true → (x && y && w) ≡ true
last_more true true z w h e = h e
last_more true false z w h e = e
last_more false y z w h e = e

pairs_more : (bs : List ℕ) → is_pairs bs ≡ true → is_pairs (bs ++ codes "[]") ≡ true
pairs_more [] h = refl
pairs_more (b ∷ []) h = absurd cc
pairs_more (b ∷ c ∷ bs) h = last_more (eqb b 91) (eqb c 93) (is_pairs bs) (is_pairs (bs ++ codes "[]")) (pairs_more bs) h

second_more : (x z w : Bool) → (z ≡ true → w ≡ true) → (x && z) ≡ true → (x && w) ≡ true
second_more true z w h e = h e
second_more false z w h e = e

array_formed : (s : List ℕ) → is_type s ≡ true → is_type (s ++ codes "[]") ≡ true
unfolding is_type
array_formed s h =
    let F : List ℕ → List ℕ → Bool = λ front pairs. (is_one_of type_words front || is_class front) && is_pairs pairs in
    let n = position_or_len is_bracket s in
    let short = prefix_len-le-length (λ (b : ℕ). not (is_bracket b)) s in
    ap (λ (n : ℕ). F (take n (s ++ codes "[]")) (drop n (s ++ codes "[]"))) (same_place s)
    ∙ ap (λ (front : List ℕ). F front (drop n (s ++ codes "[]"))) (take-append-le n s (codes "[]") short)
    ∙ ap (λ (pairs : List ℕ). F (take n s) pairs) (drop-append-le n s (codes "[]") short)
    ∙ second_more (is_one_of type_words (take n s) || is_class (take n s)) (is_pairs (drop n s)) (is_pairs (drop n s ++ codes "[]")) (pairs_more (drop n s)) h

def_formed : is_type (codes "def") ≡ true
unfolding is_type
def_formed = refl

primitive_formed : (p : Primitive) → is_type (primitive_word p) ≡ true
unfolding is_type
primitive_formed prim.Boolean = refl
primitive_formed prim.Byte = refl
primitive_formed prim.Short = refl
primitive_formed prim.Char = refl
primitive_formed prim.Int = refl
primitive_formed prim.Long = refl

each_formed : map (λ class. is_type (full_name class)) (range_with_len 0 55) ≡ map (λ class. true) (range_with_len 0 55)
unfolding is_type is_class is_name full_name class_row class_table
each_formed = refl

class_formed : (class : ℕ) → class < 55 → is_type (full_name class) ≡ true
class_formed class h =
    sym (get_or-map-range_with_len (λ c. is_type (full_name c)) 0 55 class class false h (omega arith))
    ∙ ap (λ xs. get_or xs class false) each_formed
    ∙ get_or-map-range_with_len (λ c. true) 0 55 class class false h (omega arith)

abbrev Formed : Ty → Type 0
Formed t = is_listed t ≡ true → is_type (full_text t) ≡ true

at_layer : (x : Ty-F Ty) → full_text (roll-Ty x) ≡ text_layer full_name (map-Ty Ty (List ℕ) full_text x)
at_layer x = fold-roll-Ty (List ℕ) (text_layer full_name) x

unlisted : (x : Ty-F Ty) → listed_layer (map-Ty Ty Bool is_listed x) ≡ false → is_listed (roll-Ty x) ≡ true → ⊥
unlisted x n h = let e : false ≡ true = sym n ∙ sym (fold-roll-Ty Bool listed_layer x) ∙ h in cc

formed_layers : (y : Ty-F ((t : Ty) × Formed t)) → Formed (roll-Ty (map-Ty ((t : Ty) × Formed t) Ty (λ e. e.0) y))
formed_layers Ty-F.Void h = absurd (unlisted Ty-F.Void refl h)
formed_layers Ty-F.Null h = absurd (unlisted Ty-F.Null refl h)
formed_layers Ty-F.Def h = ap is_type (at_layer Ty-F.Def) ∙ def_formed
formed_layers (Ty-F.Prim p) h = ap is_type (at_layer (Ty-F.Prim p)) ∙ primitive_formed p
formed_layers (Ty-F.Class class) h = ap is_type (at_layer (Ty-F.Class class)) ∙ class_formed class (below class (sym (fold-roll-Ty Bool listed_layer (Ty-F.Class class)) ∙ h))
formed_layers (Ty-F.Array e) h =
    ap is_type (at_layer (Ty-F.Array e.0)) ∙ array_formed (full_text e.0) (e.1 (sym (fold-roll-Ty Bool listed_layer (Ty-F.Array e.0)) ∙ h))

formed : (t : Ty) → Formed t
formed = ind-Ty Formed (λ x y is. let P : Ty-F Ty → Type 0 = λ z. Formed (roll-Ty z) in subst P is (formed_layers y))

-- code may name the type
pub named_formed : (t : Ty) → IsNamed t → is_type (full_text t) ≡ true
named_formed t h = formed t h.listed

each_class : map (λ class. is_class (full_name class)) (range_with_len 0 55) ≡ map (λ class. true) (range_with_len 0 55)
unfolding is_class is_name full_name class_row class_table
each_class = refl

-- the name of a class that code may name
pub class_named : (class : ℕ) → IsNamed (Class class) → class < 55
class_named class h = below class (sym (fold-roll-Ty Bool listed_layer (Ty-F.Class class)) ∙ sym (ap is_listed (sym (rolls-Class class))) ∙ h.listed)

name_formed : (class : ℕ) → class < 55 → is_class (full_name class) ≡ true
name_formed class h =
    sym (get_or-map-range_with_len (λ c. is_class (full_name c)) 0 55 class class false h (omega arith))
    ∙ ap (λ xs. get_or xs class false) each_class
    ∙ get_or-map-range_with_len (λ c. true) 0 55 class class false h (omega arith)

pub class_made_so : (class : ℕ) (text : List ℕ) (made : Option (List ℕ)) → made ≡ formed_as is_class text → text ≡ full_name class → made ≡ None → IsNamed (Class class) → ⊥
class_made_so class text made e is none h = let given : formed_as is_class text ≡ Some text = chosen (is_class text) (ap is_class is ∙ name_formed class (class_named class h)) in let bad : None ≡ Some text = sym none ∙ e ∙ given in cc
  where
    chosen : (b : Bool) → b ≡ true → (if b then Some text else None) ≡ Some text
    chosen true e = refl
    chosen false e = cc

-- a text that is asked for in that form is given
pub made_so : (t : Ty) (text : List ℕ) (made : Option (List ℕ)) → made ≡ formed_as is_type text → text ≡ full_text t → made ≡ None → IsNamed t → ⊥
made_so t text made e is none h = let given : formed_as is_type text ≡ Some text = chosen (is_type text) (ap is_type is ∙ named_formed t h) in let bad : None ≡ Some text = sym none ∙ e ∙ given in cc
  where
    chosen : (b : Bool) → b ≡ true → (if b then Some text else None) ≡ Some text
    chosen true e = refl
    chosen false e = cc
