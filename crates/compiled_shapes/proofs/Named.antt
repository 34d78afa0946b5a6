-- A type that code may name has a text that the verifier knows.
use Rattle.std.proofs.Common.{◌≡◌, ℕ, suc, ◌+◌, ◌<◌, Bool, true, false, not, cond, is_some, List, [], ◌∷◌, ◌++◌, codes, get_or, map, sym, refl, ap, ◌∙◌, subst, arith, take}
use Rattle.std.specs.List.{range_with_len, position_or_len, before_first}
use Rattle.std.proofs.lemmas.Bool.{ltb-true, false≢true}
use Rattle.std.proofs.lemmas.List.FromFn.{get_or-map-range_with_len}
use Rattle.pl_types.specs.declared.classes.TheConstants.{STRING}
use Rattle.pl_types.specs.declared.primitive.Primitive.{Primitive}
use Rattle.pl_types.specs.declared.primitive.Primitive.TheVariants as prim
use Rattle.pl_types.specs.declared.ty.Ty.{Ty, out-Ty}
use Rattle.pl_types.specs.declared.ty.Ty.TheVariants as t
use Rattle.pl_types.specs.declared.ty.Ty.TheFolds.{fold-roll-Ty, ind-Ty, map-Ty}
use Rattle.pl_types.specs.declared.ty.Ty.TheOpen.{Ty-F}
use Rattle.pl_types.specs.declared.ty.Ty.TheViews.{roll-Ty, roll-out-Ty}
use Rattle.pl_types.specs.declared.ty.Ty.TheVariants.{rolls-Class}
use Rattle.pl_types.specs.Classes.{class_table, class_row, full_name}
use Rattle.pl_types.specs.Names.{class_of_full}
use Rattle.pl_types.specs.Texts.{primitive_word, text_layer, full_text}
use Rattle.instruction_types.specs.Types.{is_opening, element_of, catalogue_class, is_known_word, is_known_type}
use Rattle.program_typing.specs.Types.{listed_layer, is_listed, IsNamed, string}

-- ---- texts

-- what stands before the first `[` is the same with further ones behind it
before_more : (p : ℕ → Bool) (xs : List ℕ) (x : ℕ) (ys : List ℕ) → p x ≡ true → before_first p (xs ++ (x ∷ ys)) ≡ before_first p xs
before_more p [] x ys h = ap (λ b. take (cond (not b) (1 + position_or_len p ys) 0) (x ∷ ys)) h
before_more p (z ∷ xs) x ys h = one_more (not (p z)) z (xs ++ (x ∷ ys)) xs (position_or_len p (xs ++ (x ∷ ys))) (position_or_len p xs) (before_more p xs x ys h)
  where
    next : (n : ℕ) → 1 + n ≡ suc n
    next n = omega arith

    one_more : (b : Bool) (z : ℕ) (longer xs : List ℕ) (m n : ℕ) → take m longer ≡ take n xs → take (cond b (1 + m) 0) (z ∷ longer) ≡ take (cond b (1 + n) 0) (z ∷ xs)
    one_more true z longer xs m n e = ap (λ k. take k (z ∷ longer)) (next m) ∙ ap (λ l. z ∷ l) e ∙ sym (ap (λ k. take k (z ∷ xs)) (next n))
    one_more false z longer xs m n e = refl

array_known : (element : List ℕ) → is_known_type (element ++ codes "[]") ≡ is_known_type element
unfolding is_known_type element_of
array_known element = ap is_known_word (before_more is_opening element 91 (93 ∷ []) refl)

pub at_layer : (x : Ty-F Ty) → full_text (roll-Ty x) ≡ text_layer full_name (map-Ty Ty (List ℕ) full_text x)
at_layer x = fold-roll-Ty (List ℕ) (text_layer full_name) x

pub listed_at : (x : Ty-F Ty) → is_listed (roll-Ty x) ≡ listed_layer (map-Ty Ty Bool is_listed x)
listed_at x = fold-roll-Ty Bool listed_layer x

primitive_known : (p : Primitive) → is_known_type (primitive_word p) ≡ true
unfolding is_known_type element_of
primitive_known prim.Boolean = refl
primitive_known prim.Byte = refl
primitive_known prim.Short = refl
primitive_known prim.Char = refl
primitive_known prim.Int = refl
primitive_known prim.Long = refl

def_known : is_known_type (codes "def") ≡ true
unfolding is_known_type element_of
def_known = refl

each_known : map (λ class. is_known_type (full_name class)) (range_with_len 0 55) ≡ map (λ class. true) (range_with_len 0 55)
unfolding is_known_type element_of catalogue_class class_of_full full_name class_row class_table
each_known = refl

class_known : (class : ℕ) → class < 55 → is_known_type (full_name class) ≡ true
class_known class h =
    sym (get_or-map-range_with_len (λ c. is_known_type (full_name c)) 0 55 class class false h (omega arith))
    ∙ ap (λ xs. get_or xs class false) each_known
    ∙ get_or-map-range_with_len (λ c. true) 0 55 class class false h (omega arith)

-- the text of a type that is listed
abbrev IsKnown : Ty → Type 0
IsKnown t = is_listed t ≡ true → is_known_type (full_text t) ≡ true

layer : (y : Ty-F ((t : Ty) × IsKnown t)) → IsKnown (roll-Ty (map-Ty ((t : Ty) × IsKnown t) Ty (λ e. e.0) y))
layer Ty-F.Void h = absurd (false≢true (sym (listed_at Ty-F.Void) ∙ h))
layer Ty-F.Null h = absurd (false≢true (sym (listed_at Ty-F.Null) ∙ h))
layer Ty-F.Def h = ap is_known_type (at_layer Ty-F.Def) ∙ def_known
layer (Ty-F.Prim p) h = ap is_known_type (at_layer (Ty-F.Prim p)) ∙ primitive_known p
layer (Ty-F.Class class) h = ap is_known_type (at_layer (Ty-F.Class class)) ∙ class_known class (ltb-true class 55 (sym (listed_at (Ty-F.Class class)) ∙ h))
layer (Ty-F.Array e) h = ap is_known_type (at_layer (Ty-F.Array e.0)) ∙ array_known (full_text e.0) ∙ e.1 (sym (listed_at (Ty-F.Array e.0)) ∙ h)

all_known : (t : Ty) → IsKnown t
all_known = ind-Ty IsKnown (λ x y is. let P : Ty-F Ty → Type 0 = λ z. IsKnown (roll-Ty z) in subst P is (layer y))

pub named_is_known : (t : Ty) → IsNamed t → is_known_type (full_text t) ≡ true
named_is_known t named = all_known t named.listed

pub string_named : IsNamed string
string_named = record { listed = ap is_listed (sym (rolls-Class STRING)) ∙ listed_at (Ty-F.Class STRING) }

-- ---- outermost layers

abbrev pub IsListedLayer : Ty-F Ty → Type 0
IsListedLayer Ty-F.Void = ⊥
IsListedLayer other = Unit {0}

layer_listed : (l : Ty-F Ty) → listed_layer (map-Ty Ty Bool is_listed l) ≡ true → IsListedLayer l
layer_listed Ty-F.Void h = absurd (false≢true h)
layer_listed Ty-F.Null h = tt
layer_listed Ty-F.Def h = tt
layer_listed (Ty-F.Prim p) h = tt
layer_listed (Ty-F.Class class) h = tt
layer_listed (Ty-F.Array of) h = tt

pub listed_has_values : (t : Ty) → IsNamed t → IsListedLayer (out-Ty t)
listed_has_values t named = layer_listed (out-Ty t) (sym (listed_at (out-Ty t)) ∙ ap is_listed (roll-out-Ty t) ∙ named.listed)

-- ---- classes that are caught

class_below : (class : ℕ) → IsNamed (t.Class class) → class < 55
class_below class named = ltb-true class 55 (sym (listed_at (Ty-F.Class class)) ∙ ap is_listed (rolls-Class class) ∙ named.listed)

each_in_catalogue : map (λ class. is_some (catalogue_class (full_name class))) (range_with_len 0 55) ≡ map (λ class. true) (range_with_len 0 55)
unfolding catalogue_class class_of_full full_name class_row class_table
each_in_catalogue = refl

pub named_in_catalogue : (class : ℕ) → IsNamed (t.Class class) → is_some (catalogue_class (full_name class)) ≡ true
named_in_catalogue class named =
    let h = class_below class named in
    sym (get_or-map-range_with_len (λ c. is_some (catalogue_class (full_name c))) 0 55 class class false h (omega arith))
    ∙ ap (λ xs. get_or xs class false) each_in_catalogue
    ∙ get_or-map-range_with_len (λ c. true) 0 55 class class false h (omega arith)
