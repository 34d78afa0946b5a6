-- Types that parts of expressions have, and types to which they are cast.
use Rattle.std.proofs.Common.{◌≡◌, ℕ, Bool, true, ◌&&◌, refl, sym, ap, ◌∙◌, subst, arith, nat_lt, ◌⊎◌, inl, inr}
use Rattle.std.specs.Prelude.{nat_le}
use Rattle.std.proofs.lemmas.Bool.{and_parts, or_cases, leb-true, lt-ltb}
use Rattle.pl_types.specs.declared.classes.TheConstants.{COLLECTIONS, EXCEPTION, SCRIPT_DOC_VALUES, PRELUDE}
use Rattle.pl_types.specs.declared.primitive.Primitive.{Primitive}
use Rattle.pl_types.specs.declared.ty.Ty.{Ty, out-Ty, roll-Ty, roll-out-Ty}
use Rattle.pl_types.specs.declared.ty.Ty.TheVariants as t
use Rattle.pl_types.specs.declared.ty.Ty.TheOpen.{Ty-F}
use Rattle.pl_types.specs.declared.ty.Ty.TheFolds.{fold-roll-Ty, fold_out-Ty, ind-Ty, map-Ty}
use Rattle.pl_types.specs.declared.ty.Ty.TheViews.{outs-Array}
use Rattle.typing_rules.specs.Rules.Types.{is_built_class, built_layer, is_built}
use Rattle.source_typing.specs.Types.{is_reference_layer, IsReference, has_values_layer, HasValues, listed_layer, is_listed, IsNamed}
use Rattle.typing_soundness.specs.Laws.{may_be_result, MayBeResult}

-- ---- the classes that are built

-- scripts may have them
pub built_listed : (c : ℕ) → is_built_class c ≡ true → nat_lt c PRELUDE ≡ true
built_listed c e = pick (or_cases (nat_le c COLLECTIONS) _ e)
  where
    pick : (nat_le c COLLECTIONS ≡ true) ⊎ ((nat_le EXCEPTION c && nat_le c SCRIPT_DOC_VALUES) ≡ true) → nat_lt c PRELUDE ≡ true
    pick (inl low) = let most = leb-true c COLLECTIONS low in lt-ltb c PRELUDE (omega (arith, most))
    pick (inr high) =
        let most = leb-true c SCRIPT_DOC_VALUES (and_parts (nat_le EXCEPTION c) (nat_le c SCRIPT_DOC_VALUES) high).1 in
        lt-ltb c PRELUDE (omega (arith, most))

-- ---- types by their layers

pub void_layer : out-Ty t.Void ≡ Ty-F.Void
unfolding out-Ty denote.Hole.Carrier.out
void_layer = refl

pub null_layer : out-Ty t.Null ≡ Ty-F.Null
unfolding out-Ty denote.Hole.Carrier.out
null_layer = refl

pub def_layer : out-Ty t.Def ≡ Ty-F.Def
unfolding out-Ty denote.Hole.Carrier.out
def_layer = refl

pub prim_layer : (p : Primitive) → out-Ty (t.Prim p) ≡ Ty-F.Prim p
unfolding out-Ty denote.Hole.Carrier.out
prim_layer p = refl

pub class_layer : (c : ℕ) → out-Ty (t.Class c) ≡ Ty-F.Class c
unfolding out-Ty denote.Hole.Carrier.out
class_layer c = refl

pub void_by : (of : Ty) → out-Ty of ≡ Ty-F.Void → of ≡ t.Void
void_by of e = sym (roll-out-Ty of) ∙ (ap roll-Ty e ∙ t.rolls-Void)

pub def_by : (of : Ty) → out-Ty of ≡ Ty-F.Def → of ≡ t.Def
def_by of e = sym (roll-out-Ty of) ∙ (ap roll-Ty e ∙ t.rolls-Def)

pub prim_by : (of : Ty) (p : Primitive) → out-Ty of ≡ Ty-F.Prim p → of ≡ t.Prim p
prim_by of p e = sym (roll-out-Ty of) ∙ (ap roll-Ty e ∙ t.rolls-Prim p)

pub class_by : (of : Ty) (c : ℕ) → out-Ty of ≡ Ty-F.Class c → of ≡ t.Class c
class_by of c e = sym (roll-out-Ty of) ∙ (ap roll-Ty e ∙ t.rolls-Class c)

pub array_by : (of u : Ty) → out-Ty of ≡ Ty-F.Array u → of ≡ t.Array u
array_by of u e = sym (roll-out-Ty of) ∙ (ap roll-Ty e ∙ t.rolls-Array u)

-- ---- what variables may have

-- a type of variables that is built
pub record IsBuilt (of : Ty) : Type 0 where
  pub is : is_built of ≡ true

-- whether a type is built, by its outermost layer
abbrev pub is_built_by : Ty-F Ty → Bool
is_built_by l = built_layer (map-Ty Ty Bool is_built l)

built_by : (of : Ty) (l : Ty-F Ty) → out-Ty of ≡ l → is_built_by l ≡ true → IsBuilt of
built_by of l e is = record { is = fold_out-Ty Bool built_layer of ∙ (ap is_built_by e ∙ is) }

pub built_out : (of : Ty) → IsBuilt of → is_built_by (out-Ty of) ≡ true
built_out of b = sym (fold_out-Ty Bool built_layer of) ∙ b.is

pub prim_built : (p : Primitive) → IsBuilt (t.Prim p)
prim_built p = built_by (t.Prim p) (Ty-F.Prim p) (prim_layer p) refl

pub def_built : IsBuilt t.Def
def_built = built_by t.Def Ty-F.Def def_layer refl

pub class_built : (c : ℕ) → is_built_class c ≡ true → IsBuilt (t.Class c)
class_built c is = built_by (t.Class c) (Ty-F.Class c) (class_layer c) is

pub array_built : (elem : Ty) → IsBuilt elem → IsBuilt (t.Array elem)
array_built elem b = built_by (t.Array elem) (Ty-F.Array elem) (outs-Array elem) b.is

pub built_values : (of : Ty) → IsBuilt of → HasValues of
built_values of b = by_layer (out-Ty of) (built_out of b)
  where
    by_layer : (l : Ty-F Ty) → is_built_by l ≡ true → has_values_layer l
    by_layer (Ty-F.Prim p) is = tt
    by_layer Ty-F.Def is = tt
    by_layer (Ty-F.Class c) is = tt
    by_layer Ty-F.Void is = cc
    by_layer Ty-F.Null is = cc
    by_layer (Ty-F.Array u) is = tt

listed_by : (of : Ty) (l : Ty-F Ty) → out-Ty of ≡ l → is_listed of ≡ listed_layer (map-Ty Ty Bool is_listed l)
listed_by of l e =
    ap is_listed (sym (roll-out-Ty of)) ∙ (fold-roll-Ty Bool listed_layer (out-Ty of) ∙ ap (λ l. listed_layer (map-Ty Ty Bool is_listed l)) e)

-- code may name each type that is built
abbrev Listed : Ty → Type 0
Listed of = is_built of ≡ true → is_listed of ≡ true

listed_layers : (y : Ty-F ((of : Ty) × Listed of)) → Listed (roll-Ty (map-Ty ((of : Ty) × Listed of) Ty (λ e. e.0) y))
listed_layers Ty-F.Void h = let never = sym (fold-roll-Ty Bool built_layer Ty-F.Void) ∙ h in cc
listed_layers Ty-F.Null h = let never = sym (fold-roll-Ty Bool built_layer Ty-F.Null) ∙ h in cc
listed_layers Ty-F.Def h = fold-roll-Ty Bool listed_layer Ty-F.Def
listed_layers (Ty-F.Prim p) h = fold-roll-Ty Bool listed_layer (Ty-F.Prim p)
listed_layers (Ty-F.Class c) h = fold-roll-Ty Bool listed_layer (Ty-F.Class c) ∙ built_listed c (sym (fold-roll-Ty Bool built_layer (Ty-F.Class c)) ∙ h)
listed_layers (Ty-F.Array e) h = fold-roll-Ty Bool listed_layer (Ty-F.Array e.0) ∙ e.1 (sym (fold-roll-Ty Bool built_layer (Ty-F.Array e.0)) ∙ h)

listed : (of : Ty) → Listed of
listed = ind-Ty Listed (λ x y is. let P : Ty-F Ty → Type 0 = λ z. Listed (roll-Ty z) in subst P is (listed_layers y))

pub built_named : (of : Ty) → IsBuilt of → IsNamed of
built_named of b = record { listed = listed of b.is }

-- code may name each class that scripts may name
pub class_named : (c : ℕ) → nat_lt c PRELUDE ≡ true → IsNamed (t.Class c)
class_named c is = record { listed = listed_by (t.Class c) (Ty-F.Class c) (class_layer c) ∙ is }

-- ---- what parts have: void, the type of null, or a type of variables that is built

abbrev pub part_layer : Ty-F Ty → Type 0
part_layer Ty-F.Void = Unit {0}
part_layer Ty-F.Null = Unit {0}
part_layer Ty-F.Def = Unit {0}
part_layer (Ty-F.Prim p) = Unit {0}
part_layer (Ty-F.Class c) = is_built_class c ≡ true
part_layer (Ty-F.Array u) = is_built u ≡ true

pub record IsOfPart (of : Ty) : Type 0 where
  pub layer : part_layer (out-Ty of)

part_by : (of : Ty) (l : Ty-F Ty) → out-Ty of ≡ l → part_layer l → IsOfPart of
part_by of l e h = record { layer = subst part_layer (sym e) h }

pub void_part : IsOfPart t.Void
void_part = part_by t.Void Ty-F.Void void_layer tt

pub null_part : IsOfPart t.Null
null_part = part_by t.Null Ty-F.Null null_layer tt

pub built_part : (of : Ty) → IsBuilt of → IsOfPart of
built_part of b = record { layer = by_layer (out-Ty of) (built_out of b) }
  where
    by_layer : (l : Ty-F Ty) → is_built_by l ≡ true → part_layer l
    by_layer (Ty-F.Prim p) is = tt
    by_layer Ty-F.Def is = tt
    by_layer (Ty-F.Class c) is = is
    by_layer Ty-F.Void is = cc
    by_layer Ty-F.Null is = cc
    by_layer (Ty-F.Array u) is = is

-- the elements of a part that is an array
pub element_built : (of u : Ty) → out-Ty of ≡ Ty-F.Array u → IsOfPart of → IsBuilt u
element_built of u e b = record { is = subst part_layer e b.layer }

pub prim_part : (p : Primitive) → IsOfPart (t.Prim p)
prim_part p = built_part (t.Prim p) (prim_built p)

-- ---- what parts are cast to: void, the type of null, or a type that code may name

abbrev pub aim_layer : Ty-F Ty → Ty → Type 0
aim_layer Ty-F.Void of = Unit {0}
aim_layer Ty-F.Null of = Unit {0}
aim_layer Ty-F.Def of = IsNamed of
aim_layer (Ty-F.Prim p) of = IsNamed of
aim_layer (Ty-F.Class c) of = IsNamed of
aim_layer (Ty-F.Array u) of = IsNamed of

pub record IsAim (of : Ty) : Type 0 where
  pub layer : aim_layer (out-Ty of) of

pub named_aim : (of : Ty) → IsNamed of → IsAim of
named_aim of h = record { layer = by_layer (out-Ty of) }
  where
    by_layer : (l : Ty-F Ty) → aim_layer l of
    by_layer Ty-F.Void = tt
    by_layer Ty-F.Null = tt
    by_layer Ty-F.Def = h
    by_layer (Ty-F.Prim p) = h
    by_layer (Ty-F.Class c) = h
    by_layer (Ty-F.Array u) = h

pub result_aim : (of : Ty) → MayBeResult of → IsAim of
result_aim of h = record { layer = by_layer (out-Ty of) h }
  where
    by_layer : (l : Ty-F Ty) → may_be_result l of → aim_layer l of
    by_layer Ty-F.Void h = tt
    by_layer Ty-F.Null h = tt
    by_layer Ty-F.Def h = h
    by_layer (Ty-F.Prim p) h = h
    by_layer (Ty-F.Class c) h = h
    by_layer (Ty-F.Array u) h = h

pub built_aim : (of : Ty) → IsBuilt of → IsAim of
built_aim of b = named_aim of (built_named of b)

pub part_aim : (of : Ty) → IsOfPart of → IsAim of
part_aim of b = record { layer = by_layer (out-Ty of) refl b.layer }
  where
    by_layer : (l : Ty-F Ty) → out-Ty of ≡ l → part_layer l → aim_layer l of
    by_layer Ty-F.Void e h = tt
    by_layer Ty-F.Null e h = tt
    by_layer Ty-F.Def e h = built_named of (built_by of Ty-F.Def e refl)
    by_layer (Ty-F.Prim p) e h = built_named of (built_by of (Ty-F.Prim p) e refl)
    by_layer (Ty-F.Class c) e h = built_named of (built_by of (Ty-F.Class c) e h)
    by_layer (Ty-F.Array u) e h = built_named of (built_by of (Ty-F.Array u) e h)

pub prim_aim : (p : Primitive) → IsAim (t.Prim p)
prim_aim p = built_aim (t.Prim p) (prim_built p)

pub def_aim : IsAim t.Def
def_aim = built_aim t.Def def_built

-- ---- references

pub reference_by : (of : Ty) (l : Ty-F Ty) → out-Ty of ≡ l → is_reference_layer l → IsReference of
reference_by of l e h = subst is_reference_layer (sym e) h

pub def_reference : IsReference t.Def
def_reference = reference_by t.Def Ty-F.Def def_layer tt

pub null_reference : IsReference t.Null
null_reference = reference_by t.Null Ty-F.Null null_layer tt

pub array_reference : (elem : Ty) → IsReference (t.Array elem)
array_reference elem = reference_by (t.Array elem) (Ty-F.Array elem) (outs-Array elem) tt

pub class_reference : (c : ℕ) → IsReference (t.Class c)
class_reference c = reference_by (t.Class c) (Ty-F.Class c) (class_layer c) tt
