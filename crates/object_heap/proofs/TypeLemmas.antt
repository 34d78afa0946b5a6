-- The test of types tells which types are one.
use Rattle.std.proofs.Common.{◌≡◌, Bool, true, refl, ap, sym, ◌∙◌, subst}
use Rattle.std.proofs.lemmas.Bool.{eqb-true}
use Rattle.std.proofs.lemmas.Cmp.{nat_eq_equiv}
use Rattle.pl_types.specs.declared.primitive.Primitive.{Primitive}
use Rattle.pl_types.specs.declared.primitive.Primitive.TheVariants as prim
use Rattle.pl_types.specs.declared.ty.Ty.{Ty}
use Rattle.pl_types.specs.declared.ty.Ty.TheOpen.{Ty-F}
use Rattle.pl_types.specs.declared.ty.Ty.TheViews.{out-Ty, roll-Ty, roll-out-Ty, out-roll-Ty}
use Rattle.pl_types.specs.declared.ty.Ty.TheFolds.{fold-roll-Ty, map-Ty, ind-Ty}
use Rattle.pl_types.specs.Types.{same_primitives, same_layer, same_types}

primitives_exact : (p q : Primitive) → same_primitives p q ≡ true → p ≡ q
primitives_exact prim.Boolean prim.Boolean h = refl
primitives_exact prim.Byte prim.Byte h = refl
primitives_exact prim.Short prim.Short h = refl
primitives_exact prim.Char prim.Char h = refl
primitives_exact prim.Int prim.Int h = refl
primitives_exact prim.Long prim.Long h = refl
primitives_exact p q h = cc

primitives_refl : (p : Primitive) → same_primitives p p ≡ true
primitives_refl prim.Boolean = refl
primitives_refl prim.Byte = refl
primitives_refl prim.Short = refl
primitives_refl prim.Char = refl
primitives_refl prim.Int = refl
primitives_refl prim.Long = refl

abbrev IsExact : Ty → Type 0
IsExact a = (b : Ty) → same_types a b ≡ true → a ≡ b

layer_exact : (y : Ty-F ((t : Ty) × IsExact t)) (z : Ty-F Ty) → same_layer (map-Ty Ty (Ty → Bool) same_types (map-Ty ((t : Ty) × IsExact t) Ty (λ e. e.0) y)) z ≡ true → map-Ty ((t : Ty) × IsExact t) Ty (λ e. e.0) y ≡ z
layer_exact Ty-F.Void Ty-F.Void h = refl
layer_exact Ty-F.Null Ty-F.Null h = refl
layer_exact Ty-F.Def Ty-F.Def h = refl
layer_exact (Ty-F.Prim p) (Ty-F.Prim q) h = ap Ty-F.Prim (primitives_exact p q h)
layer_exact (Ty-F.Class c) (Ty-F.Class d) h = ap Ty-F.Class (eqb-true c d h)
layer_exact (Ty-F.Array e) (Ty-F.Array u) h = ap Ty-F.Array (e.1 u h)
layer_exact y z h = cc

pub types_exact : (a b : Ty) → same_types a b ≡ true → a ≡ b
types_exact = ind-Ty IsExact (λ x y is b h.
    let same : same_layer (map-Ty Ty (Ty → Bool) same_types x) (out-Ty b) ≡ true = sym (ap (λ (f : Ty → Bool). f b) (fold-roll-Ty (Ty → Bool) (λ a b. same_layer a (out-Ty b)) x)) ∙ h in
    let layer : x ≡ out-Ty b = subst (λ (w : Ty-F Ty). (same_layer (map-Ty Ty (Ty → Bool) same_types w) (out-Ty b) ≡ true) → w ≡ out-Ty b) is (layer_exact y (out-Ty b)) same in
    ap roll-Ty layer ∙ roll-out-Ty b)

abbrev IsSame : Ty → Type 0
IsSame a = same_types a a ≡ true

layer_refl : (y : Ty-F ((t : Ty) × IsSame t)) → same_layer (map-Ty Ty (Ty → Bool) same_types (map-Ty ((t : Ty) × IsSame t) Ty (λ e. e.0) y)) (map-Ty ((t : Ty) × IsSame t) Ty (λ e. e.0) y) ≡ true
layer_refl Ty-F.Void = refl
layer_refl Ty-F.Null = refl
layer_refl Ty-F.Def = refl
layer_refl (Ty-F.Prim p) = primitives_refl p
layer_refl (Ty-F.Class c) = nat_eq_equiv.refl c
layer_refl (Ty-F.Array e) = e.1

pub types_refl : (a : Ty) → same_types a a ≡ true
types_refl = ind-Ty IsSame (λ x y is.
    ap (λ (f : Ty → Bool). f (roll-Ty x)) (fold-roll-Ty (Ty → Bool) (λ a b. same_layer a (out-Ty b)) x)
    ∙ (ap (same_layer (map-Ty Ty (Ty → Bool) same_types x)) (out-roll-Ty x)
    ∙ subst (λ (w : Ty-F Ty). same_layer (map-Ty Ty (Ty → Bool) same_types w) w ≡ true) is (layer_refl y)))
