-- Lists, maps and arrays that scripts write agree, where their parts do.
use Rattle.std.proofs.Common.{◌≡◌, ℕ, zero, suc, ◌≤◌, ◌==◌, Bool, true, false, List, [], ◌∷◌, length, map, Ok, refl, sym, ap, ◌∙◌, subst, arith}
use Rattle.std.specs.Prelude.{if◌then◌else◌}
use Rattle.std.proofs.lemmas.Bool.{false≢true, eq-eqb}
use Rattle.pl_types.specs.declared.classes.TheConstants.{ARRAY_LIST, HASH_MAP}
use Rattle.pl_types.specs.declared.primitive.Primitive.TheVariants as prim
use Rattle.pl_types.specs.declared.ty.Ty.{Ty}
use Rattle.pl_types.specs.declared.ty.Ty.TheVariants as t
use Rattle.pl_types.specs.declared.ty.Ty.TheFolds.{fold_out-Ty, map-Ty}
use Rattle.pl_types.specs.declared.ty.Ty.TheOpen.{Ty-F}
use Rattle.pl_types.specs.declared.ty.Ty.TheViews.{outs-Array}
use Rattle.source_typing.specs.ContainerOpsTypes.{dimensions_layer, dimensions_of}
use Rattle.typed_tree.specs.declared.operation.Operation.TheVariants as o
use Rattle.typed_tree.specs.declared.operation.Operator.{Operator}
use Rattle.typed_tree.specs.declared.operation.Operator.TheVariants as operator
use Rattle.typed_tree.specs.declared.typed.Typed.{Typed}
use Rattle.typing_rules.specs.declared.part.Form.{Form}
use Rattle.typing_rules.specs.declared.part.Form.TheVariants as f
use Rattle.typing_rules.specs.declared.part.Part.{Part}
use Rattle.typing_rules.specs.Outcomes.{refuse}
use Rattle.typing_rules.specs.Rules.Types.{arrays}
use Rattle.typing_rules.specs.Rules.Casts.{cast_to, cast_each}
use Rattle.typing_rules.specs.Rules.Containers.{made, list_of, map_of, array_of, array_with}
use Rattle.source_typing.specs.Programs.{exprs_of, expr_of}
use Rattle.source_typing.specs.Types.{IsReference, ArePairs, AreAll, TakesTo}
use Rattle.source_typing.specs.Agreeing.{Known as Script, Scope, types_of}
use Rattle.typing_soundness.proofs.Nodes.{applied_is}
use Rattle.typing_soundness.proofs.Types.{IsBuilt, class_built, array_built, built_part, built_aim, built_named, IsOfPart, IsAim, prim_aim, def_aim, def_reference}
use Rattle.typing_soundness.proofs.Parts.{passed, settled, PartIs, node_is, part_of}
use Rattle.typing_soundness.proofs.Names.{AllParts}
use Rattle.typing_soundness.proofs.Members.{each_are, references_of}
use Rattle.typing_soundness.proofs.Values.{arrays_built}

-- ---- so many parts, so many values

abbrev AsMany : {A B : Type 0} → List A → List B → Type 0
AsMany [] [] = Unit {0}
AsMany [] (y ∷ ys) = ⊥
AsMany (x ∷ xs) [] = ⊥
AsMany (x ∷ xs) (y ∷ ys) = AsMany xs ys

as_many : (to : Ty) (xs : List Part) (ys : List Typed) → cast_each to xs ≡ Ok ys → AsMany xs ys
as_many to [] ys e = settled (AsMany {A = Part} {B = Typed} []) [] ys e tt
as_many to (x ∷ xs) ys e =
    let a = passed (cast_to to x) _ ys e in
    let others = passed (cast_each to xs) _ ys a.then' in
    settled (AsMany {A = Part} {B = Typed} (x ∷ xs)) (a.given ∷ others.given) ys others.then' (as_many to xs others.given others.first)

same_count : (xs : List Part) (ys : List Typed) → AsMany xs ys → length (types_of (exprs_of (map expr_of ys))) ≡ length xs
same_count [] [] h = refl
same_count [] (y ∷ ys) h = absurd h
same_count (x ∷ xs) [] h = absurd h
same_count (x ∷ xs) (y ∷ ys) h = ap suc (same_count xs ys h)

-- parts by twos
abbrev pub AreEven : {A : Type 0} → List A → Type 0
AreEven [] = Unit {0}
AreEven (x ∷ []) = ⊥
AreEven (x ∷ y ∷ rest) = AreEven rest

def_is_reference : (of : Ty) → of ≡ t.Def → IsReference of
def_is_reference of e = subst IsReference (sym e) def_reference

pairs_are : (xs : List Part) (ys : List Typed) → AreEven xs → AsMany xs ys → AreAll t.Def (types_of (exprs_of (map expr_of ys))) → ArePairs (types_of (exprs_of (map expr_of ys)))
pairs_are [] [] h m a = tt
pairs_are [] (y ∷ ys) h m a = absurd m
pairs_are (x ∷ []) ys h m a = absurd h
pairs_are (x ∷ x' ∷ xs) [] h m a = absurd m
pairs_are (x ∷ x' ∷ xs) (y ∷ []) h m a = absurd m
pairs_are (x ∷ x' ∷ xs) (y ∷ y' ∷ ys) h m a = (def_is_reference _ a.0, def_is_reference _ a.1.0, pairs_are xs ys h m a.1.1)

-- ---- the `[]` of an array type

array_sized : (elem : Ty) → dimensions_of (t.Array elem) ≡ suc (dimensions_of elem)
array_sized elem = fold_out-Ty ℕ dimensions_layer (t.Array elem) ∙ ap (λ (l : Ty-F Ty). dimensions_layer (map-Ty Ty ℕ dimensions_of l)) (outs-Array elem)

arrays_sized : (n : ℕ) (of : Ty) → n ≤ dimensions_of (arrays n of)
arrays_sized zero of = omega arith
arrays_sized (suc n) of = omega (arith, arrays_sized n of, array_sized (arrays n of))

-- there is a size
some_sizes : (xs : List Part) → (length xs == 0) ≡ false → 1 ≤ length xs
some_sizes [] e = absurd (false≢true (sym e ∙ eq-eqb 0 0 refl))
some_sizes (x ∷ xs) e = omega arith

module _ (funs : Script) (g : Scope) where
  made_is : (form : Form) (at : ℕ) (does : Operator) (of to : Ty) (xs : List Part) (y : Part) → IsAim to → IsOfPart of → made form at does of to xs ≡ Ok y → AllParts funs g xs
      → ((ys : List Typed) → AsMany xs ys → AreAll to (types_of (exprs_of (map expr_of ys))) → TakesTo does (types_of (exprs_of (map expr_of ys))) of) → PartIs funs g y
  made_is form at does of to xs y aim p e h takes =
      let a = passed (cast_each to xs) _ y e in
      let each = each_are funs g to xs a.given aim a.first h in
      settled (PartIs funs g) _ y a.then' (part_of funs g at form _ of p
      (node_is funs g at of _ _ (applied_is at of (o.Operator does) a.given) refl (each.agree, takes a.given (as_many to xs a.given a.first) each.types)))

  pub list_part : (at : ℕ) (xs : List Part) (y : Part) → list_of at xs ≡ Ok y → AllParts funs g xs → PartIs funs g y
  list_part at xs y e h =
      made_is f.Literal at operator.List (t.Class ARRAY_LIST) t.Def xs y def_aim (built_part (t.Class ARRAY_LIST) (class_built ARRAY_LIST refl)) e h
      (λ ys m a. (references_of funs g _ a, refl))

  pub map_part : (at : ℕ) (xs : List Part) (y : Part) → map_of at xs ≡ Ok y → AllParts funs g xs → AreEven xs → PartIs funs g y
  map_part at xs y e h even =
      made_is f.Literal at operator.Map (t.Class HASH_MAP) t.Def xs y def_aim (built_part (t.Class HASH_MAP) (class_built HASH_MAP refl)) e h
      (λ ys m a. (pairs_are xs ys even m a, refl))

  sized : (at : ℕ) (of : Ty) (xs : List Part) (y : Part) → IsBuilt of → 1 ≤ length xs → made f.Deed at operator.NewArray (arrays (length xs) of) (t.Prim prim.Int) xs ≡ Ok y → AllParts funs g xs → PartIs funs g y
  sized at of xs y b some e h =
      let built = arrays_built (length xs) of b in
      made_is f.Deed at operator.NewArray (arrays (length xs) of) (t.Prim prim.Int) xs y (prim_aim prim.Int) (built_part (arrays (length xs) of) built) e h
      (λ ys m a. let count = same_count xs ys m in
      (a, omega (arith, count, some), subst (λ n. n ≤ dimensions_of (arrays (length xs) of)) (sym count) (arrays_sized (length xs) of), built_named (arrays (length xs) of) built))

  array_if : (none : Bool) (number at : ℕ) (of : Ty) (xs : List Part) (y : Part) → IsBuilt of → (none ≡ false → 1 ≤ length xs)
      → (if none then refuse number at else made f.Deed at operator.NewArray (arrays (length xs) of) (t.Prim prim.Int) xs) ≡ Ok y → AllParts funs g xs → PartIs funs g y
  array_if true number at of xs y b some e h = cc
  array_if false number at of xs y b some e h = sized at of xs y b (some refl) e h

  pub array_part : (at : ℕ) (of : Ty) (xs : List Part) (y : Part) → IsBuilt of → array_of at of xs ≡ Ok y → AllParts funs g xs → PartIs funs g y
  array_part at of xs y b e h = array_if (length xs == 0) _ at of xs y b (some_sizes xs) e h

  pub array_with_part : (at : ℕ) (of : Ty) (xs : List Part) (y : Part) → IsBuilt of → array_with at of xs ≡ Ok y → AllParts funs g xs → PartIs funs g y
  array_with_part at of xs y b e h =
      made_is f.Deed at operator.ArrayOf (t.Array of) of xs y (built_aim of b) (built_part (t.Array of) (array_built of b)) e h (λ ys m a. (of, refl, a, built_named of b))
