-- What the instructions of lists, maps, arrays and iterators take and leave, by the types of their operands.
use Rattle.std.proofs.Common.{◌≡◌, ℕ, zero, suc, ◌+◌, ◌*◌, ◌/◌, ◌≤◌, false, not, ◌||◌, List, [], ◌∷◌, ◌++◌, length, Some, refl, sym, ap, ◌∙◌, subst, arith, option_map}
use Rattle.std.specs.Prelude.{replicate, nat_lt, ◌==◌}
use Rattle.std.proofs.lemmas.Bool.{le-ltb, ne_eqb}
use Rattle.pl_types.specs.declared.primitive.Primitive.TheVariants as prim
use Rattle.pl_types.specs.declared.ty.Ty.{Ty, out-Ty}
use Rattle.pl_types.specs.declared.ty.Ty.TheVariants as t
use Rattle.pl_types.specs.declared.ty.Ty.TheOpen.{Ty-F}
use Rattle.pl_types.specs.declared.ty.Ty.TheFolds.{fold-roll-Ty, map-Ty}
use Rattle.pl_types.specs.declared.ty.Ty.TheViews.{roll-Ty, roll-out-Ty, outs-Array}
use Rattle.pl_types.specs.declared.classes.TheConstants.{ARRAY_LIST, HASH_MAP, ITERATOR}
use Rattle.pl_types.specs.Texts.{full_text}
use Rattle.compiler_relation.specs.Types.{dimensions_layer, dimensions_of, element_layer, element_of}
use Rattle.pl_code.specs.declared.kinds.Plain.TheVariants as plain
use Rattle.pl_code.specs.declared.kinds.Numbered.TheVariants as numbered
use Rattle.pl_code.specs.declared.kinds.Sized.TheVariants as sized
use Rattle.pl_code.specs.declared.kinds.Typed.TheVariants as typed
use Rattle.pl_code.specs.declared.kinds.Slot.{Slot}
use Rattle.pl_code.specs.declared.kinds.Slot.TheVariants.{I, R}
use Rattle.pl_code.specs.declared.code.FunCode.{FunCode}
use Rattle.pl_code.specs.declared.code.Instruction.TheVariants as i
use Rattle.allowlist.specs.Allow.{AllowList}
use Rattle.instruction_types.specs.Effects.{Exchanges, left_by, one, effect_of, flow_of}
use Rattle.instruction_types.specs.Faults.{is_bad_target, is_bad_member}
use Rattle.typed_tree.specs.declared.operation.Operator.{Operator}
use Rattle.typed_tree.specs.declared.operation.Operator.TheVariants as operator
use Rattle.compiler_relation.specs.Representation.{kind_of}
use Rattle.compiler_relation.specs.Parts.{typed_code}
use Rattle.program_typing.specs.Types.{is_reference_layer, IsReference, has_values_layer, HasValues, IsNamed, AreReferences, ArePairs, AreAll, TakesSizes, Holds, TakesElement, TakesArray, TakesReference, TakesTo}
use Rattle.compiled_shapes.proofs.Named.{IsListedLayer, listed_has_values, named_is_known}
use Rattle.compiled_shapes.proofs.Texts.{text_dimensions, text_kind}
use Rattle.compiled_shapes.proofs.Runs.{Passes, Straight}
use Rattle.compiled_shapes.proofs.Parts.{push, push_types}
use Rattle.compiled_shapes.proofs.Steps.{push_is, push_reference, push_value, class_reference, taken_own, only, plain_passes, operator_straight}

-- ---- operands of one kind

-- each pushes this kind
abbrev Push : Slot → List Ty → Type 0
Push k [] = Unit {0}
Push k (of ∷ ofs) = ((s : List Slot) → push of s ≡ k ∷ s) × Push k ofs

behind_all : (n : ℕ) (k : Slot) (s : List Slot) → replicate n k ++ (k ∷ s) ≡ k ∷ (replicate n k ++ s)
behind_all zero k s = refl
behind_all (suc n) k s = ap (λ s. k ∷ s) (behind_all n k s)

pub lie_alike : (k : Slot) (ofs : List Ty) (s : List Slot) → Push k ofs → push_types ofs s ≡ replicate (length ofs) k ++ s
lie_alike k [] s p = refl
lie_alike k (of ∷ ofs) s p = ap (push_types ofs) (p.0 s) ∙ lie_alike k ofs (k ∷ s) p.1 ∙ behind_all (length ofs) k s

pub references_push : (ofs : List Ty) → AreReferences ofs → Push R ofs
references_push [] h = tt
references_push (of ∷ ofs) h = ((λ s. push_reference of s h.0), references_push ofs h.1)

ints_push : (ofs : List Ty) → AreAll (t.Prim prim.Int) ofs → Push I ofs
ints_push [] h = tt
ints_push (of ∷ ofs) h = ((λ s. push_is of prim.Int s h.0), ints_push ofs h.1)

all_push : (elem : Ty) (ofs : List Ty) → HasValues elem → AreAll elem ofs → Push (kind_of elem) ofs
all_push elem [] values h = tt
all_push elem (of ∷ ofs) values h = ((λ s. ap (λ of. push of s) h.0 ∙ push_value elem s values), all_push elem ofs values h.1)

pairs_are_references : (ofs : List Ty) → ArePairs ofs → AreReferences ofs
pairs_are_references [] h = tt
pairs_are_references (key ∷ []) h = absurd h
pairs_are_references (key ∷ value ∷ more) h = (h.0, (h.1, pairs_are_references more h.2))

half_more : (n : ℕ) → 2 * (n / 2) ≡ n → 2 * (suc (suc n) / 2) ≡ suc (suc n)
half_more n h = omega (arith, h)

pub pairs_are_even : (ofs : List Ty) → ArePairs ofs → 2 * (length ofs / 2) ≡ length ofs
pairs_are_even [] h = refl
pairs_are_even (key ∷ []) h = absurd h
pairs_are_even (key ∷ value ∷ more) h = half_more (length more) (pairs_are_even more h.2)

-- ---- types

listed_values_layer : (l : Ty-F Ty) → IsListedLayer l → has_values_layer l
listed_values_layer Ty-F.Void h = absurd h
listed_values_layer Ty-F.Null h = tt
listed_values_layer Ty-F.Def h = tt
listed_values_layer (Ty-F.Prim p) h = tt
listed_values_layer (Ty-F.Class class) h = tt
listed_values_layer (Ty-F.Array of) h = tt

pub named_values : (of : Ty) → IsNamed of → HasValues of
named_values of named = listed_values_layer (out-Ty of) (listed_has_values of named)

array_reference : (elem : Ty) → IsReference (t.Array elem)
unfolding out-Ty denote.Hole.Carrier.out
array_reference elem = tt

pub push_array : (of elem : Ty) (s : List Slot) → of ≡ t.Array elem → push of s ≡ R ∷ s
push_array of elem s x = ap (λ of. push of s) x ∙ push_reference (t.Array elem) s (array_reference elem)

push_class : (of : Ty) (class : ℕ) (s : List Slot) → of ≡ t.Class class → push of s ≡ R ∷ s
push_class of class s x = ap (λ of. push of s) x ∙ push_reference (t.Class class) s (class_reference class)

def_reference : IsReference t.Def
unfolding out-Ty denote.Hole.Carrier.out
def_reference = tt

pub push_def : (of : Ty) (s : List Slot) → of ≡ t.Def → push of s ≡ R ∷ s
push_def of s x = ap (λ of. push of s) x ∙ push_reference t.Def s def_reference

element_made : (elem : Ty) → element_of (t.Array elem) ≡ elem
element_made elem = ap (element_layer (t.Array elem)) (outs-Array elem)

pub element_is : (of elem : Ty) → of ≡ t.Array elem → element_of of ≡ elem
element_is of elem x = ap element_of x ∙ element_made elem

-- a type with a `[]` is a reference
dimensions_reference : (l : Ty-F Ty) → 1 ≤ dimensions_layer (map-Ty Ty ℕ dimensions_of l) → is_reference_layer l
dimensions_reference Ty-F.Void h = absurd (omega arith)
dimensions_reference Ty-F.Null h = tt
dimensions_reference Ty-F.Def h = tt
dimensions_reference (Ty-F.Prim p) h = absurd (omega arith)
dimensions_reference (Ty-F.Class class) h = tt
dimensions_reference (Ty-F.Array elem) h = tt

sized_reference : (of : Ty) → 1 ≤ dimensions_of of → IsReference of
sized_reference of h =
    let e : dimensions_of of ≡ dimensions_layer (map-Ty Ty ℕ dimensions_of (out-Ty of)) =
    ap dimensions_of (sym (roll-out-Ty of)) ∙ fold-roll-Ty ℕ dimensions_layer (out-Ty of) in
    dimensions_reference (out-Ty of) (subst (λ n. 1 ≤ n) e h)

-- ---- instructions

pub exchanged : (ks gives s : List Slot) → left_by (Exchanges ks gives) (ks ++ s) ≡ Some (gives ++ s)
unfolding left_by
exchanged ks gives s = ap (option_map (λ left. gives ++ left)) (taken_own ks s)

no_sizes : (n m : ℕ) → 1 ≤ n → n ≤ m → ((n == 0) || nat_lt m n) ≡ false
no_sizes n m h w = ap (λ b. b || nat_lt m n) (ne_eqb n 0 (λ e. omega (arith, h, e))) ∙ le-ltb m n w

module _ (allow : AllowList) (functions : List FunCode) (f : FunCode) where
  list_passes : (n : ℕ) (s : List Slot) → Passes allow functions f (i.Numbered numbered.List n) (replicate n R ++ s) (R ∷ s)
  unfolding is_bad_target is_bad_member flow_of effect_of
  list_passes n s = record { flow = refl; target = refl; member = refl; leaves = exchanged (replicate n R) (one R) s }

  map_passes : (n : ℕ) (s : List Slot) → Passes allow functions f (i.Numbered numbered.Map n) (replicate (2 * n) R ++ s) (R ∷ s)
  unfolding is_bad_target is_bad_member flow_of effect_of
  map_passes n s = record { flow = refl; target = refl; member = refl; leaves = exchanged (replicate (2 * n) R) (one R) s }

  empty_passes : (of : Ty) (n : ℕ) (s : List Slot) → IsNamed of → 1 ≤ n → n ≤ dimensions_of of
      → Passes allow functions f (i.Sized sized.Empty (full_text of) n) (replicate n I ++ s) (R ∷ s)
  unfolding is_bad_target is_bad_member flow_of effect_of
  empty_passes of n s named some few = record {
    flow = refl;
    target = ap (λ m. (n == 0) || nat_lt m n) (text_dimensions of named) ∙ no_sizes n (dimensions_of of) some few;
    member = ap not (named_is_known of named);
    leaves = exchanged (replicate n I) (one R) s;
  }

  filled_passes : (elem : Ty) (n : ℕ) (s : List Slot) → IsNamed elem
      → Passes allow functions f (i.Sized sized.Filled (full_text elem) n) (replicate n (kind_of elem) ++ s) (R ∷ s)
  unfolding is_bad_target is_bad_member flow_of effect_of
  filled_passes elem n s named = record {
    flow = refl;
    target = refl;
    member = ap not (named_is_known elem named);
    leaves = ap (λ k. left_by (Exchanges (replicate n k) (one R)) (replicate n (kind_of elem) ++ s)) (text_kind elem named) ∙ exchanged (replicate n (kind_of elem)) (one R) s;
  }

  element_passes : (of : Ty) (s : List Slot) → IsNamed of → Passes allow functions f (i.Typed typed.LoadElement (full_text of)) (I ∷ R ∷ s) (kind_of of ∷ s)
  unfolding is_bad_target is_bad_member flow_of effect_of left_by
  element_passes of s named = record {
    flow = refl;
    target = refl;
    member = ap not (named_is_known of named);
    leaves = ap (λ k. Some (k ∷ s)) (text_kind of named);
  }

  put_passes : (of : Ty) (s : List Slot) → IsNamed of → Passes allow functions f (i.Typed typed.StoreElement (full_text of)) (kind_of of ∷ I ∷ R ∷ s) s
  unfolding is_bad_target is_bad_member flow_of effect_of
  put_passes of s named = record {
    flow = refl;
    target = refl;
    member = ap not (named_is_known of named);
    leaves = ap (λ k. left_by (Exchanges (k ∷ I ∷ R ∷ []) []) (kind_of of ∷ I ∷ R ∷ s)) (text_kind of named) ∙ exchanged (kind_of of ∷ I ∷ R ∷ []) [] s;
  }

  -- ---- operators of a node of a type

  sizes_straight : (ofs : List Ty) (of : Ty) (s : List Slot) → TakesSizes ofs of → Straight allow functions f (typed_code operator.NewArray of (length ofs)) (push_types ofs s) (push of s)
  sizes_straight ofs of s h =
      only allow functions f (empty_passes of (length ofs) s h.3 h.1 h.2) (lie_alike I ofs s (ints_push ofs h.0))
      (push_reference of s (sized_reference of (omega (arith, h.1, h.2))))

  elements_straight : (ofs : List Ty) (of : Ty) (s : List Slot) → Holds ofs of → Straight allow functions f (typed_code operator.ArrayOf of (length ofs)) (push_types ofs s) (push of s)
  elements_straight ofs of s h =
      let elem = h.0 in
      subst (λ e. Straight allow functions f (i.Sized sized.Filled (full_text e) (length ofs) ∷ []) (push_types ofs s) (push of s)) (sym (element_is of elem h.1))
      (only allow functions f (filled_passes elem (length ofs) s h.3) (lie_alike (kind_of elem) ofs s (all_push elem ofs (named_values elem h.3) h.2)) (push_array of elem s h.1))

  pub indexed : (array at of : Ty) (s : List Slot) → array ≡ t.Array of → at ≡ t.Prim prim.Int → push at (push array s) ≡ I ∷ R ∷ s
  indexed array at of s x y = ap (push at) (push_array array of s x) ∙ push_is at prim.Int (R ∷ s) y

  element_straight : (ofs : List Ty) (of : Ty) (s : List Slot) → TakesElement ofs of → Straight allow functions f (typed_code operator.Element of (length ofs)) (push_types ofs s) (push of s)
  element_straight [] of s h = absurd h
  element_straight (array ∷ []) of s h = absurd h
  element_straight (array ∷ at ∷ []) of s h =
      only allow functions f (element_passes of s h.2) (indexed array at of s h.0 h.1) (push_value of s (named_values of h.2))
  element_straight (array ∷ at ∷ other ∷ ofs) of s h = absurd h

  length_straight : (ofs : List Ty) (of : Ty) (s : List Slot) → TakesArray ofs → of ≡ t.Prim prim.Int → Straight allow functions f (typed_code operator.Length of (length ofs)) (push_types ofs s) (push of s)
  length_straight [] of s h is = absurd h
  length_straight (array ∷ []) of s h is = only allow functions f (plain_passes allow functions f plain.ArrayLength R I s refl refl) (push_array array h.0 s h.1) (push_is of prim.Int s is)
  length_straight (array ∷ other ∷ ofs) of s h is = absurd h

  iterate_straight : (ofs : List Ty) (of : Ty) (s : List Slot) → TakesReference ofs → of ≡ t.Class ITERATOR → Straight allow functions f (typed_code operator.Iterate of (length ofs)) (push_types ofs s) (push of s)
  iterate_straight [] of s h is = absurd h
  iterate_straight (a ∷ []) of s h is = only allow functions f (plain_passes allow functions f plain.Iter R R s refl refl) (push_reference a s h) (push_class of ITERATOR s is)
  iterate_straight (a ∷ other ∷ ofs) of s h is = absurd h

  more_straight : (ofs : List Ty) (of : Ty) (s : List Slot) → TakesReference ofs → of ≡ t.Prim prim.Boolean → Straight allow functions f (typed_code operator.HasNext of (length ofs)) (push_types ofs s) (push of s)
  more_straight [] of s h is = absurd h
  more_straight (a ∷ []) of s h is = only allow functions f (plain_passes allow functions f plain.Has R I s refl refl) (push_reference a s h) (push_is of prim.Boolean s is)
  more_straight (a ∷ other ∷ ofs) of s h is = absurd h

  next_straight : (ofs : List Ty) (of : Ty) (s : List Slot) → TakesReference ofs → of ≡ t.Def → Straight allow functions f (typed_code operator.Next of (length ofs)) (push_types ofs s) (push of s)
  next_straight [] of s h is = absurd h
  next_straight (a ∷ []) of s h is = only allow functions f (plain_passes allow functions f plain.Next R R s refl refl) (push_reference a s h) (push_def of s is)
  next_straight (a ∷ other ∷ ofs) of s h is = absurd h

  pub typed_straight : (o : Operator) (ofs : List Ty) (of : Ty) (s : List Slot) → TakesTo o ofs of → Straight allow functions f (typed_code o of (length ofs)) (push_types ofs s) (push of s)
  typed_straight operator.List ofs of s h = only allow functions f (list_passes (length ofs) s) (lie_alike R ofs s (references_push ofs h.0)) (push_class of ARRAY_LIST s h.1)
  typed_straight operator.Map ofs of s h =
      only allow functions f (map_passes (length ofs / 2) s)
      (lie_alike R ofs s (references_push ofs (pairs_are_references ofs h.0)) ∙ ap (λ n. replicate n R ++ s) (sym (pairs_are_even ofs h.0))) (push_class of HASH_MAP s h.1)
  typed_straight operator.NewArray ofs of s h = sizes_straight ofs of s h
  typed_straight operator.ArrayOf ofs of s h = elements_straight ofs of s h
  typed_straight operator.Element ofs of s h = element_straight ofs of s h
  typed_straight operator.PutElement ofs of s h = absurd h
  typed_straight operator.Length ofs of s h = length_straight ofs of s h.0 h.1
  typed_straight operator.Iterate ofs of s h = iterate_straight ofs of s h.0 h.1
  typed_straight operator.HasNext ofs of s h = more_straight ofs of s h.0 h.1
  typed_straight operator.Next ofs of s h = next_straight ofs of s h.0 h.1
  typed_straight (operator.Int o) ofs of s h = operator_straight allow functions f (operator.Int o) ofs of s h
  typed_straight (operator.Long o) ofs of s h = operator_straight allow functions f (operator.Long o) ofs of s h
  typed_straight (operator.Boolean o) ofs of s h = operator_straight allow functions f (operator.Boolean o) ofs of s h
  typed_straight (operator.Def o) ofs of s h = operator_straight allow functions f (operator.Def o) ofs of s h
  typed_straight operator.Equal ofs of s h = operator_straight allow functions f operator.Equal ofs of s h
  typed_straight operator.NotEqual ofs of s h = operator_straight allow functions f operator.NotEqual ofs of s h
  typed_straight operator.Same ofs of s h = operator_straight allow functions f operator.Same ofs of s h
  typed_straight operator.NotSame ofs of s h = operator_straight allow functions f operator.NotSame ofs of s h
  typed_straight operator.Concat ofs of s h = operator_straight allow functions f operator.Concat ofs of s h

  -- an element is written
  pub put_straight : (ofs : List Ty) (of : Ty) (s : List Slot) → TakesElement ofs of
      → Straight allow functions f (i.Typed typed.StoreElement (full_text of) ∷ []) (push of (push_types ofs s)) s
  put_straight [] of s h = absurd h
  put_straight (array ∷ []) of s h = absurd h
  put_straight (array ∷ at ∷ []) of s h =
      only allow functions f (put_passes of s h.2)
      (push_value of (push at (push array s)) (named_values of h.2) ∙ ap (λ s. kind_of of ∷ s) (indexed array at of s h.0 h.1)) refl
  put_straight (array ∷ at ∷ other ∷ ofs) of s h = absurd h
