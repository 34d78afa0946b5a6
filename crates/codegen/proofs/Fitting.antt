-- How values of the types that operators, casts, constants and calls ask for are represented.
use Rattle.std.proofs.Common.{◌≡◌, ◌≢◌, ℕ, suc, ◌*◌, ◌/◌, ◌≤◌, List, [], ◌∷◌, length, Option, Some, None, refl, sym, ap, ◌∙◌, subst, arith}
use Rattle.std.specs.Prelude.{Bool, true, false, map}
use Rattle.pl_types.specs.declared.classes.TheConstants.{STRING, ARRAY_LIST, HASH_MAP, ITERATOR}
use Rattle.pl_types.specs.declared.primitive.Primitive.{Primitive}
use Rattle.pl_types.specs.declared.primitive.Primitive.TheVariants as prim
use Rattle.pl_types.specs.declared.ty.Ty.{Ty, out-Ty}
use Rattle.pl_types.specs.declared.ty.Ty.TheVariants as t
use Rattle.pl_types.specs.declared.ty.Ty.TheViews.{outs-Array}
use Rattle.pl_types.specs.declared.ty.Ty.TheOpen.{Ty-F}
use Rattle.pl_types.specs.declared.conversion.Cast.{Cast}
use Rattle.pl_types.specs.declared.conversion.Cast.TheVariants as cast
use Rattle.arithmetic.specs.declared.operator.Op.{Op}
use Rattle.arithmetic.specs.declared.operator.Op.TheVariants as op
use Rattle.source_meaning.specs.Operators.{is_unary}
use Rattle.source_meaning.specs.Types.{dimensions_layer, dimensions_of, element_layer, element_of}
use Rattle.typed_tree.specs.declared.operation.Constant.{Constant}
use Rattle.typed_tree.specs.declared.operation.Constant.TheVariants as constant
use Rattle.typed_tree.specs.declared.operation.Operator.{Operator}
use Rattle.typed_tree.specs.declared.operation.Operator.TheVariants as operator
use Rattle.typed_tree.specs.declared.operation.Change.{Change}
use Rattle.source_meaning.specs.Tree.{Exprs, None', One, type_of}
use Rattle.compiler_relation.specs.Representation.{Representation, Unboxed, Boxed, Absent, representation_of, representation_of_layer}
use Rattle.compiler_relation.specs.Parts.{run_time_representation}
use Rattle.compiler_relation.specs.Parts as code
use Rattle.compiler_relation.specs.Stands.{AllRepresented, CastFits, ChangeFits, IsDynamic, HasCode, Asks, IsElement, OperatorFits, representations, literal_representation}
use Rattle.program_typing.specs.Types.{is_reference_layer, IsReference, has_values_layer, HasValues, IsOf, Gives, of_one, of_two, of_one_flag, of_two_flags, right_side, TakesNumbers, TakesFlags, TakesReferences, IsDefOf, def_given, Takes, AreReferences, ArePairs, AreAll, Holds, TakesElement, TakesArray, TakesReference, TakesTo, string, listed_layer, is_listed, IsNamed, Keeps, Same, References, Casts}
use Rattle.program_typing.specs.Agreeing.{boolean, types_of, IsKnownBefore, Changes}
use Rattle.pl_types.specs.declared.ty.Ty.TheFolds.{map-Ty, fold_out-Ty}
use Rattle.codegen.specs.Operands.{IsAlike}
use Rattle.codegen.specs.Sound.{Names}
use Rattle.codegen.proofs.Listed.{named_known, listed_out}

-- ---- types

primitive_representation : (p : Primitive) → representation_of (t.Prim p) ≡ Unboxed
unfolding out-Ty denote.Hole.Carrier.out
primitive_representation p = refl

class_representation : (class : ℕ) → representation_of (t.Class class) ≡ Boxed
unfolding out-Ty denote.Hole.Carrier.out
class_representation class = refl

pub class_has_values : (class : ℕ) → HasValues (t.Class class)
unfolding out-Ty denote.Hole.Carrier.out
class_has_values class = tt

pub string_representation : (of : Ty) → of ≡ string → representation_of of ≡ Boxed
string_representation of x = ap representation_of x ∙ class_representation STRING

void_representation : representation_of t.Void ≡ Absent
unfolding out-Ty denote.Hole.Carrier.out
void_representation = refl

pub is_unboxed : (p : Primitive) (of : Ty) → of ≡ t.Prim p → representation_of of ≡ Unboxed
is_unboxed p of x = ap representation_of x ∙ primitive_representation p

pub flag_representation : (of : Ty) → of ≡ boolean → representation_of of ≡ Unboxed
flag_representation of x = is_unboxed prim.Boolean of x

pub nothing_representation : (of : Ty) → of ≡ t.Void → representation_of of ≡ Absent
nothing_representation of x = ap representation_of x ∙ void_representation

reference_layer : (l : Ty-F Ty) → is_reference_layer l → representation_of_layer l ≡ Boxed
reference_layer Ty-F.Void r = absurd r
reference_layer Ty-F.Null r = refl
reference_layer Ty-F.Def r = refl
reference_layer (Ty-F.Prim p) r = absurd r
reference_layer (Ty-F.Class class) r = refl
reference_layer (Ty-F.Array of) r = refl

pub is_boxed : (of : Ty) → IsReference of → representation_of of ≡ Boxed
is_boxed of r = reference_layer (out-Ty of) r

present_layer : (l : Ty-F Ty) → has_values_layer l → representation_of_layer l ≢ Absent
present_layer Ty-F.Void r = absurd r
present_layer Ty-F.Null r = λ e. cc
present_layer Ty-F.Def r = λ e. cc
present_layer (Ty-F.Prim p) r = λ e. cc
present_layer (Ty-F.Class class) r = λ e. cc
present_layer (Ty-F.Array of) r = λ e. cc

pub is_present : (of : Ty) → HasValues of → representation_of of ≢ Absent
is_present of r = present_layer (out-Ty of) r

pub constant_representation : (c : Constant) (of : Ty) → IsOf c of → representation_of of ≡ literal_representation c
constant_representation constant.Null of x = is_boxed of x
constant_representation (constant.Boolean a) of x = is_unboxed prim.Boolean of x
constant_representation (constant.Byte a) of x = is_unboxed prim.Byte of x
constant_representation (constant.Short a) of x = is_unboxed prim.Short of x
constant_representation (constant.Char a) of x = is_unboxed prim.Char of x
constant_representation (constant.Int a) of x = is_unboxed prim.Int of x
constant_representation (constant.Long a) of x = is_unboxed prim.Long of x

-- ---- operators

gives_unboxed : (o : Option Primitive) (of : Ty) → Gives o of → representation_of of ≡ Unboxed
gives_unboxed None of x = absurd x
gives_unboxed (Some p) of x = is_unboxed p of x

-- operands that are all represented so, and how what an operator gives is represented
record RepresentedSo (taken given : Representation) (ofs : List Ty) (of : Ty) : Type 0 where
  operands : AllRepresented taken (map representation_of ofs)
  gives : representation_of of ≡ given

numbers_lie : (p : Primitive) (o : Op) (ofs : List Ty) (of : Ty) → TakesNumbers p o ofs of → RepresentedSo Unboxed Unboxed ofs of
numbers_lie p o [] of x = absurd x
numbers_lie p o (a ∷ []) of x = record { operands = (is_unboxed p a x.0, tt); gives = gives_unboxed (of_one p o) of x.1 }
numbers_lie p o (a ∷ b ∷ []) of x = record { operands = (is_unboxed p a x.0, (is_unboxed (right_side p o) b x.1, tt)); gives = gives_unboxed (of_two p o) of x.2 }
numbers_lie p o (a ∷ b ∷ c ∷ ofs) of x = absurd x

flags_lie : (o : Op) (ofs : List Ty) (of : Ty) → TakesFlags o ofs of → RepresentedSo Unboxed Unboxed ofs of
flags_lie o [] of x = absurd x
flags_lie o (a ∷ []) of x = record { operands = (is_unboxed prim.Boolean a x.0, tt); gives = gives_unboxed (of_one_flag o) of x.1 }
flags_lie o (a ∷ b ∷ []) of x = record { operands = (is_unboxed prim.Boolean a x.0, (is_unboxed prim.Boolean b x.1, tt)); gives = gives_unboxed (of_two_flags o) of x.2 }
flags_lie o (a ∷ b ∷ c ∷ ofs) of x = absurd x

-- operands whose types are found when the script runs
def_operands : (unary : Bool) (ofs : List Ty) → IsDefOf unary ofs → AllRepresented Boxed (map representation_of ofs)
def_operands true [] x = absurd x
def_operands true (a ∷ []) x = (is_boxed a x, tt)
def_operands true (a ∷ b ∷ ofs) x = absurd x
def_operands false [] x = absurd x
def_operands false (a ∷ []) x = absurd x
def_operands false (a ∷ b ∷ []) x = (is_boxed a x.0, (is_boxed b x.1, tt))
def_operands false (a ∷ b ∷ c ∷ ofs) x = absurd x

pub def_representation : representation_of t.Def ≡ Boxed
unfolding out-Ty denote.Hole.Carrier.out
def_representation = refl

is_def : (of : Ty) → Some t.Def ≡ Some of → representation_of of ≡ Boxed
is_def of x = let same : t.Def ≡ of = cc in ap representation_of (sym same) ∙ def_representation

is_flag : (of : Ty) → Some boolean ≡ Some of → representation_of of ≡ Unboxed
is_flag of x = let same : boolean ≡ of = cc in flag_representation of (sym same)

def_gives : (o : Op) (of : Ty) → def_given o ≡ Some of → (representation_of of ≡ code.dynamic_gives o) × IsDynamic o
def_gives op.Add of x = (is_def of x, tt)
def_gives op.Sub of x = (is_def of x, tt)
def_gives op.Mul of x = (is_def of x, tt)
def_gives op.Div of x = (is_def of x, tt)
def_gives op.Rem of x = (is_def of x, tt)
def_gives op.And of x = (is_def of x, tt)
def_gives op.Or of x = (is_def of x, tt)
def_gives op.Xor of x = (is_def of x, tt)
def_gives op.Shl of x = (is_def of x, tt)
def_gives op.Shr of x = (is_def of x, tt)
def_gives op.Ushr of x = (is_def of x, tt)
def_gives op.Neg of x = (is_def of x, tt)
def_gives op.Not of x = (is_def of x, tt)
def_gives op.Pos of x = (is_def of x, tt)
def_gives op.Lt of x = (is_flag of x, tt)
def_gives op.Le of x = (is_flag of x, tt)
def_gives op.Gt of x = (is_flag of x, tt)
def_gives op.Ge of x = (is_flag of x, tt)
def_gives op.Eq of x = absurd cc
def_gives op.Ne of x = absurd cc

references_lie : (ofs : List Ty) → TakesReferences ofs → AllRepresented Boxed (map representation_of ofs)
references_lie [] x = absurd x
references_lie (a ∷ []) x = absurd x
references_lie (a ∷ b ∷ []) x = (is_boxed a x.0, (is_boxed b x.1, tt))
references_lie (a ∷ b ∷ c ∷ ofs) x = absurd x

compared_lie : (ofs : List Ty) (of : Ty) → TakesReferences ofs × (of ≡ boolean) → RepresentedSo Boxed Unboxed ofs of
compared_lie ofs of x = record { operands = references_lie ofs x.0; gives = flag_representation of x.1 }

takes_lie : (o : Operator) (ofs : List Ty) (of : Ty) → Takes o ofs of → RepresentedSo (code.operator_takes o) (code.operator_gives o) ofs of
takes_lie (operator.Int o) ofs of x = numbers_lie prim.Int o ofs of x
takes_lie (operator.Long o) ofs of x = numbers_lie prim.Long o ofs of x
takes_lie (operator.Boolean o) ofs of x = flags_lie o ofs of x
takes_lie (operator.Def o) ofs of x = record { operands = def_operands (is_unary o) ofs x.0; gives = (def_gives o of x.1).0 }
takes_lie operator.Equal ofs of x = compared_lie ofs of x
takes_lie operator.NotEqual ofs of x = compared_lie ofs of x
takes_lie operator.Same ofs of x = compared_lie ofs of x
takes_lie operator.NotSame ofs of x = compared_lie ofs of x
takes_lie operator.Concat ofs of x = record { operands = references_lie ofs x.0; gives = string_representation of x.1 }
takes_lie operator.List ofs of x = absurd x
takes_lie operator.Map ofs of x = absurd x
takes_lie operator.NewArray ofs of x = absurd x
takes_lie operator.ArrayOf ofs of x = absurd x
takes_lie operator.Element ofs of x = absurd x
takes_lie operator.PutElement ofs of x = absurd x
takes_lie operator.Length ofs of x = absurd x
takes_lie operator.Iterate ofs of x = absurd x
takes_lie operator.HasNext ofs of x = absurd x
takes_lie operator.Next ofs of x = absurd x

takes_code : (o : Operator) (ofs : List Ty) (of : Ty) → Takes o ofs of → HasCode o
takes_code (operator.Def o) ofs of x = (def_gives o of x.1).1
takes_code other ofs of x = tt

-- ---- operators of a node of a type

pub all_references : (ofs : List Ty) → AreReferences ofs → AllRepresented Boxed (map representation_of ofs)
all_references [] x = tt
all_references (a ∷ ofs) x = (is_boxed a x.0, all_references ofs x.1)

all_pairs : (ofs : List Ty) → ArePairs ofs → AllRepresented Boxed (map representation_of ofs)
all_pairs [] x = tt
all_pairs (key ∷ []) x = absurd x
all_pairs (key ∷ value ∷ more) x = (is_boxed key x.0, (is_boxed value x.1, all_pairs more x.2))

two_more : (n : ℕ) → 2 * (n / 2) ≡ n → 2 * (suc (suc n) / 2) ≡ suc (suc n)
two_more n h = omega (arith, h)

pairs_even : (ofs : List Ty) → ArePairs ofs → 2 * (length ofs / 2) ≡ length ofs
pairs_even [] x = refl
pairs_even (key ∷ []) x = absurd x
pairs_even (key ∷ value ∷ more) x = two_more (length more) (pairs_even more x.2)

all_alike : (of : Ty) (ofs : List Ty) → AreAll of ofs → AllRepresented (representation_of of) (map representation_of ofs)
all_alike of [] x = tt
all_alike of (a ∷ ofs) x = (ap representation_of x.0, all_alike of ofs x.1)

array_boxed : (elem : Ty) → representation_of (t.Array elem) ≡ Boxed
unfolding out-Ty denote.Hole.Carrier.out
array_boxed elem = refl

pub is_array : (of elem : Ty) → of ≡ t.Array elem → representation_of of ≡ Boxed
is_array of elem x = ap representation_of x ∙ array_boxed elem

element_made : (elem : Ty) → element_of (t.Array elem) ≡ elem
element_made elem = ap (element_layer (t.Array elem)) (outs-Array elem)

pub element_is : (of elem : Ty) → of ≡ t.Array elem → element_of of ≡ elem
element_is of elem x = ap element_of x ∙ element_made elem

sized_layer : (l : Ty-F Ty) → 1 ≤ dimensions_layer (map-Ty Ty ℕ dimensions_of l) → is_reference_layer l
sized_layer Ty-F.Void h = absurd (omega arith)
sized_layer Ty-F.Null h = tt
sized_layer Ty-F.Def h = tt
sized_layer (Ty-F.Prim p) h = absurd (omega arith)
sized_layer (Ty-F.Class class) h = tt
sized_layer (Ty-F.Array elem) h = tt

is_sized : (of : Ty) → 1 ≤ dimensions_of of → representation_of of ≡ Boxed
is_sized of h =
    let e : dimensions_of of ≡ dimensions_layer (map-Ty Ty ℕ dimensions_of (out-Ty of)) = fold_out-Ty ℕ dimensions_layer of in
    is_boxed of (sized_layer (out-Ty of) (subst (λ n. 1 ≤ n) e h))

one_array : (ofs : List Ty) → TakesArray ofs → AllRepresented Boxed (map representation_of ofs)
one_array [] x = absurd x
one_array (a ∷ []) x = (is_array a x.0 x.1, tt)
one_array (a ∷ b ∷ ofs) x = absurd x

one_reference : (ofs : List Ty) → TakesReference ofs → AllRepresented Boxed (map representation_of ofs)
one_reference [] x = absurd x
one_reference (a ∷ []) x = (is_boxed a x, tt)
one_reference (a ∷ b ∷ ofs) x = absurd x

is_class : (of : Ty) (class : ℕ) → of ≡ t.Class class → representation_of of ≡ Boxed
is_class of class x = ap representation_of x ∙ class_representation class

alike_lie : (o : Operator) → IsAlike o → (ofs : List Ty) (of : Ty) → TakesTo o ofs of → RepresentedSo (code.operator_takes o) (code.operator_gives o) ofs of
alike_lie operator.List a ofs of x = record { operands = all_references ofs x.0; gives = is_class of ARRAY_LIST x.1 }
alike_lie operator.Map a ofs of x = record { operands = all_pairs ofs x.0; gives = is_class of HASH_MAP x.1 }
alike_lie operator.NewArray a ofs of x = record {
  operands = subst (λ k. AllRepresented k (map representation_of ofs)) (primitive_representation prim.Int) (all_alike (t.Prim prim.Int) ofs x.0);
  gives = is_sized of (omega (arith, x.1, x.2));
}
alike_lie operator.ArrayOf a ofs of x = absurd a
alike_lie operator.Element a ofs of x = absurd a
alike_lie operator.PutElement a ofs of x = absurd a
alike_lie operator.Length a ofs of x = record { operands = one_array ofs x.0; gives = is_unboxed prim.Int of x.1 }
alike_lie operator.Iterate a ofs of x = record { operands = one_reference ofs x.0; gives = is_class of ITERATOR x.1 }
alike_lie operator.HasNext a ofs of x = record { operands = one_reference ofs x.0; gives = flag_representation of x.1 }
alike_lie operator.Next a ofs of x = record { operands = one_reference ofs x.0; gives = ap representation_of x.1 ∙ def_representation }
alike_lie (operator.Int o) a ofs of x = takes_lie (operator.Int o) ofs of x
alike_lie (operator.Long o) a ofs of x = takes_lie (operator.Long o) ofs of x
alike_lie (operator.Boolean o) a ofs of x = takes_lie (operator.Boolean o) ofs of x
alike_lie (operator.Def o) a ofs of x = takes_lie (operator.Def o) ofs of x
alike_lie operator.Equal a ofs of x = takes_lie operator.Equal ofs of x
alike_lie operator.NotEqual a ofs of x = takes_lie operator.NotEqual ofs of x
alike_lie operator.Same a ofs of x = takes_lie operator.Same ofs of x
alike_lie operator.NotSame a ofs of x = takes_lie operator.NotSame ofs of x
alike_lie operator.Concat a ofs of x = takes_lie operator.Concat ofs of x

pub alike_takes : (o : Operator) → IsAlike o → (ofs : List Ty) (of : Ty) → TakesTo o ofs of → AllRepresented (code.operator_takes o) (map representation_of ofs)
alike_takes o a ofs of x = (alike_lie o a ofs of x).operands

pub alike_gives : (o : Operator) → IsAlike o → (ofs : List Ty) (of : Ty) → TakesTo o ofs of → representation_of of ≡ code.operator_gives o
alike_gives o a ofs of x = (alike_lie o a ofs of x).gives

pub alike_asks : (o : Operator) → IsAlike o → (ofs : List Ty) (of : Ty) → TakesTo o ofs of → Asks o of (length ofs)
alike_asks operator.Map a ofs of x = pairs_even ofs x.0
alike_asks operator.NewArray a ofs of x = named_known of x.3
alike_asks operator.ArrayOf a ofs of x = absurd a
alike_asks operator.Element a ofs of x = absurd a
alike_asks operator.PutElement a ofs of x = absurd a
alike_asks (operator.Def o) a ofs of x = takes_code (operator.Def o) ofs of x
alike_asks other a ofs of x = tt

pub alike_fits : (o : Operator) → IsAlike o → (ks : List Representation) (of : Ty) → AllRepresented (code.operator_takes o) ks → representation_of of ≡ code.operator_gives o → Asks o of (length ks)
    → OperatorFits o ks of
alike_fits operator.ArrayOf a ks of x y z = absurd a
alike_fits operator.Element a ks of x y z = absurd a
alike_fits operator.PutElement a ks of x y z = absurd a
alike_fits (operator.Int o) a ks of x y z = (x, y, z)
alike_fits (operator.Long o) a ks of x y z = (x, y, z)
alike_fits (operator.Boolean o) a ks of x y z = (x, y, z)
alike_fits (operator.Def o) a ks of x y z = (x, y, z)
alike_fits operator.Equal a ks of x y z = (x, y, z)
alike_fits operator.NotEqual a ks of x y z = (x, y, z)
alike_fits operator.Same a ks of x y z = (x, y, z)
alike_fits operator.NotSame a ks of x y z = (x, y, z)
alike_fits operator.Concat a ks of x y z = (x, y, z)
alike_fits operator.List a ks of x y z = (x, y, z)
alike_fits operator.Map a ks of x y z = (x, y, z)
alike_fits operator.NewArray a ks of x y z = (x, y, z)
alike_fits operator.Length a ks of x y z = (x, y, z)
alike_fits operator.Iterate a ks of x y z = (x, y, z)
alike_fits operator.HasNext a ks of x y z = (x, y, z)
alike_fits operator.Next a ks of x y z = (x, y, z)

named_layer : (l : Ty-F Ty) → listed_layer (map-Ty Ty Bool is_listed l) ≡ true → representation_of_layer l ≢ Absent
named_layer Ty-F.Void h = absurd cc
named_layer Ty-F.Null h = λ e. cc
named_layer Ty-F.Def h = λ e. cc
named_layer (Ty-F.Prim p) h = λ e. cc
named_layer (Ty-F.Class class) h = λ e. cc
named_layer (Ty-F.Array of) h = λ e. cc

-- a type that code may name is one of elements
pub named_element : (of : Ty) → IsNamed of → IsElement of
named_element of h = record { known = named_known of h; present = named_layer (out-Ty of) (listed_out of h) }

pub array_lies : (ofs : List Ty) (of : Ty) → Holds ofs of → AllRepresented (representation_of (element_of of)) (map representation_of ofs) × (representation_of of ≡ Boxed) × IsElement (element_of of)
array_lies ofs of x =
    let is = sym (element_is of x.0 x.1) in
    (subst (λ e. AllRepresented (representation_of e) (map representation_of ofs)) is (all_alike x.0 ofs x.2), is_array of x.0 x.1, subst IsElement is (named_element x.0 x.3))

pub element_lies : (ofs : List Ty) (of : Ty) → TakesElement ofs of → (map representation_of ofs ≡ Boxed ∷ Unboxed ∷ []) × IsNamed of
element_lies [] of x = absurd x
element_lies (array ∷ []) of x = absurd x
element_lies (array ∷ at ∷ []) of x =
    (ap (λ k. k ∷ representation_of at ∷ []) (is_array array of x.0) ∙ ap (λ k. Boxed ∷ k ∷ []) (is_unboxed prim.Int at x.1), x.2)
element_lies (array ∷ at ∷ other ∷ ofs) of x = absurd x

pub types_lie : (parts : Exprs) → representations parts ≡ map representation_of (types_of parts)
types_lie None' = refl
types_lie (One a parts) = ap (λ ks. representation_of (type_of a) ∷ ks) (types_lie parts)

-- ---- casts

keeps_representation : (from to : Ty) → Keeps from to → representation_of to ≡ representation_of from
keeps_representation from to (Same e) = sym (ap representation_of e)
keeps_representation from to (References r s given) = is_boxed to s ∙ sym (is_boxed from r)

run_time_layer : (l : Ty-F Ty) → listed_layer (map-Ty Ty Bool is_listed l) ≡ true → representation_of_layer l ≡ run_time_representation l
run_time_layer Ty-F.Void h = absurd cc
run_time_layer Ty-F.Null h = refl
run_time_layer Ty-F.Def h = refl
run_time_layer (Ty-F.Prim p) h = refl
run_time_layer (Ty-F.Class class) h = refl
run_time_layer (Ty-F.Array of) h = refl

run_time : (to : Ty) → IsNamed to → representation_of to ≡ run_time_representation (out-Ty to)
run_time to h = run_time_layer (out-Ty to) (listed_out to h)

pub casts_fit : (c : Cast) (from to : Ty) → Casts c from to → CastFits c to (representation_of from) (representation_of to)
casts_fit cast.Keep from to x = record { takes = refl; representation = keeps_representation from to x; asks = tt }
casts_fit (cast.Number p q) from to x = record { takes = is_unboxed p from x.0; representation = is_unboxed q to x.1; asks = tt }
casts_fit (cast.Wrap p q) from to x = record { takes = is_unboxed p from x.0; representation = is_boxed to x.1; asks = tt }
casts_fit (cast.Unwrap p q) from to x = record { takes = is_boxed from x.0; representation = is_unboxed q to x.1; asks = tt }
casts_fit cast.Implicit from to x = record { takes = is_boxed from x.0; representation = run_time to x.1; asks = named_known to x.1 }
casts_fit cast.Explicit from to x = record { takes = is_boxed from x.0; representation = run_time to x.1; asks = named_known to x.1 }
casts_fit cast.CharToText from to x = record { takes = is_unboxed prim.Char from x.0; representation = string_representation to x.1; asks = tt }
casts_fit cast.TextToChar from to x = record { takes = is_boxed from x.0; representation = is_unboxed prim.Char to x.1; asks = tt }

pub casts_name : (c : Cast) (from to : Ty) → Casts c from to → Names c to
casts_name cast.Keep from to x = tt
casts_name (cast.Number p q) from to x = tt
casts_name (cast.Wrap p q) from to x = tt
casts_name (cast.Unwrap p q) from to x = tt
casts_name cast.Implicit from to x = x.1
casts_name cast.Explicit from to x = x.1
casts_name cast.CharToText from to x = tt
casts_name cast.TextToChar from to x = tt

-- what a cast takes, by what it gives
pub cast_given : (c : Cast) (from to : Ty) → Casts c from to → code.cast_takes c (representation_of to) ≡ representation_of from
cast_given cast.Keep from to x = keeps_representation from to x
cast_given (cast.Number p q) from to x = sym (is_unboxed p from x.0)
cast_given (cast.Wrap p q) from to x = sym (is_unboxed p from x.0)
cast_given (cast.Unwrap p q) from to x = sym (is_boxed from x.0)
cast_given cast.Implicit from to x = sym (is_boxed from x.0)
cast_given cast.Explicit from to x = sym (is_boxed from x.0)
cast_given cast.CharToText from to x = sym (is_unboxed prim.Char from x.0)
cast_given cast.TextToChar from to x = sym (is_boxed from x.0)

-- a cast that does not look at the value's type may be to any
known_fits : (c : Cast) (to other : Ty) (given gives : Representation) → IsKnownBefore c → CastFits c to given gives → CastFits c other given gives
known_fits cast.Keep to other given gives k h = record { takes = h.takes; representation = h.representation; asks = tt }
known_fits (cast.Number p q) to other given gives k h = record { takes = h.takes; representation = h.representation; asks = tt }
known_fits (cast.Wrap p q) to other given gives k h = record { takes = h.takes; representation = h.representation; asks = tt }
known_fits (cast.Unwrap p q) to other given gives k h = record { takes = h.takes; representation = h.representation; asks = tt }
known_fits cast.Implicit to other given gives k h = absurd k
known_fits cast.Explicit to other given gives k h = absurd k
known_fits cast.CharToText to other given gives k h = record { takes = h.takes; representation = h.representation; asks = tt }
known_fits cast.TextToChar to other given gives k h = record { takes = h.takes; representation = h.representation; asks = tt }

known_names : (c : Cast) (to : Ty) → IsKnownBefore c → Names c to
known_names cast.Keep to k = tt
known_names (cast.Number p q) to k = tt
known_names (cast.Wrap p q) to k = tt
known_names (cast.Unwrap p q) to k = tt
known_names cast.Implicit to k = absurd k
known_names cast.Explicit to k = absurd k
known_names cast.CharToText to k = tt
known_names cast.TextToChar to k = tt

-- what is cast to a value is one
present_before : (c : Cast) (to : Ty) (given gives : Representation) → CastFits c to given gives → gives ≢ Absent → given ≢ Absent
present_before cast.Keep to given gives h n e = n (h.representation ∙ e)
present_before (cast.Number p q) to given gives h n e = let bad : Unboxed ≡ Absent = sym h.takes ∙ e in cc
present_before (cast.Wrap p q) to given gives h n e = let bad : Unboxed ≡ Absent = sym h.takes ∙ e in cc
present_before (cast.Unwrap p q) to given gives h n e = let bad : Boxed ≡ Absent = sym h.takes ∙ e in cc
present_before cast.Implicit to given gives h n e = let bad : Boxed ≡ Absent = sym h.takes ∙ e in cc
present_before cast.Explicit to given gives h n e = let bad : Boxed ≡ Absent = sym h.takes ∙ e in cc
present_before cast.CharToText to given gives h n e = let bad : Unboxed ≡ Absent = sym h.takes ∙ e in cc
present_before cast.TextToChar to given gives h n e = let bad : Boxed ≡ Absent = sym h.takes ∙ e in cc

operand_present : (o : Operator) → code.operator_takes o ≢ Absent
operand_present (operator.Int o) e = cc
operand_present (operator.Long o) e = cc
operand_present (operator.Boolean o) e = cc
operand_present (operator.Def o) e = cc
operand_present operator.Equal e = cc
operand_present operator.NotEqual e = cc
operand_present operator.Same e = cc
operand_present operator.NotSame e = cc
operand_present operator.Concat e = cc
operand_present operator.List e = cc
operand_present operator.Map e = cc
operand_present operator.NewArray e = cc
operand_present operator.ArrayOf e = cc
operand_present operator.Element e = cc
operand_present operator.PutElement e = cc
operand_present operator.Length e = cc
operand_present operator.Iterate e = cc
operand_present operator.HasNext e = cc
operand_present operator.Next e = cc

-- ---- changes of a value

pub changes_fit : (change : Change) (of right : Ty) → Changes change of right → ChangeFits change of (representation_of right)
changes_fit change of right x =
    let both = takes_lie change.operator (x.left ∷ right ∷ []) x.result x.does in
    let before : CastFits change.before of (representation_of of) (code.operator_takes change.operator) =
    subst (CastFits change.before of (representation_of of)) both.operands.0 (known_fits change.before x.left of (representation_of of) (representation_of x.left) x.known (casts_fit change.before of x.left x.before)) in
    record {
      present = present_before change.before of (representation_of of) (code.operator_takes change.operator) before (operand_present change.operator);
      before = before;
      right = both.operands.1.0;
      after = subst (λ (k : Representation). CastFits change.after of k (representation_of of)) both.gives (casts_fit change.after x.result of x.after);
      does = takes_code change.operator (x.left ∷ right ∷ []) x.result x.does;
    }

-- and both of its casts are to types that code may name
pub record ChangeNames (change : Change) (of : Ty) : Type 0 where
  pub before : Names change.before of
  pub after : Names change.after of

pub changes_name : (change : Change) (of right : Ty) → Changes change of right → ChangeNames change of
changes_name change of right x = record { before = known_names change.before of x.known; after = casts_name change.after x.result of x.after }
