-- Operators and casts give values of the types that they should, or throw.
use Rattle.std.proofs.Common.{◌≡◌, ℕ, Bool, true, false, not, List, [], ◌∷◌, Option, Some, None, refl, sym, ap, ◌∙◌, subst}
use Rattle.std.specs.Prelude.{ℤ, int_lt, int_le}
use Rattle.std.specs.Int.{w32, w64}
use Rattle.std.specs.Ordering.{int_eq}
use Rattle.pl_types.specs.declared.primitive.Primitive.{Primitive}
use Rattle.pl_types.specs.declared.primitive.Primitive.TheVariants as prim
use Rattle.pl_types.specs.declared.ty.Ty.{Ty, out-Ty}
use Rattle.pl_types.specs.declared.ty.Ty.TheVariants as t
use Rattle.pl_types.specs.declared.conversion.Cast.{Cast}
use Rattle.pl_types.specs.declared.conversion.Cast.TheVariants as cast
use Rattle.object_values.specs.declared.value.Value.{Value}
use Rattle.object_values.specs.declared.value.Value.TheVariants as v
use Rattle.object_heap.specs.Store.{Store}
use Rattle.arithmetic.specs.declared.operator.Op.{Op}
use Rattle.arithmetic.specs.declared.operator.Op.TheVariants as op
use Rattle.arithmetic.specs.declared.operator.Num.TheVariants as n
use Rattle.arithmetic.specs.Arithmetic.{quotient_of, remainder_of}
use Rattle.arithmetic.specs.Operators.{some_of}
use Rattle.number_ops.specs.declared.outcome.Outcome.{Outcome}
use Rattle.number_ops.specs.declared.outcome.Outcome.TheVariants as outcome
use Rattle.number_ops.specs.Outcomes.{effect}
use Rattle.number_ops.specs.Casts.{cast_at_run_time}
use Rattle.number_ops.specs.Relations.{is_same}
use Rattle.typed_tree.specs.declared.operation.Operator.{Operator}
use Rattle.typed_tree.specs.declared.operation.Operator.TheVariants as operator
use Rattle.source_meaning.specs.Operating.{Operated, of_ints, of_longs, of_flags, OneInt, TwoInts, OneLong, OneFlag, TwoFlags, number_given, number_operated, flag_operated, operates, number_cast, in_box, box_if, of_references, reference_operated, gives_if, unwrapped, casts}
use Rattle.program_typing.specs.Types.{HasPrimitive, Has, HaveAll, IsReference, Gives, of_one, of_two, right_side, of_one_flag, of_two_flags, TakesNumbers, TakesFlags, TakesReferences, Takes, Converts, Keeps, Same, References, string, Casts}
use Rattle.program_typing.specs.Agreeing.{IsKnownBefore}
use Rattle.program_typing.proofs.Values.{bare, dressed, has_flag, has_int, has_long, is_flag, is_int, is_long, truth_has, reference_has}
use Rattle.program_typing.proofs.Defs.{defs_fit}
use Rattle.program_typing.proofs.Effects.{EffectHas, OperatedHas, OutcomeHas, throws_has, primitive_has, divides, made_has, text_acts, equal_has, unequal_has, cast_has}

-- ---- operators

int_divided : (of : Ty) (o : Option ℤ) (store : Store) → of ≡ t.Prim prim.Int → OperatedHas of (number_given op.Div (some_of n.Int o) store)
int_divided of None store x = divides of store
int_divided of (Some a) store x = has_int of a x

int_left : (of : Ty) (o : Option ℤ) (store : Store) → of ≡ t.Prim prim.Int → OperatedHas of (number_given op.Rem (some_of n.Int o) store)
int_left of None store x = divides of store
int_left of (Some a) store x = has_int of a x

long_divided : (of : Ty) (o : Option ℤ) (store : Store) → of ≡ t.Prim prim.Long → OperatedHas of (number_given op.Div (some_of n.Long o) store)
long_divided of None store x = divides of store
long_divided of (Some a) store x = has_long of a x

long_left : (of : Ty) (o : Option ℤ) (store : Store) → of ≡ t.Prim prim.Long → OperatedHas of (number_given op.Rem (some_of n.Long o) store)
long_left of None store x = divides of store
long_left of (Some a) store x = has_long of a x

one_int : (o : Op) (of : Ty) (a : ℤ) (store : Store) → Gives (of_one prim.Int o) of → OperatedHas of (number_operated o (of_ints o (OneInt a)) store)
one_int op.Add of a store x = absurd x
one_int op.Sub of a store x = absurd x
one_int op.Mul of a store x = absurd x
one_int op.Div of a store x = absurd x
one_int op.Rem of a store x = absurd x
one_int op.And of a store x = absurd x
one_int op.Or of a store x = absurd x
one_int op.Xor of a store x = absurd x
one_int op.Shl of a store x = absurd x
one_int op.Shr of a store x = absurd x
one_int op.Ushr of a store x = absurd x
one_int op.Neg of a store x = has_int of _ x
one_int op.Not of a store x = has_int of _ x
one_int op.Pos of a store x = absurd x
one_int op.Lt of a store x = absurd x
one_int op.Le of a store x = absurd x
one_int op.Gt of a store x = absurd x
one_int op.Ge of a store x = absurd x
one_int op.Eq of a store x = absurd x
one_int op.Ne of a store x = absurd x

two_ints : (o : Op) (of : Ty) (a b : ℤ) (store : Store) → Gives (of_two prim.Int o) of → OperatedHas of (number_operated o (of_ints o (TwoInts a b)) store)
two_ints op.Add of a b store x = has_int of _ x
two_ints op.Sub of a b store x = has_int of _ x
two_ints op.Mul of a b store x = has_int of _ x
two_ints op.Div of a b store x = int_divided of (quotient_of w32 a b) store x
two_ints op.Rem of a b store x = int_left of (remainder_of a b) store x
two_ints op.And of a b store x = has_int of _ x
two_ints op.Or of a b store x = has_int of _ x
two_ints op.Xor of a b store x = has_int of _ x
two_ints op.Shl of a b store x = has_int of _ x
two_ints op.Shr of a b store x = has_int of _ x
two_ints op.Ushr of a b store x = has_int of _ x
two_ints op.Neg of a b store x = absurd x
two_ints op.Not of a b store x = absurd x
two_ints op.Pos of a b store x = absurd x
two_ints op.Lt of a b store x = truth_has of (int_lt a b) x
two_ints op.Le of a b store x = truth_has of (int_le a b) x
two_ints op.Gt of a b store x = truth_has of (int_lt b a) x
two_ints op.Ge of a b store x = truth_has of (int_le b a) x
two_ints op.Eq of a b store x = truth_has of (int_eq a b) x
two_ints op.Ne of a b store x = truth_has of (not (int_eq a b)) x

one_long : (o : Op) (of : Ty) (a : ℤ) (store : Store) → Gives (of_one prim.Long o) of → OperatedHas of (number_operated o (of_longs o (OneLong a)) store)
one_long op.Add of a store x = absurd x
one_long op.Sub of a store x = absurd x
one_long op.Mul of a store x = absurd x
one_long op.Div of a store x = absurd x
one_long op.Rem of a store x = absurd x
one_long op.And of a store x = absurd x
one_long op.Or of a store x = absurd x
one_long op.Xor of a store x = absurd x
one_long op.Shl of a store x = absurd x
one_long op.Shr of a store x = absurd x
one_long op.Ushr of a store x = absurd x
one_long op.Neg of a store x = has_long of _ x
one_long op.Not of a store x = has_long of _ x
one_long op.Pos of a store x = absurd x
one_long op.Lt of a store x = absurd x
one_long op.Le of a store x = absurd x
one_long op.Gt of a store x = absurd x
one_long op.Ge of a store x = absurd x
one_long op.Eq of a store x = absurd x
one_long op.Ne of a store x = absurd x

-- the right side of an operator on longs
abbrev long_sides : Op → List Value → Store → ℤ → Operated
long_sides o rights store a = operates (operator.Long o) (v.Long a ∷ rights) store

two_longs : (o : Op) (of : Ty) (a : ℤ) (b : Value) (store : Store) → Has (t.Prim (right_side prim.Long o)) b → Gives (of_two prim.Long o) of → OperatedHas of (long_sides o (b ∷ []) store a)
two_longs op.Add of a b store h x = let h = bare (right_side prim.Long op.Add) b h in subst (λ b. OperatedHas of (long_sides op.Add (b ∷ []) store a)) (sym h.1) (has_long of _ x)
two_longs op.Sub of a b store h x = let h = bare (right_side prim.Long op.Sub) b h in subst (λ b. OperatedHas of (long_sides op.Sub (b ∷ []) store a)) (sym h.1) (has_long of _ x)
two_longs op.Mul of a b store h x = let h = bare (right_side prim.Long op.Mul) b h in subst (λ b. OperatedHas of (long_sides op.Mul (b ∷ []) store a)) (sym h.1) (has_long of _ x)
two_longs op.Div of a b store h x = let h = bare (right_side prim.Long op.Div) b h in subst (λ b. OperatedHas of (long_sides op.Div (b ∷ []) store a)) (sym h.1) (long_divided of (quotient_of w64 a h.0) store x)
two_longs op.Rem of a b store h x = let h = bare (right_side prim.Long op.Rem) b h in subst (λ b. OperatedHas of (long_sides op.Rem (b ∷ []) store a)) (sym h.1) (long_left of (remainder_of a h.0) store x)
two_longs op.And of a b store h x = let h = bare (right_side prim.Long op.And) b h in subst (λ b. OperatedHas of (long_sides op.And (b ∷ []) store a)) (sym h.1) (has_long of _ x)
two_longs op.Or of a b store h x = let h = bare (right_side prim.Long op.Or) b h in subst (λ b. OperatedHas of (long_sides op.Or (b ∷ []) store a)) (sym h.1) (has_long of _ x)
two_longs op.Xor of a b store h x = let h = bare (right_side prim.Long op.Xor) b h in subst (λ b. OperatedHas of (long_sides op.Xor (b ∷ []) store a)) (sym h.1) (has_long of _ x)
two_longs op.Shl of a b store h x = let h = bare (right_side prim.Long op.Shl) b h in subst (λ b. OperatedHas of (long_sides op.Shl (b ∷ []) store a)) (sym h.1) (has_long of _ x)
two_longs op.Shr of a b store h x = let h = bare (right_side prim.Long op.Shr) b h in subst (λ b. OperatedHas of (long_sides op.Shr (b ∷ []) store a)) (sym h.1) (has_long of _ x)
two_longs op.Ushr of a b store h x = let h = bare (right_side prim.Long op.Ushr) b h in subst (λ b. OperatedHas of (long_sides op.Ushr (b ∷ []) store a)) (sym h.1) (has_long of _ x)
two_longs op.Neg of a b store h x = absurd x
two_longs op.Not of a b store h x = absurd x
two_longs op.Pos of a b store h x = absurd x
two_longs op.Lt of a b store h x = let h = bare (right_side prim.Long op.Lt) b h in subst (λ b. OperatedHas of (long_sides op.Lt (b ∷ []) store a)) (sym h.1) (truth_has of (int_lt a h.0) x)
two_longs op.Le of a b store h x = let h = bare (right_side prim.Long op.Le) b h in subst (λ b. OperatedHas of (long_sides op.Le (b ∷ []) store a)) (sym h.1) (truth_has of (int_le a h.0) x)
two_longs op.Gt of a b store h x = let h = bare (right_side prim.Long op.Gt) b h in subst (λ b. OperatedHas of (long_sides op.Gt (b ∷ []) store a)) (sym h.1) (truth_has of (int_lt h.0 a) x)
two_longs op.Ge of a b store h x = let h = bare (right_side prim.Long op.Ge) b h in subst (λ b. OperatedHas of (long_sides op.Ge (b ∷ []) store a)) (sym h.1) (truth_has of (int_le h.0 a) x)
two_longs op.Eq of a b store h x = let h = bare (right_side prim.Long op.Eq) b h in subst (λ b. OperatedHas of (long_sides op.Eq (b ∷ []) store a)) (sym h.1) (truth_has of (int_eq a h.0) x)
two_longs op.Ne of a b store h x = let h = bare (right_side prim.Long op.Ne) b h in subst (λ b. OperatedHas of (long_sides op.Ne (b ∷ []) store a)) (sym h.1) (truth_has of (not (int_eq a h.0)) x)

one_flag : (o : Op) (of : Ty) (a : Bool) → Gives (of_one_flag o) of → OperatedHas of (flag_operated (of_flags o (OneFlag a)))
one_flag op.Add of a x = absurd x
one_flag op.Sub of a x = absurd x
one_flag op.Mul of a x = absurd x
one_flag op.Div of a x = absurd x
one_flag op.Rem of a x = absurd x
one_flag op.And of a x = absurd x
one_flag op.Or of a x = absurd x
one_flag op.Xor of a x = absurd x
one_flag op.Shl of a x = absurd x
one_flag op.Shr of a x = absurd x
one_flag op.Ushr of a x = absurd x
one_flag op.Neg of a x = absurd x
one_flag op.Not of a x = has_flag of _ x
one_flag op.Pos of a x = absurd x
one_flag op.Lt of a x = absurd x
one_flag op.Le of a x = absurd x
one_flag op.Gt of a x = absurd x
one_flag op.Ge of a x = absurd x
one_flag op.Eq of a x = absurd x
one_flag op.Ne of a x = absurd x

two_flags : (o : Op) (of : Ty) (a b : Bool) → Gives (of_two_flags o) of → OperatedHas of (flag_operated (of_flags o (TwoFlags a b)))
two_flags op.Add of a b x = absurd x
two_flags op.Sub of a b x = absurd x
two_flags op.Mul of a b x = absurd x
two_flags op.Div of a b x = absurd x
two_flags op.Rem of a b x = absurd x
two_flags op.And of a b x = has_flag of _ x
two_flags op.Or of a b x = has_flag of _ x
two_flags op.Xor of a b x = has_flag of _ x
two_flags op.Shl of a b x = absurd x
two_flags op.Shr of a b x = absurd x
two_flags op.Ushr of a b x = absurd x
two_flags op.Neg of a b x = absurd x
two_flags op.Not of a b x = absurd x
two_flags op.Pos of a b x = absurd x
two_flags op.Lt of a b x = absurd x
two_flags op.Le of a b x = absurd x
two_flags op.Gt of a b x = absurd x
two_flags op.Ge of a b x = absurd x
two_flags op.Eq of a b x = has_flag of _ x
two_flags op.Ne of a b x = has_flag of _ x

right_int : (o : Op) → right_side prim.Int o ≡ prim.Int
right_int op.Add = refl
right_int op.Sub = refl
right_int op.Mul = refl
right_int op.Div = refl
right_int op.Rem = refl
right_int op.And = refl
right_int op.Or = refl
right_int op.Xor = refl
right_int op.Shl = refl
right_int op.Shr = refl
right_int op.Ushr = refl
right_int op.Neg = refl
right_int op.Not = refl
right_int op.Pos = refl
right_int op.Lt = refl
right_int op.Le = refl
right_int op.Gt = refl
right_int op.Ge = refl
right_int op.Eq = refl
right_int op.Ne = refl

ints_fit : (o : Op) (ofs : List Ty) (of : Ty) (values : List Value) (store : Store) → TakesNumbers prim.Int o ofs of → HaveAll ofs values → OperatedHas of (operates (operator.Int o) values store)
ints_fit o [] of values store x h = absurd x
ints_fit o (p ∷ []) of [] store x h = absurd h
ints_fit o (p ∷ []) of (a ∷ []) store x h =
    let a' = is_int p a x.0 h.0 in
    subst (λ a. OperatedHas of (operates (operator.Int o) (a ∷ []) store)) (sym a'.1) (one_int o of a'.0 store x.1)
ints_fit o (p ∷ []) of (a ∷ b ∷ values) store x h = absurd h.1
ints_fit o (p ∷ q ∷ []) of [] store x h = absurd h
ints_fit o (p ∷ q ∷ []) of (a ∷ []) store x h = absurd h.1
ints_fit o (p ∷ q ∷ []) of (a ∷ b ∷ []) store x h =
    let a' = is_int p a x.0 h.0 in
    let b' = is_int q b (x.1 ∙ ap t.Prim (right_int o)) h.1.0 in
    subst (λ a. OperatedHas of (operates (operator.Int o) (a ∷ b ∷ []) store)) (sym a'.1)
    (subst (λ b. OperatedHas of (operates (operator.Int o) (v.Int a'.0 ∷ b ∷ []) store)) (sym b'.1) (two_ints o of a'.0 b'.0 store x.2))
ints_fit o (p ∷ q ∷ []) of (a ∷ b ∷ c ∷ values) store x h = absurd h.1.1
ints_fit o (p ∷ q ∷ r ∷ ofs) of values store x h = absurd x

longs_fit : (o : Op) (ofs : List Ty) (of : Ty) (values : List Value) (store : Store) → TakesNumbers prim.Long o ofs of → HaveAll ofs values → OperatedHas of (operates (operator.Long o) values store)
longs_fit o [] of values store x h = absurd x
longs_fit o (p ∷ []) of [] store x h = absurd h
longs_fit o (p ∷ []) of (a ∷ []) store x h =
    let a' = is_long p a x.0 h.0 in
    subst (λ a. OperatedHas of (operates (operator.Long o) (a ∷ []) store)) (sym a'.1) (one_long o of a'.0 store x.1)
longs_fit o (p ∷ []) of (a ∷ b ∷ values) store x h = absurd h.1
longs_fit o (p ∷ q ∷ []) of [] store x h = absurd h
longs_fit o (p ∷ q ∷ []) of (a ∷ []) store x h = absurd h.1
longs_fit o (p ∷ q ∷ []) of (a ∷ b ∷ []) store x h =
    let a' = is_long p a x.0 h.0 in
    subst (λ a. OperatedHas of (operates (operator.Long o) (a ∷ b ∷ []) store)) (sym a'.1)
    (two_longs o of a'.0 b store (subst (λ of. Has of b) x.1 h.1.0) x.2)
longs_fit o (p ∷ q ∷ []) of (a ∷ b ∷ c ∷ values) store x h = absurd h.1.1
longs_fit o (p ∷ q ∷ r ∷ ofs) of values store x h = absurd x

flags_fit : (o : Op) (ofs : List Ty) (of : Ty) (values : List Value) (store : Store) → TakesFlags o ofs of → HaveAll ofs values → OperatedHas of (operates (operator.Boolean o) values store)
flags_fit o [] of values store x h = absurd x
flags_fit o (p ∷ []) of [] store x h = absurd h
flags_fit o (p ∷ []) of (a ∷ []) store x h =
    let a' = is_flag p a x.0 h.0 in
    subst (λ a. OperatedHas of (operates (operator.Boolean o) (a ∷ []) store)) (sym a'.1) (one_flag o of a'.0 x.1)
flags_fit o (p ∷ []) of (a ∷ b ∷ values) store x h = absurd h.1
flags_fit o (p ∷ q ∷ []) of [] store x h = absurd h
flags_fit o (p ∷ q ∷ []) of (a ∷ []) store x h = absurd h.1
flags_fit o (p ∷ q ∷ []) of (a ∷ b ∷ []) store x h =
    let a' = is_flag p a x.0 h.0 in
    let b' = is_flag q b x.1 h.1.0 in
    subst (λ a. OperatedHas of (operates (operator.Boolean o) (a ∷ b ∷ []) store)) (sym a'.1)
    (subst (λ b. OperatedHas of (operates (operator.Boolean o) (v.Bool a'.0 ∷ b ∷ []) store)) (sym b'.1) (two_flags o of a'.0 b'.0 x.2))
flags_fit o (p ∷ q ∷ []) of (a ∷ b ∷ c ∷ values) store x h = absurd h.1.1
flags_fit o (p ∷ q ∷ r ∷ ofs) of values store x h = absurd x

references_fit : (o : Operator) (ofs : List Ty) (of : Ty) (values : List Value) (store : Store) → ((a b : Value) → OperatedHas of (of_references o a b store)) → TakesReferences ofs
    → HaveAll ofs values → OperatedHas of (reference_operated o values store)
references_fit o [] of values store f x h = absurd x
references_fit o (p ∷ []) of values store f x h = absurd x
references_fit o (p ∷ q ∷ []) of [] store f x h = absurd h
references_fit o (p ∷ q ∷ []) of (a ∷ []) store f x h = absurd h.1
references_fit o (p ∷ q ∷ []) of (a ∷ b ∷ []) store f x h = f a b
references_fit o (p ∷ q ∷ []) of (a ∷ b ∷ c ∷ values) store f x h = absurd h.1.1
references_fit o (p ∷ q ∷ r ∷ ofs) of values store f x h = absurd x

-- An operator comes to a value of its type, or throws.
pub takes_fit : (o : Operator) (ofs : List Ty) (of : Ty) (values : List Value) (store : Store) → Takes o ofs of → HaveAll ofs values → OperatedHas of (operates o values store)
takes_fit (operator.Int o) ofs of values store x h = ints_fit o ofs of values store x h
takes_fit (operator.Long o) ofs of values store x h = longs_fit o ofs of values store x h
takes_fit (operator.Boolean o) ofs of values store x h = flags_fit o ofs of values store x h
takes_fit (operator.Def o) ofs of values store x h = defs_fit o ofs of values store x.0 x.1 h
takes_fit operator.Equal ofs of values store x h = references_fit operator.Equal ofs of values store (λ a b. equal_has of store a b x.1) x.0 h
takes_fit operator.NotEqual ofs of values store x h = references_fit operator.NotEqual ofs of values store (λ a b. unequal_has of store a b x.1) x.0 h
takes_fit operator.Same ofs of values store x h = references_fit operator.Same ofs of values store (λ a b. has_flag of (is_same a b) x.1) x.0 h
takes_fit operator.NotSame ofs of values store x h = references_fit operator.NotSame ofs of values store (λ a b. has_flag of (not (is_same a b)) x.1) x.0 h
takes_fit operator.Concat ofs of values store x h = references_fit operator.Concat ofs of values store (λ a b. made_has of _ x.1) x.0 h
takes_fit operator.List ofs of values store x h = absurd x
takes_fit operator.Map ofs of values store x h = absurd x
takes_fit operator.NewArray ofs of values store x h = absurd x
takes_fit operator.ArrayOf ofs of values store x h = absurd x
takes_fit operator.Element ofs of values store x h = absurd x
takes_fit operator.PutElement ofs of values store x h = absurd x
takes_fit operator.Length ofs of values store x h = absurd x
takes_fit operator.Iterate ofs of values store x h = absurd x
takes_fit operator.HasNext ofs of values store x h = absurd x
takes_fit operator.Next ofs of values store x h = absurd x

-- ---- casts

-- a cast's value, where there is one of the type
pub record Goes (p : Primitive) (o : Option Value) : Type 0 where
  pub value : Value
  pub is : o ≡ Some value
  pub has : HasPrimitive p value

from_boolean : (q : Primitive) (a : Bool) → Converts prim.Boolean q → Goes q (number_cast prim.Boolean q (v.Bool a))
from_boolean prim.Boolean a c = record { value = _; is = refl; has = (_, refl) }
from_boolean prim.Byte a c = absurd c
from_boolean prim.Short a c = absurd c
from_boolean prim.Char a c = absurd c
from_boolean prim.Int a c = absurd c
from_boolean prim.Long a c = absurd c

from_byte : (q : Primitive) (a : ℤ) → Converts prim.Byte q → Goes q (number_cast prim.Byte q (v.Byte a))
from_byte prim.Boolean a c = absurd c
from_byte prim.Byte a c = record { value = _; is = refl; has = (_, refl) }
from_byte prim.Short a c = record { value = _; is = refl; has = (_, refl) }
from_byte prim.Char a c = record { value = _; is = refl; has = (_, refl) }
from_byte prim.Int a c = record { value = _; is = refl; has = (_, refl) }
from_byte prim.Long a c = record { value = _; is = refl; has = (_, refl) }

from_short : (q : Primitive) (a : ℤ) → Converts prim.Short q → Goes q (number_cast prim.Short q (v.Short a))
from_short prim.Boolean a c = absurd c
from_short prim.Byte a c = record { value = _; is = refl; has = (_, refl) }
from_short prim.Short a c = record { value = _; is = refl; has = (_, refl) }
from_short prim.Char a c = record { value = _; is = refl; has = (_, refl) }
from_short prim.Int a c = record { value = _; is = refl; has = (_, refl) }
from_short prim.Long a c = record { value = _; is = refl; has = (_, refl) }

from_char : (q : Primitive) (a : ℕ) → Converts prim.Char q → Goes q (number_cast prim.Char q (v.Char a))
from_char prim.Boolean a c = absurd c
from_char prim.Byte a c = record { value = _; is = refl; has = (_, refl) }
from_char prim.Short a c = record { value = _; is = refl; has = (_, refl) }
from_char prim.Char a c = record { value = _; is = refl; has = (_, refl) }
from_char prim.Int a c = record { value = _; is = refl; has = (_, refl) }
from_char prim.Long a c = record { value = _; is = refl; has = (_, refl) }

from_int : (q : Primitive) (a : ℤ) → Converts prim.Int q → Goes q (number_cast prim.Int q (v.Int a))
from_int prim.Boolean a c = absurd c
from_int prim.Byte a c = record { value = _; is = refl; has = (_, refl) }
from_int prim.Short a c = record { value = _; is = refl; has = (_, refl) }
from_int prim.Char a c = record { value = _; is = refl; has = (_, refl) }
from_int prim.Int a c = record { value = _; is = refl; has = (_, refl) }
from_int prim.Long a c = record { value = _; is = refl; has = (_, refl) }

from_long : (q : Primitive) (a : ℤ) → Converts prim.Long q → Goes q (number_cast prim.Long q (v.Long a))
from_long prim.Boolean a c = absurd c
from_long prim.Byte a c = record { value = _; is = refl; has = (_, refl) }
from_long prim.Short a c = record { value = _; is = refl; has = (_, refl) }
from_long prim.Char a c = record { value = _; is = refl; has = (_, refl) }
from_long prim.Int a c = record { value = _; is = refl; has = (_, refl) }
from_long prim.Long a c = record { value = _; is = refl; has = (_, refl) }

converts : (p q : Primitive) (value : Value) → Converts p q → HasPrimitive p value → Goes q (number_cast p q value)
converts prim.Boolean q value c h = subst (λ value. Goes q (number_cast prim.Boolean q value)) (sym h.1) (from_boolean q h.0 c)
converts prim.Byte q value c h = subst (λ value. Goes q (number_cast prim.Byte q value)) (sym h.1) (from_byte q h.0 c)
converts prim.Short q value c h = subst (λ value. Goes q (number_cast prim.Short q value)) (sym h.1) (from_short q h.0 c)
converts prim.Char q value c h = subst (λ value. Goes q (number_cast prim.Char q value)) (sym h.1) (from_char q h.0 c)
converts prim.Int q value c h = subst (λ value. Goes q (number_cast prim.Int q value)) (sym h.1) (from_int q h.0 c)
converts prim.Long q value c h = subst (λ value. Goes q (number_cast prim.Long q value)) (sym h.1) (from_long q h.0 c)

-- the same of a type
pub record Given (of : Ty) (o : Option Value) : Type 0 where
  pub value : Value
  pub is : o ≡ Some value
  pub has : Has of value

boxes : (q : Primitive) (value : Value) (of : Ty) → HasPrimitive q value → IsReference of → Given of (in_box q value)
boxes prim.Boolean value of h r = subst (λ value. Given of (in_box prim.Boolean value)) (sym h.1) (record { value = _; is = refl; has = reference_has (out-Ty of) _ r })
boxes prim.Byte value of h r = subst (λ value. Given of (in_box prim.Byte value)) (sym h.1) (record { value = _; is = refl; has = reference_has (out-Ty of) _ r })
boxes prim.Short value of h r = subst (λ value. Given of (in_box prim.Short value)) (sym h.1) (record { value = _; is = refl; has = reference_has (out-Ty of) _ r })
boxes prim.Char value of h r = subst (λ value. Given of (in_box prim.Char value)) (sym h.1) (record { value = _; is = refl; has = reference_has (out-Ty of) _ r })
boxes prim.Int value of h r = subst (λ value. Given of (in_box prim.Int value)) (sym h.1) (record { value = _; is = refl; has = reference_has (out-Ty of) _ r })
boxes prim.Long value of h r = subst (λ value. Given of (in_box prim.Long value)) (sym h.1) (record { value = _; is = refl; has = reference_has (out-Ty of) _ r })

given_operated : (of : Ty) (o : Option Value) → Given of o → OperatedHas of (gives_if o)
given_operated of o x = subst (λ o. OperatedHas of (gives_if o)) (sym x.is) x.has

keeps_fit : (from to : Ty) (value : Value) → Keeps from to → Has from value → Has to value
keeps_fit from to value (Same x) h = subst (λ of. Has of value) x h
keeps_fit from to value (References x y given) h = reference_has (out-Ty to) value y

converted_fits : (p q : Primitive) (of : Ty) (value : Value) → of ≡ t.Prim q → Converts p q → HasPrimitive p value → OperatedHas of (gives_if (number_cast p q value))
converted_fits p q of value x c h =
    let made = converts p q value c h in
    given_operated of _ (record { value = made.value; is = made.is; has = subst (λ of. Has of made.value) (sym x) (dressed q made.value made.has) })

unwrapped_fits : (p q : Primitive) (of : Ty) (o : Outcome) (store : Store) → of ≡ t.Prim q → Converts p q → OutcomeHas p o → OperatedHas of (unwrapped p q o store)
unwrapped_fits p q of (outcome.Gives value) store x c h = converted_fits p q of value x c h
unwrapped_fits p q of (outcome.Makes text) store x c h = absurd h
unwrapped_fits p q of (outcome.Throws raised message) store x c h = throws_has of store raised message
unwrapped_fits p q of outcome.NoMemory store x c h = absurd h

-- A cast comes to a value of the type that it goes to, or throws.
pub casts_fit : (c : Cast) (from to : Ty) (value : Value) (store : Store) → Casts c from to → Has from value → OperatedHas to (casts c to value store)
casts_fit cast.Keep from to value store x h = keeps_fit from to value x h
casts_fit (cast.Number p q) from to value store x h = converted_fits p q to value x.1 x.2 (bare p value (subst (λ of. Has of value) x.0 h))
casts_fit (cast.Wrap p q) from to value store x h =
    let made = converts p q value x.2 (bare p value (subst (λ of. Has of value) x.0 h)) in
    given_operated to _ (subst (λ o. Given to (box_if q o)) (sym made.is) (boxes q made.value to made.has x.1))
casts_fit (cast.Unwrap p q) from to value store x h = unwrapped_fits p q to _ store x.1 x.2 (primitive_has p store.objects value false)
casts_fit cast.Implicit from to value store x h = cast_has to store value false
casts_fit cast.Explicit from to value store x h = cast_has to store value true
casts_fit cast.CharToText from to value store x h =
    let unit = bare prim.Char value (subst (λ of. Has of value) x.0 h) in
    subst (λ of. OperatedHas of (casts cast.CharToText to value store)) (sym x.1)
    (subst (λ value. OperatedHas string (casts cast.CharToText to value store)) (sym unit.1) (text_acts (casts cast.CharToText to (v.Char unit.0) store) tt))
casts_fit cast.TextToChar from to value store x h =
    subst (λ of. EffectHas of (effect store (cast_at_run_time store.objects value (t.Prim prim.Char) true))) (sym x.1) (cast_has (t.Prim prim.Char) store value true)

-- The first cast of a compound assignment asks for no type.
pub begins_fit : (c : Cast) (from to : Ty) (value : Value) (store : Store) → IsKnownBefore c → Casts c from to → Has from value → OperatedHas to (casts c from value store)
begins_fit cast.Keep from to value store k x h = casts_fit cast.Keep from to value store x h
begins_fit (cast.Number p q) from to value store k x h = casts_fit (cast.Number p q) from to value store x h
begins_fit (cast.Wrap p q) from to value store k x h = casts_fit (cast.Wrap p q) from to value store x h
begins_fit (cast.Unwrap p q) from to value store k x h = casts_fit (cast.Unwrap p q) from to value store x h
begins_fit cast.Implicit from to value store k x h = absurd k
begins_fit cast.Explicit from to value store k x h = absurd k
begins_fit cast.CharToText from to value store k x h = casts_fit cast.CharToText from to value store x h
begins_fit cast.TextToChar from to value store k x h = casts_fit cast.TextToChar from to value store x h
