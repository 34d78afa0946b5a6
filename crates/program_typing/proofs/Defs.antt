-- What operators give whose operands' types are found when the script runs is of the type that it should be.
use Rattle.std.proofs.Common.{◌≡◌, ◌||◌, Bool, true, false, List, [], ◌∷◌, Option, Some, None, refl, sym, subst}
use Rattle.std.specs.Prelude.{if◌then◌else◌, ℕ}
use Rattle.pl_types.specs.declared.primitive.Primitive.TheVariants as prim
use Rattle.pl_types.specs.declared.ty.Ty.{Ty, out-Ty}
use Rattle.pl_types.specs.declared.ty.Ty.TheVariants as t
use Rattle.pl_types.specs.declared.ty.Ty.TheOpen.{Ty-F}
use Rattle.object_values.specs.declared.object.Object.{Object}
use Rattle.object_values.specs.declared.value.Value.{Value}
use Rattle.object_heap.specs.Effects.{Effect}
use Rattle.object_heap.specs.Store.{Store}
use Rattle.arithmetic.specs.declared.operator.Op.{Op}
use Rattle.arithmetic.specs.declared.operator.Op.TheVariants as op
use Rattle.arithmetic.specs.declared.operator.Num.{Num}
use Rattle.arithmetic.specs.declared.operator.Num.TheVariants as num
use Rattle.arithmetic.specs.Operators.{arith_of}
use Rattle.number_ops.specs.declared.outcome.Outcome.{Outcome}
use Rattle.number_ops.specs.declared.outcome.Raised.{Raised}
use Rattle.number_ops.specs.Names.{cannot_apply}
use Rattle.number_ops.specs.Operators.{number_in, is_null, truth_in, boxed, compares, is_unary, of_result, calculated, flags_given, flags_of, of_numbers, operate}
use Rattle.number_ops.specs.Outcomes.{effect, null_error, says}
use Rattle.source_meaning.specs.Operating.{Meaningless, Acts, of_any}
use Rattle.program_typing.specs.Types.{HasPrimitive, Has, HaveAll, IsDefOf, def_given}
use Rattle.program_typing.proofs.Effects.{LayerHas, EffectHas, OperatedHas, OutcomeHas, outcome_has, made}

-- ---- comparisons

abbrev Flag : Outcome → Type 0
Flag x = OutcomeHas prim.Boolean x

chosen : (test : Bool) (x y : Outcome) → Flag x → Flag y → Flag (if test then x else y)
chosen true x y h g = h
chosen false x y h g = g

says_flag : (raised : Raised) (message : List ℕ) → Flag (says raised message)
unfolding says
says_flag raised message = tt

truth_flag : (number : Num) → HasPrimitive prim.Boolean (truth_in number)
truth_flag (num.Int a) = (_, refl)
truth_flag (num.Long a) = (_, refl)

result_flag : (o : Op) (number : Num) → compares o ≡ true → HasPrimitive prim.Boolean (of_result o number)
result_flag o number c = subst (λ test. HasPrimitive prim.Boolean (if test then truth_in number else boxed number)) (sym c) (truth_flag number)

calculated_flag : (o : Op) (given : Option Num) → compares o ≡ true → Flag (calculated o given)
calculated_flag o None c = says_flag _ _
calculated_flag o (Some number) c = result_flag o number c

module _ (objects : List Object) (o : Op) (a b : Value) (c : compares o ≡ true) where
  flags_flag : (flag : Option Bool) → Flag (flags_given objects o a b flag)
  flags_flag None = chosen (is_null a || is_null b) null_error (cannot_apply objects o a b) tt (says_flag _ _)
  flags_flag (Some flag) = (flag, refl)

  numbers_flag : (x y : Option Num) → Flag (of_numbers objects o a b x y)
  numbers_flag (Some x) (Some y) = calculated_flag o (arith_of o x y) c
  numbers_flag (Some x) None = flags_flag (flags_of o a b)
  numbers_flag None y = flags_flag (flags_of o a b)

compared_flag : (objects : List Object) (o : Op) (a b : Value) → compares o ≡ true → Flag (operate objects o a b)
compared_flag objects op.Lt a b c = numbers_flag objects op.Lt a b c (number_in a) (number_in b)
compared_flag objects op.Le a b c = numbers_flag objects op.Le a b c (number_in a) (number_in b)
compared_flag objects op.Gt a b c = numbers_flag objects op.Gt a b c (number_in a) (number_in b)
compared_flag objects op.Ge a b c = numbers_flag objects op.Ge a b c (number_in a) (number_in b)
compared_flag objects op.Eq a b c = numbers_flag objects op.Eq a b c (number_in a) (number_in b)
compared_flag objects op.Ne a b c = numbers_flag objects op.Ne a b c (number_in a) (number_in b)
compared_flag objects other a b c = cc

as_boolean : (x : Effect) → LayerHas (Ty-F.Prim prim.Boolean) x → EffectHas (t.Prim prim.Boolean) x
unfolding out-Ty denote.Hole.Carrier.out
as_boolean x h = h

compared_has : (of : Ty) (store : Store) (o : Op) (a b : Value) → compares o ≡ true → t.Prim prim.Boolean ≡ of → EffectHas of (effect store (operate store.objects o a b))
compared_has of store o a b c is =
    subst (λ of. EffectHas of (effect store (operate store.objects o a b))) is
    (as_boolean (effect store (operate store.objects o a b)) (outcome_has prim.Boolean store (operate store.objects o a b) (compared_flag store.objects o a b c)))

-- ---- the other operators, which give values of any types

def_has : (value : Value) → Has t.Def value
unfolding out-Ty denote.Hole.Carrier.out
def_has value = tt

pub def_effect : (of : Ty) (x : Effect) → t.Def ≡ of → EffectHas of x
def_effect of x is = made (out-Ty of) x (λ value. subst (λ of. Has of value) is (def_has value))

given_has : (o : Op) (of : Ty) (store : Store) (a b : Value) → def_given o ≡ Some of → EffectHas of (effect store (operate store.objects o a b))
given_has op.Lt of store a b g = compared_has of store op.Lt a b refl cc
given_has op.Le of store a b g = compared_has of store op.Le a b refl cc
given_has op.Gt of store a b g = compared_has of store op.Gt a b refl cc
given_has op.Ge of store a b g = compared_has of store op.Ge a b refl cc
given_has op.Eq of store a b g = cc
given_has op.Ne of store a b g = cc
given_has other of store a b g = def_effect of _ cc

one_has : (o : Op) (ofs : List Ty) (of : Ty) (values : List Value) (store : Store) → is_unary o ≡ true → IsDefOf true ofs → HaveAll ofs values
    → ((a b : Value) → EffectHas of (effect store (operate store.objects o a b))) → OperatedHas of (of_any o values store)
one_has o [] of values store is x h f = absurd x
one_has o (p ∷ []) of [] store is x h f = absurd h
one_has o (p ∷ []) of (a ∷ []) store is x h f =
    subst (λ unary. OperatedHas of (if unary then Acts (effect store (operate store.objects o a a)) else Meaningless)) (sym is) (f a a)
one_has o (p ∷ []) of (a ∷ b ∷ values) store is x h f = absurd h.1
one_has o (p ∷ q ∷ ofs) of values store is x h f = absurd x

two_have : (o : Op) (ofs : List Ty) (of : Ty) (values : List Value) (store : Store) → is_unary o ≡ false → IsDefOf false ofs → HaveAll ofs values
    → ((a b : Value) → EffectHas of (effect store (operate store.objects o a b))) → OperatedHas of (of_any o values store)
two_have o [] of values store is x h f = absurd x
two_have o (p ∷ []) of values store is x h f = absurd x
two_have o (p ∷ q ∷ []) of [] store is x h f = absurd h
two_have o (p ∷ q ∷ []) of (a ∷ []) store is x h f = absurd h.1
two_have o (p ∷ q ∷ []) of (a ∷ b ∷ []) store is x h f =
    subst (λ unary. OperatedHas of (if unary then Meaningless else Acts (effect store (operate store.objects o a b)))) (sym is) (f a b)
two_have o (p ∷ q ∷ []) of (a ∷ b ∷ c ∷ values) store is x h f = absurd h.1.1
two_have o (p ∷ q ∷ r ∷ ofs) of values store is x h f = absurd x

pub defs_fit : (o : Op) (ofs : List Ty) (of : Ty) (values : List Value) (store : Store) → IsDefOf (is_unary o) ofs → def_given o ≡ Some of → HaveAll ofs values
    → OperatedHas of (of_any o values store)
defs_fit o ofs of values store x g h = either (is_unary o) refl x
  where
    either : (unary : Bool) → is_unary o ≡ unary → IsDefOf unary ofs → OperatedHas of (of_any o values store)
    either true is y = one_has o ofs of values store is y h (λ a b. given_has o of store a b g)
    either false is y = two_have o ofs of values store is y h (λ a b. given_has o of store a b g)
