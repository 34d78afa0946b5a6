-- A comparison at run time gives a truth value, and so does `==`.
use Rattle.std.proofs.Common.{◌≡◌, ◌||◌, Bool, true, false, Option, Some, None, List, refl, sym, subst}
use Rattle.std.specs.Prelude.{if◌then◌else◌}
use Rattle.pl_types.specs.declared.primitive.Primitive.TheVariants as prim
use Rattle.pl_types.specs.declared.ty.Ty.{out-Ty}
use Rattle.pl_types.specs.declared.ty.Ty.TheVariants as ty
use Rattle.pl_types.specs.declared.ty.Ty.TheOpen.{Ty-F}
use Rattle.object_values.specs.declared.object.Object.{Object}
use Rattle.object_values.specs.declared.value.Value.{Value}
use Rattle.object_heap.specs.Fits.{kinds, is_primitive}
use Rattle.object_heap.specs.Objects.{Kind}
use Rattle.value_walks.specs.declared.TheConstants.{VISITS}
use Rattle.value_walks.specs.declared.equality.Walked.{Walked}
use Rattle.value_walks.specs.declared.equality.Walked.TheVariants.{On, Deep, Large}
use Rattle.value_walks.specs.Equality.{equal_of}
use Rattle.number_ops.specs.arithmetic_declared.operator.Num.{Num}
use Rattle.number_ops.specs.arithmetic_declared.operator.Num.TheVariants as num
use Rattle.number_ops.specs.arithmetic_declared.operator.Op.{Op}
use Rattle.number_ops.specs.arithmetic_declared.operator.Op.TheVariants as op
use Rattle.run_fit.specs.Operators.{arith_of}
use Rattle.number_ops.specs.declared.outcome.Outcome.{Outcome as Told}
use Rattle.number_ops.specs.Names.{cannot_apply}
use Rattle.number_ops.specs.Operators.{number_in, is_null, truth_in, boxed, compares, of_result, calculated, flags_given, flags_of, of_numbers, operate}
use Rattle.number_ops.specs.Order.{found_of}
use Rattle.number_ops.specs.Outcomes.{effect, null_error}
use Rattle.number_ops.specs.Relations.{equal, equal_if}
use Rattle.value_typing.specs.Laws.{ComparisonsGiveFlags, EqualityGivesTypes}
use Rattle.value_typing.proofs.Casts.{says_typed}
use Rattle.value_typing.proofs.Effects.{in_world, ToldTyped, settled}

abbrev Flag : List Kind → Told → Type 0
Flag ks x = ToldTyped ks (Ty-F.Prim prim.Boolean) x

chosen : (ks : List Kind) (test : Bool) (x y : Told) → Flag ks x → Flag ks y → Flag ks (if test then x else y)
chosen ks true x y h g = h
chosen ks false x y h g = g

truth_is : (number : Num) → is_primitive prim.Boolean (truth_in number) ≡ true
truth_is (num.Int a) = refl
truth_is (num.Long a) = refl

result_is : (o : Op) (number : Num) → compares o ≡ true → is_primitive prim.Boolean (of_result o number) ≡ true
result_is o number c = subst (λ test. is_primitive prim.Boolean (if test then truth_in number else boxed number) ≡ true) (sym c) (truth_is number)

calculated_told : (ks : List Kind) (o : Op) (given : Option Num) → compares o ≡ true → Flag ks (calculated o given)
calculated_told ks o None c = says_typed ks (Ty-F.Prim prim.Boolean) _ _
calculated_told ks o (Some number) c = result_is o number c

module _ (objects : List Object) (o : Op) (a b : Value) (c : compares o ≡ true) where
  flags_told : (flag : Option Bool) → Flag (kinds objects) (flags_given objects o a b flag)
  flags_told None = chosen (kinds objects) (is_null a || is_null b) null_error (cannot_apply objects o a b) tt (says_typed (kinds objects) (Ty-F.Prim prim.Boolean) _ _)
  flags_told (Some flag) = refl

  numbers_told : (x y : Option Num) → Flag (kinds objects) (of_numbers objects o a b x y)
  numbers_told (Some x) (Some y) = calculated_told (kinds objects) o (arith_of o x y) c
  numbers_told (Some x) None = flags_told (flags_of o a b)
  numbers_told None y = flags_told (flags_of o a b)

compared_told : (objects : List Object) (o : Op) (a b : Value) → compares o ≡ true → Flag (kinds objects) (operate objects o a b)
compared_told objects op.Lt a b c = numbers_told objects op.Lt a b c (number_in a) (number_in b)
compared_told objects op.Le a b c = numbers_told objects op.Le a b c (number_in a) (number_in b)
compared_told objects op.Gt a b c = numbers_told objects op.Gt a b c (number_in a) (number_in b)
compared_told objects op.Ge a b c = numbers_told objects op.Ge a b c (number_in a) (number_in b)
compared_told objects op.Eq a b c = numbers_told objects op.Eq a b c (number_in a) (number_in b)
compared_told objects op.Ne a b c = numbers_told objects op.Ne a b c (number_in a) (number_in b)
compared_told objects other a b c = cc

found_told : (ks : List Kind) (walk : Walked) → Flag ks (found_of walk)
found_told ks (On same visits) = refl
found_told ks Deep = says_typed ks (Ty-F.Prim prim.Boolean) _ _
found_told ks Large = says_typed ks (Ty-F.Prim prim.Boolean) _ _

equal_told : (objects : List Object) (a b : Value) → Flag (kinds objects) (equal objects a b)
unfolding equal
equal_told objects a b = either (number_in a) (number_in b)
  where
    either : (x y : Option Num) → Flag (kinds objects) (equal_if objects a b x y)
    either (Some x) (Some y) = refl
    either (Some x) None = found_told (kinds objects) (equal_of objects a b VISITS)
    either None y = found_told (kinds objects) (equal_of objects a b VISITS)

-- a truth value as the type has it
as_boolean : (ks : List Kind) (x : Told) → Flag ks x → ToldTyped ks (out-Ty (ty.Prim prim.Boolean)) x
unfolding out-Ty denote.Hole.Carrier.out
as_boolean ks x h = h

pub comparisons_give_flags : ComparisonsGiveFlags
comparisons_give_flags w o a b c =
    in_world (ty.Prim prim.Boolean) w (effect w.store (operate w.store.objects o a b))
    (settled (out-Ty (ty.Prim prim.Boolean)) w.store (operate w.store.objects o a b) (as_boolean (kinds w.store.objects) (operate w.store.objects o a b) (compared_told w.store.objects o a b c)))

pub equality_gives_types : EqualityGivesTypes
equality_gives_types w a b =
    in_world (ty.Prim prim.Boolean) w (effect w.store (equal w.store.objects a b))
    (settled (out-Ty (ty.Prim prim.Boolean)) w.store (equal w.store.objects a b) (as_boolean (kinds w.store.objects) (equal w.store.objects a b) (equal_told w.store.objects a b)))
