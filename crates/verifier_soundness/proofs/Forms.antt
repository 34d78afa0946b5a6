-- What arrays, iterators and operators on values of any types give: the length of an array is an int, whether an iterator has more a truth
-- value, an element read as of a type is of it, and a comparison gives a truth value.
use Rattle.std.proofs.Common.{◌≡◌, ℤ, Bool, true, ◌||◌, Option, Some, None, refl, sym, ap, ◌∙◌, subst}
use Rattle.std.proofs.lemmas.Bool.{cond_both, false≢true}
use Rattle.pl_types.specs.declared.classes.TheConstants.{CLASS_CAST_EXCEPTION, NULL_POINTER_EXCEPTION}
use Rattle.pl_types.specs.declared.primitive.Primitive.{Primitive}
use Rattle.pl_types.specs.declared.primitive.Primitive.TheVariants as prim
use Rattle.pl_types.specs.declared.ty.Ty.{Ty, out-Ty}
use Rattle.pl_types.specs.declared.ty.Ty.TheOpen.{Ty-F}
use Rattle.pl_types.specs.declared.ty.Ty.TheVariants as ty
use Rattle.pl_types.specs.declared.ty.Ty.TheViews.{roll-Ty, roll-out-Ty}
use Rattle.object_values.specs.declared.value.Value.{Value}
use Rattle.number_ops.specs.Effects.{Effect, Gives, Throws, NoRoom}
use Rattle.number_ops.specs.Store.{Store}
use Rattle.arithmetic.specs.declared.operator.Num.{Num}
use Rattle.arithmetic.specs.declared.operator.Num.TheVariants as num
use Rattle.arithmetic.specs.declared.operator.Op.{Op}
use Rattle.arithmetic.specs.Operators.{arith_of}
use Rattle.number_ops.specs.Operators as operators
use Rattle.number_ops.specs.Operators.{compares, calculated, flags_given, flags_of, of_numbers, refused, truth_in}
use Rattle.number_ops.specs.declared.outcome.Outcome.{Outcome as NumberTold}
use Rattle.number_ops.specs.Outcomes as numbers
use Rattle.member_calls.specs.ContainerCallsTypes.{EffectGives, primitive_in}
use Rattle.code_meaning.specs.Elements.{element_read, length_of}
use Rattle.code_meaning.specs.Loops.{has_more}
use Rattle.code_meaning.proofs.Leaving.{element_read_gives, has_more_gives, length_of_gives}
use Rattle.pl_code.specs.declared.kinds.Slot.TheVariants as slot
use Rattle.instruction_types.specs.Types.{kind_of_primitive, kind_of_type}
use Rattle.code_meaning.specs.Words.{unboxed}
use Rattle.code_meaning.specs.Members.{given_as}
use Rattle.verifier_soundness.specs.Fits.{kind_of}
use Rattle.verifier_soundness.proofs.Casts.{EffectIs, divisor_is, throws_is}
use Rattle.verifier_soundness.proofs.Members.{gives_so, unboxed_is}

-- what is of a primitive type stands in a word of its kind
primitive_is : (p : Primitive) (e : Effect) → EffectGives (Some p) e → EffectIs unboxed (kind_of_primitive p) e
primitive_is p (Gives value store) h = unboxed_is p value h
primitive_is p (Throws id store) h = tt
primitive_is p NoRoom h = tt

pub length_is : (store : Store) (array : Value) → EffectIs unboxed slot.I (length_of store array)
length_is store array = primitive_is prim.Int (length_of store array) (length_of_gives store array)

pub more_is : (store : Store) (value : Value) → EffectIs unboxed slot.I (has_more store value)
more_is store value = primitive_is prim.Boolean (has_more store value) (has_more_gives store value)

prim_is : (of : Ty) (p : Primitive) → out-Ty of ≡ Ty-F.Prim p → of ≡ ty.Prim p
prim_is of p is = sym (roll-out-Ty of) ∙ ap roll-Ty is ∙ ty.rolls-Prim p

-- what is no primitive is no number
nothing_asked : (e : Effect) → EffectGives None e
nothing_asked (Gives value store) = refl
nothing_asked (Throws id store) = tt
nothing_asked NoRoom = tt

by_layer : (of : Ty) (layer : Ty-F Ty) (store : Store) (array : Value) (at : ℤ) → out-Ty of ≡ layer → EffectGives (primitive_in layer) (element_read store of array at)
by_layer of Ty-F.Void store array at is = nothing_asked (element_read store of array at)
by_layer of Ty-F.Null store array at is = nothing_asked (element_read store of array at)
by_layer of Ty-F.Def store array at is = nothing_asked (element_read store of array at)
by_layer of (Ty-F.Prim p) store array at is = subst (λ of. EffectGives (Some p) (element_read store of array at)) (sym (prim_is of p is)) (element_read_gives store p array at)
by_layer of (Ty-F.Class class) store array at is = nothing_asked (element_read store of array at)
by_layer of (Ty-F.Array elem) store array at is = nothing_asked (element_read store of array at)

pub element_is : (of : Ty) (store : Store) (array : Value) (at : ℤ) → EffectIs (given_as of) (kind_of_type of) (element_read store of array at)
element_is of store array at = gives_so of (element_read store of array at) (by_layer of (out-Ty of) store array at refl)

-- ---- comparisons

truth_is : (number : Num) → kind_of (unboxed (truth_in number)) ≡ slot.I
truth_is (num.Int number) = refl
truth_is (num.Long number) = refl

module _ (store : Store) (op : Op) (compared : compares op ≡ true) where
  abbrev GivesTruth : NumberTold → Type 0
  GivesTruth told = EffectIs unboxed slot.I (numbers.effect store told)

  calculated_is : (number : Option Num) → GivesTruth (calculated op number)
  calculated_is None = divisor_is unboxed slot.I store
  calculated_is (Some number) =
      cond_both (compares op) _ _ (λ value. kind_of (unboxed value) ≡ slot.I) (λ _. truth_is number) (λ no. absurd (false≢true (sym no ∙ compared)))

  not_taken_is : (a b : Value) → GivesTruth (refused store.objects op a b)
  unfolding numbers.says
  not_taken_is a b =
      cond_both (operators.is_null a || operators.is_null b) _ _ GivesTruth (λ _. throws_is unboxed slot.I store NULL_POINTER_EXCEPTION None) (λ _. throws_is unboxed slot.I store CLASS_CAST_EXCEPTION _)

  flags_are : (a b : Value) (flag : Option Bool) → GivesTruth (flags_given store.objects op a b flag)
  flags_are a b None = not_taken_is a b
  flags_are a b (Some flag) = refl

  pub comparison_is : (a b : Value) (left right : Option Num) → GivesTruth (of_numbers store.objects op a b left right)
  comparison_is a b (Some left) (Some right) = calculated_is (arith_of op left right)
  comparison_is a b (Some left) None = flags_are a b (flags_of op a b)
  comparison_is a b None right = flags_are a b (flags_of op a b)
