-- Values go on naming objects that are there as objects are added; values that may have been made; and what is so of each primitive type.
use Rattle.std.proofs.Common.{ℕ, ◌≤◌, List, [], ◌∷◌, Option, Some, None, arith}
use Rattle.pl_types.specs.declared.primitive.Primitive.{Primitive}
use Rattle.pl_types.specs.declared.primitive.Primitive.TheVariants as prim
use Rattle.object_values.specs.declared.value.Value.{Value}
use Rattle.object_values.specs.declared.value.Value.TheVariants as v
use Rattle.object_heap.specs.Fits.{ValueFits, AllFit}

pub value_grows : (n m : ℕ) → n ≤ m → (value : Value) → ValueFits n value → ValueFits m value
value_grows n m h v.Null f = tt
value_grows n m h (v.Bool a) f = tt
value_grows n m h (v.Byte a) f = tt
value_grows n m h (v.Short a) f = tt
value_grows n m h (v.Char a) f = tt
value_grows n m h (v.Int a) f = tt
value_grows n m h (v.Long a) f = tt
value_grows n m h (v.Str a) f = tt
value_grows n m h (v.Ref id) f = omega (arith, h, f)

pub values_grow : (n m : ℕ) → n ≤ m → (values : List Value) → AllFit n values → AllFit m values
values_grow n m h [] f = tt
values_grow n m h (value ∷ values) f = (value_grows n m h value f.0, values_grow n m h values f.1)

-- what may have been made fits
abbrev pub MadeFits : ℕ → Option Value → Type 0
MadeFits n None = Unit {0}
MadeFits n (Some value) = ValueFits n value

abbrev pub AllMadeFit : ℕ → Option (List Value) → Type 0
AllMadeFit n None = Unit {0}
AllMadeFit n (Some values) = AllFit n values

pub by_primitive : (P : Primitive → Type 0) → P prim.Boolean → P prim.Byte → P prim.Short → P prim.Char → P prim.Int → P prim.Long → (p : Primitive) → P p
by_primitive P a b c d e f prim.Boolean = a
by_primitive P a b c d e f prim.Byte = b
by_primitive P a b c d e f prim.Short = c
by_primitive P a b c d e f prim.Char = d
by_primitive P a b c d e f prim.Int = e
by_primitive P a b c d e f prim.Long = f
