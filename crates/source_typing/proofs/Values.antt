-- Values of names, and values that are given at once, are of their types; and they stay so as objects are added.
use Rattle.std.proofs.Common.{◌≡◌, ℕ, Bool, true, false, List, [], ◌∷◌, ◌++◌, length, Option, Some, None, refl, sym, ap, subst}
use Rattle.std.specs.Prelude.{slice_get, if◌then◌else◌}
use Rattle.std.specs.Str.{bytes_eq}
use Rattle.pl_types.specs.declared.primitive.Primitive.{Primitive}
use Rattle.pl_types.specs.declared.primitive.Primitive.TheVariants as prim
use Rattle.pl_types.specs.declared.ty.Ty.{Ty, out-Ty}
use Rattle.pl_types.specs.declared.ty.Ty.TheVariants as t
use Rattle.pl_types.specs.declared.ty.Ty.TheOpen.{Ty-F}
use Rattle.object_values.specs.declared.object.Object.{Object}
use Rattle.object_values.specs.declared.value.Value.{Value}
use Rattle.object_values.specs.declared.value.Value.TheVariants as v
use Rattle.object_heap.specs.Fits.{kinds, passes, kind_is_of, is_primitive, AllFit}
use Rattle.object_heap.specs.Objects.{Kind}
use Rattle.typed_tree.specs.declared.operation.Constant.{Constant}
use Rattle.typed_tree.specs.declared.operation.Constant.TheVariants as constant
use Rattle.typed_tree.specs.declared.operation.Gives.{Gives as Given_by}
use Rattle.typed_tree.specs.declared.operation.Gives.TheVariants as gives
use Rattle.value_typing.specs.ContainerCallsLaws.{StillThere}
use Rattle.value_typing.proofs.Leaving.{there_count}
use Rattle.value_typing.proofs.Values.{value_grows}
use Rattle.source_fit.specs.Tree.{Name, Variable}
use Rattle.source_fit.specs.Operating.{value_of}
use Rattle.value_typing.specs.Types.{default_of, default_of_layer}
use Rattle.source_fit.specs.Meaning.{Env, Flow, Normal, Broke, Continued, Returned, lookup, assigned, older, entry, given_by, returned}
use Rattle.source_fit.proofs.Values.{constant_fits, default_fits}
use Rattle.program_typing.specs.Types.{is_reference_layer, IsOf, string}
use Rattle.program_typing.specs.Agreeing.{Scope, IsVariable, variable_of, types_in, scope_of, is_primitive_layer}
use Rattle.value_typing.specs.Laws.{takes_null_layer}
use Rattle.value_typing.specs.Typing.{is_typed_layer, is_typed, are_typed}
use Rattle.value_typing.proofs.Typing.{types_stay, null_is_typed}
use Rattle.value_typing.proofs.Casts.{string_layer}
use Rattle.std.proofs.lemmas.Bool.{and_from}
use Rattle.source_typing.specs.Outs.{IsTyped, AreTyped, EnvTyped, FlowTyped}

-- ---- as objects are added

pub typed_grows : (start after : List Object) → StillThere start after → (of : Ty) (value : Value) → IsTyped start of value → IsTyped after of value
typed_grows start after there of value h =
    record { there = value_grows (length start) (length after) (there_count start after there) value h.there; is = types_stay start after of value there h.is }

pub all_grow : (start after : List Object) → StillThere start after → (ofs : List Ty) (values : List Value) → AreTyped start ofs values → AreTyped after ofs values
all_grow start after there [] [] h = tt
all_grow start after there [] (value ∷ values) h = absurd h
all_grow start after there (of ∷ ofs) [] h = absurd h
all_grow start after there (of ∷ ofs) (value ∷ values) h = (typed_grows start after there of value h.0, all_grow start after there ofs values h.1)

pub env_grows : (start after : List Object) → StillThere start after → (g : Scope) (e : Env) → EnvTyped start g e → EnvTyped after g e
env_grows start after there [] [] h = tt
env_grows start after there [] (b ∷ e) h = absurd h
env_grows start after there (y ∷ g) [] h = absurd h
env_grows start after there (y ∷ g) (b ∷ e) h = (h.0, typed_grows start after there y.of b.value h.1, env_grows start after there g e h.2)

-- ---- all of them

pub all_there : (objects : List Object) (ofs : List Ty) (values : List Value) → AreTyped objects ofs values → AllFit (length objects) values
all_there objects [] [] h = tt
all_there objects [] (value ∷ values) h = absurd h
all_there objects (of ∷ ofs) [] h = absurd h
all_there objects (of ∷ ofs) (value ∷ values) h = (h.0.there, all_there objects ofs values h.1)

pub all_are : (objects : List Object) (ofs : List Ty) (values : List Value) → AreTyped objects ofs values → are_typed objects ofs values ≡ true
all_are objects [] [] h = refl
all_are objects [] (value ∷ values) h = absurd h
all_are objects (of ∷ ofs) [] h = absurd h
all_are objects (of ∷ ofs) (value ∷ values) h = and_from _ _ h.0.is (all_are objects ofs values h.1)

-- a value behind others
pub typed_behind : (objects : List Object) (ofs : List Ty) (of : Ty) (values : List Value) (value : Value) → AreTyped objects ofs values → IsTyped objects of value
    → AreTyped objects (ofs ++ of ∷ []) (values ++ value ∷ [])
typed_behind objects [] of [] value h g = (g, tt)
typed_behind objects [] of (other ∷ values) value h g = absurd h
typed_behind objects (first ∷ ofs) of [] value h g = absurd h
typed_behind objects (first ∷ ofs) of (other ∷ values) value h g = (h.0, typed_behind objects ofs of values value h.1 g)

-- ---- names

-- what may be there is of a type
abbrev pub MadeTyped : List Object → Ty → Option Value → Type 0
MadeTyped objects of None = Unit {0}
MadeTyped objects of (Some value) = IsTyped objects of value

looks_up : (objects : List Object) (g : Scope) (e : Env) (x : Name) (y : Variable) → variable_of g x ≡ Some y → EnvTyped objects g e → MadeTyped objects y.of (lookup e x)
looks_up objects [] e x y is h = cc
looks_up objects (z ∷ g) [] x y is h = absurd h
looks_up objects (z ∷ g) (b ∷ e) x y is h = pick (λ is. looks_up objects g e x y is h.2) (bytes_eq x z.name) (bytes_eq x b.name) (ap (bytes_eq x) (sym h.0)) is
  where
    pick : (variable_of g x ≡ Some y → MadeTyped objects y.of (lookup e x)) → (c d : Bool) → c ≡ d → (if c then Some z else variable_of g x) ≡ Some y
        → MadeTyped objects y.of (if d then Some b.value else lookup e x)
    pick older true true q is = let same : z ≡ y = cc in subst (λ (y : Variable). IsTyped objects y.of b.value) same h.1
    pick older false false q is = older is
    pick older true false q is = cc
    pick older false true q is = cc

pub lookup_typed : (objects : List Object) (g : Scope) (e : Env) (x : Name) (of : Ty) → IsVariable g x of → EnvTyped objects g e → MadeTyped objects of (lookup e x)
lookup_typed objects g e x of is h = subst (λ of. MadeTyped objects of (lookup e x)) (sym is.has) (looks_up objects g e x is.variable is.is h)

writes : (objects : List Object) (g : Scope) (e : Env) (x : Name) (y : Variable) (value : Value) → variable_of g x ≡ Some y → IsTyped objects y.of value → EnvTyped objects g e
    → EnvTyped objects g (assigned e x value)
writes objects [] e x y value is has h = cc
writes objects (z ∷ g) [] x y value is has h = absurd h
writes objects (z ∷ g) (b ∷ e) x y value is has h = pick (λ is. writes objects g e x y value is has h.2) (bytes_eq x z.name) (bytes_eq x b.name) (ap (bytes_eq x) (sym h.0)) is
  where
    pick : (variable_of g x ≡ Some y → EnvTyped objects g (assigned e x value)) → (c d : Bool) → c ≡ d → (if c then Some z else variable_of g x) ≡ Some y
        → EnvTyped objects (z ∷ g) (if d then (record { name = b.name; value = value } ∷ e) else (b ∷ assigned e x value))
    pick deeper true true q is = let same : y ≡ z = cc in (h.0, subst (λ (y : Variable). IsTyped objects y.of value) same has, h.2)
    pick deeper false false q is = (h.0, h.1, deeper is)
    pick deeper true false q is = cc
    pick deeper false true q is = cc

pub assigned_typed : (objects : List Object) (g : Scope) (e : Env) (x : Name) (of : Ty) (value : Value) → IsVariable g x of → IsTyped objects of value → EnvTyped objects g e
    → EnvTyped objects g (assigned e x value)
assigned_typed objects g e x of value is has h = writes objects g e x is.variable value is.is (subst (λ of. IsTyped objects of value) is.has has) h

pub older_typed : (objects : List Object) (y : Variable) (g : Scope) (e : Env) → EnvTyped objects (y ∷ g) e → EnvTyped objects g (older e)
older_typed objects y g [] h = absurd h
older_typed objects y g (b ∷ e) h = h.2

-- what a function begins with, where there is a value for each parameter
abbrev pub EntryTyped : List Object → Scope → Option Env → Type 0
EntryTyped objects g None = Unit {0}
EntryTyped objects g (Some e) = EnvTyped objects g e

pub entry_typed : (objects : List Object) (xs : List Variable) (values : List Value) (g : Scope) (e : Env) → AreTyped objects (types_in xs) values → EnvTyped objects g e
    → EntryTyped objects (scope_of xs g) (entry xs values e)
entry_typed objects [] [] g e h b = b
entry_typed objects [] (value ∷ values) g e h b = tt
entry_typed objects (x ∷ xs) [] g e h b = tt
entry_typed objects (x ∷ xs) (value ∷ values) g e h b = entry_typed objects xs values (x ∷ g) (record { name = x.name; value = value } ∷ e) h.1 (refl, h.0, b)

-- an object of a class is of it as a value
pub object_typed : (objects : List Object) (class id : ℕ) → passes (kind_is_of class) (slice_get (kinds objects) id) ≡ true → is_typed objects (t.Class class) (v.Ref id) ≡ true
unfolding out-Ty denote.Hole.Carrier.out
object_typed objects class id h = h

-- ---- values that are given at once

pub primitive_typed : (objects : List Object) (p : Primitive) (value : Value) → is_primitive p value ≡ true → is_typed objects (t.Prim p) value ≡ true
unfolding out-Ty denote.Hole.Carrier.out
primitive_typed objects p value h = h

reference_takes_null : (l : Ty-F Ty) → is_reference_layer l → takes_null_layer l ≡ true
reference_takes_null Ty-F.Void h = absurd h
reference_takes_null Ty-F.Null h = refl
reference_takes_null Ty-F.Def h = refl
reference_takes_null (Ty-F.Prim p) h = absurd h
reference_takes_null (Ty-F.Class class) h = refl
reference_takes_null (Ty-F.Array elem) h = refl

whole_takes_null : (l : Ty-F Ty) → is_primitive_layer l ≡ false → takes_null_layer l ≡ true
whole_takes_null Ty-F.Void h = refl
whole_takes_null Ty-F.Null h = refl
whole_takes_null Ty-F.Def h = refl
whole_takes_null (Ty-F.Prim p) h = cc
whole_takes_null (Ty-F.Class class) h = refl
whole_takes_null (Ty-F.Array elem) h = refl

-- null is of each type that is no primitive
pub null_typed : (objects : List Object) (of : Ty) → is_primitive_layer (out-Ty of) ≡ false → IsTyped objects of v.Null
null_typed objects of h = record { there = tt; is = null_is_typed objects of (whole_takes_null (out-Ty of) h) }

-- a value of a primitive type, of a type that is this one
pub of_primitive : (objects : List Object) (of : Ty) (p : Primitive) (value : Value) → of ≡ t.Prim p → is_primitive p value ≡ true → is_typed objects of value ≡ true
of_primitive objects of p value e h = subst (λ of. is_typed objects of value ≡ true) (sym e) (primitive_typed objects p value h)

constant_is : (objects : List Object) (c : Constant) (of : Ty) → IsOf c of → is_typed objects of (value_of c) ≡ true
constant_is objects constant.Null of x = null_is_typed objects of (reference_takes_null (out-Ty of) x)
constant_is objects (constant.Boolean a) of x = of_primitive objects of prim.Boolean (v.Bool a) x refl
constant_is objects (constant.Byte a) of x = of_primitive objects of prim.Byte (v.Byte a) x refl
constant_is objects (constant.Short a) of x = of_primitive objects of prim.Short (v.Short a) x refl
constant_is objects (constant.Char a) of x = of_primitive objects of prim.Char (v.Char a) x refl
constant_is objects (constant.Int a) of x = of_primitive objects of prim.Int (v.Int a) x refl
constant_is objects (constant.Long a) of x = of_primitive objects of prim.Long (v.Long a) x refl

pub constant_typed : (objects : List Object) (c : Constant) (of : Ty) → IsOf c of → IsTyped objects of (value_of c)
constant_typed objects c of x = record { there = constant_fits (length objects) c; is = constant_is objects c of x }

pub text_typed : (objects : List Object) (of : Ty) (text : List ℕ) → of ≡ string → IsTyped objects of (v.Str text)
text_typed objects of text x = record { there = tt; is = subst (λ of. is_typed objects of (v.Str text) ≡ true) (sym x) (string_layer (kinds objects) text) }

pub flag_typed : (objects : List Object) (of : Ty) (flag : Bool) → of ≡ t.Prim prim.Boolean → IsTyped objects of (v.Bool flag)
flag_typed objects of flag x = record { there = tt; is = of_primitive objects of prim.Boolean (v.Bool flag) x refl }

default_is : (ks : List Kind) (l : Ty-F Ty) → is_typed_layer ks l (default_of_layer l) ≡ true
default_is ks Ty-F.Void = refl
default_is ks Ty-F.Null = refl
default_is ks Ty-F.Def = refl
default_is ks (Ty-F.Prim prim.Boolean) = refl
default_is ks (Ty-F.Prim prim.Byte) = refl
default_is ks (Ty-F.Prim prim.Short) = refl
default_is ks (Ty-F.Prim prim.Char) = refl
default_is ks (Ty-F.Prim prim.Int) = refl
default_is ks (Ty-F.Prim prim.Long) = refl
default_is ks (Ty-F.Class class) = refl
default_is ks (Ty-F.Array elem) = refl

pub default_typed : (objects : List Object) (of : Ty) → IsTyped objects of (default_of of)
default_typed objects of = record { there = default_fits (length objects) of; is = default_is (kinds objects) (out-Ty of) }

void_null : (objects : List Object) → is_typed objects t.Void v.Null ≡ true
unfolding out-Ty denote.Hole.Carrier.out
void_null objects = refl

-- what a `return` without a value gives
pub nothing_typed : (objects : List Object) (of : Ty) → of ≡ t.Void → IsTyped objects of v.Null
nothing_typed objects of x = record { there = tt; is = subst (λ of. is_typed objects of v.Null ≡ true) (sym x) (void_null objects) }

pub returned_typed : (objects : List Object) (of : Ty) (flow : Flow) → FlowTyped of objects flow → MadeTyped objects of (returned of flow)
returned_typed objects of Normal h = default_typed objects of
returned_typed objects of Broke h = tt
returned_typed objects of Continued h = tt
returned_typed objects of (Returned value) h = h

pub given_by_typed : (objects : List Object) (given : Given_by) (of : Ty) (old new : Value) → IsTyped objects of old → IsTyped objects of new → IsTyped objects of (given_by given old new)
given_by_typed objects gives.Old of old new h g = h
given_by_typed objects gives.New of old new h g = g
