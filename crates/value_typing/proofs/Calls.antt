-- Values of the types that a member takes pass the test of its call.
use Rattle.std.proofs.Common.{◌≡◌, ℕ, ◌&&◌, ◌||◌, Bool, true, false, List, [], ◌∷◌, refl, ap, ◌∙◌}
use Rattle.std.specs.Prelude.{not}
use Rattle.std.proofs.lemmas.Bool.{and_parts, and_from}
use Rattle.pl_types.specs.declared.ty.Ty.{Ty, out-Ty}
use Rattle.pl_types.specs.declared.ty.Ty.TheVariants as ty
use Rattle.pl_types.specs.declared.ty.Ty.TheOpen.{Ty-F}
use Rattle.allowlist.specs.declared.member.MemberKind.{MemberKind}
use Rattle.allowlist.specs.declared.member.MemberKind.TheVariants as kind
use Rattle.object_values.specs.declared.object.Object.{Object}
use Rattle.object_values.specs.declared.value.Value.{Value}
use Rattle.object_heap.specs.Fits.{kinds, has_layer, has_type}
use Rattle.number_ops.specs.Operators.{is_null}
use Rattle.number_ops.specs.Relations.{is_instance}
use Rattle.run_fit.specs.Calls.{asks_layer, argument_suits, arguments_suit, suits_by, suits_member}
use Rattle.value_typing.specs.Laws.{TypedCallsPass}
use Rattle.value_typing.specs.Typing.{is_typed_layer, is_typed, are_typed, takes_typed_by}

null_or : (null is : Bool) → is ≡ true → (null || (not null && is)) ≡ true
null_or true is h = refl
null_or false is h = h

layer_suits : (objects : List Object) (of : Ty) (value : Value) (l : Ty-F Ty) → out-Ty of ≡ l → is_typed_layer (kinds objects) l value ≡ true
    → (not (asks_layer l) || is_null value || is_instance objects value of) ≡ true
unfolding is_instance
layer_suits objects of value Ty-F.Void e h = refl
layer_suits objects of value Ty-F.Null e h = refl
layer_suits objects of value Ty-F.Def e h = refl
layer_suits objects of value (Ty-F.Prim p) e h = refl
layer_suits objects of value (Ty-F.Class class) e h =
    null_or (is_null value) (has_layer (kinds objects) (out-Ty of) value) (ap (λ l. has_layer (kinds objects) l value) e ∙ h)
layer_suits objects of value (Ty-F.Array elem) e h =
    null_or (is_null value) (has_layer (kinds objects) (out-Ty of) value) (ap (λ l. has_layer (kinds objects) l value) e ∙ h)

all_suit : (objects : List Object) (ofs : List Ty) (values : List Value) → are_typed objects ofs values ≡ true → arguments_suit objects ofs values ≡ true
all_suit objects [] [] h = refl
all_suit objects [] (value ∷ values) h = refl
all_suit objects (of ∷ ofs) [] h = refl
all_suit objects (of ∷ ofs) (value ∷ values) h =
    let both = and_parts (is_typed objects of value) (are_typed objects ofs values) h in
    and_from (argument_suits objects of value) (arguments_suit objects ofs values) (layer_suits objects of value (out-Ty of) refl both.0) (all_suit objects ofs values both.1)

receiver_suits : (objects : List Object) (owner : ℕ) (receiver : Value) → not (is_null receiver) ≡ true → is_typed objects (ty.Class owner) receiver ≡ true
    → is_instance objects receiver (ty.Class owner) ≡ true
unfolding is_instance out-Ty denote.Hole.Carrier.out
receiver_suits objects owner receiver there h = and_from (not (is_null receiver)) (has_type (kinds objects) (ty.Class owner) receiver) there h

sort_suits : (sort : MemberKind) (owner : ℕ) (objects : List Object) (params : List Ty) (values : List Value) → takes_typed_by sort owner objects params values ≡ true
    → suits_by sort owner params objects values ≡ true
sort_suits kind.Instance owner objects params [] h = refl
sort_suits kind.Instance owner objects params (receiver ∷ values) h =
    let there = and_parts (not (is_null receiver)) (is_typed objects (ty.Class owner) receiver && are_typed objects params values) h in
    let both = and_parts (is_typed objects (ty.Class owner) receiver) (are_typed objects params values) there.1 in
    and_from (is_instance objects receiver (ty.Class owner)) (arguments_suit objects params values) (receiver_suits objects owner receiver there.0 both.0) (all_suit objects params values both.1)
sort_suits kind.Static owner objects params values h = all_suit objects params values h
sort_suits kind.Constructor owner objects params values h = all_suit objects params values h
sort_suits kind.Field owner objects params values h = all_suit objects params values h

pub typed_calls_pass : TypedCallsPass
unfolding suits_member
typed_calls_pass objects m values h = sort_suits m.kind m.owner objects m.params values h
