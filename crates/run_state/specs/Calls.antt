-- What is tested of a member's call before it is paid: that the receiver and the arguments are of the classes that the member names.
-- Both meanings make this one test. Where it fails, ClassCastException is thrown.
use Rattle.std.specs.Prelude.{◌&&◌, ◌||◌, Bool, true, false, not, ℕ, None, List, [], ◌∷◌}
use Rattle.pl_types.specs.declared.ty.Ty.{Ty, out-Ty}
use Rattle.pl_types.specs.declared.ty.Ty.TheVariants as ty
use Rattle.pl_types.specs.declared.ty.Ty.TheOpen.{Ty-F}
use Rattle.allowlist.specs.declared.member.MemberKind.{MemberKind}
use Rattle.allowlist.specs.declared.member.MemberKind.TheVariants as kind
use Rattle.allowlist.specs.declared.member.MemberType.{MemberType}
use Rattle.object_values.specs.declared.object.Object.{Object}
use Rattle.object_values.specs.declared.value.Value.{Value}
use Rattle.number_ops.specs.declared.outcome.Outcome.{Outcome}
use Rattle.number_ops.specs.declared.outcome.Outcome.TheVariants as outcome
use Rattle.number_ops.specs.declared.outcome.Raised.TheVariants.{ClassCast}
use Rattle.number_ops.specs.Operators.{is_null}
use Rattle.number_ops.specs.Relations.{is_instance}

-- A parameter asks for instances of its type where that is a class or an array type. A number that goes to a primitive one is in its
-- box already, and def takes every value.
abbrev pub asks_layer : Ty-F Ty → Bool
asks_layer (Ty-F.Class class) = true
asks_layer (Ty-F.Array elem) = true
asks_layer other = false

-- an argument of such a parameter is null or an instance of its type
abbrev pub argument_suits : List Object → Ty → Value → Bool
argument_suits objects of value = not (asks_layer (out-Ty of)) || is_null value || is_instance objects value of

abbrev pub arguments_suit : List Object → List Ty → List Value → Bool
arguments_suit objects (of ∷ ofs) (value ∷ values) = argument_suits objects of value && arguments_suit objects ofs values
arguments_suit objects ofs values = true

-- The receiver, which comes first, is an instance of the class that has the member. (One that is null throws before this is asked.)
abbrev pub suits_by : MemberKind → ℕ → List Ty → List Object → List Value → Bool
suits_by kind.Instance owner params objects (receiver ∷ values) = is_instance objects receiver (ty.Class owner) && arguments_suit objects params values
suits_by kind.Instance owner params objects [] = true
suits_by kind.Static owner params objects values = arguments_suit objects params values
suits_by kind.Constructor owner params objects values = arguments_suit objects params values
suits_by kind.Field owner params objects values = arguments_suit objects params values

-- whether a member may be called with these values
unfoldable pub suits_member : List Object → MemberType → List Value → Bool
suits_member objects m values = suits_by m.kind m.owner m.params objects values

-- what a call comes to whose values do not suit
abbrev pub wrong_class : Outcome
wrong_class = outcome.Throws ClassCast None
