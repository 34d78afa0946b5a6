-- What instructions name.
use Rattle.std.proofs.Common.{◌≡◌, ℕ, List, Option, Some, None, option_map, refl, ap, ◌∙◌}
use Rattle.allowlist.specs.Allow.{AllowList}
use Rattle.pl_types.specs.declared.ty.Ty.{Ty}
use Rattle.pl_types.specs.Texts.{type_of_full}
use Rattle.pl_units.specs.Utf16.{units}
use Rattle.instruction_types.specs.Members.{method_of, constructor_of, field_of}
use Rattle.pl_code.specs.declared.code.Instruction.{Instruction}
use Rattle.pl_code.specs.declared.code.Instruction.TheVariants as i
use Rattle.pl_code.specs.declared.kinds.Quoting.{Quoting}
use Rattle.pl_code.specs.declared.kinds.Sized.{Sized}
use Rattle.pl_code.specs.declared.kinds.Typed.{Typed}
use Rattle.pl_code.specs.declared.kinds.Way.{Way}
use Rattle.object_values.specs.declared.object.Owner.{Owner}
use Rattle.object_values.specs.declared.object.Owner.TheVariants.{Script, Prelude}
use Rattle.run_state.specs.World.{allowed_in, limits_over}
use Rattle.code_meaning.specs.Machine.{Frame}
use Rattle.machine_parts.specs.Code.{Executable, ground_in, text_of}
use Rattle.machine_parts.specs.Links.{instruction_at, link_at, link_of, type_link, member_link, type_in, linked_member, text_in, methods_in, methods_of}

type_linked : (o : Option Ty) → type_in (Some (type_link o)) ≡ o
type_linked None = refl
type_linked (Some of) = refl

member_linked : (o : Option ℕ) → linked_member (Some (member_link o)) ≡ o
member_linked None = refl
member_linked (Some number) = refl

-- the members that a text may call in a run are those of its list
pub allows : (e : Executable) (loop depth : ℕ) (text : Owner) → allowed_in (limits_over loop depth (ground_in e)) text ≡ (text_of e text).allow
allows e loop depth Script = refl
allows e loop depth Prelude = refl

-- at an instruction of the code
module _ (e : Executable) (line : Instruction) (f : Frame) (there : instruction_at e f ≡ Some line) where
  -- the members that its text may call
  abbrev list : AllowList
  list = (text_of e f.text).allow

  names : (it : Instruction) → line ≡ it → link_at e f ≡ Some (link_of list it)
  names it is = ap (option_map (link_of list)) (there ∙ ap Some is)

  pub typed_names : (kind : Typed) (of : List ℕ) → line ≡ i.Typed kind of → type_in (link_at e f) ≡ type_of_full of
  unfolding link_of
  typed_names kind of is = ap type_in (names (i.Typed kind of) is) ∙ type_linked (type_of_full of)

  pub sized_names : (kind : Sized) (of : List ℕ) (n : ℕ) → line ≡ i.Sized kind of n → type_in (link_at e f) ≡ type_of_full of
  unfolding link_of
  sized_names kind of n is = ap type_in (names (i.Sized kind of n) is) ∙ type_linked (type_of_full of)

  pub cast_names : (to : List ℕ) (way : Way) → line ≡ i.Cast to way → type_in (link_at e f) ≡ type_of_full to
  unfolding link_of
  cast_names to way is = ap type_in (names (i.Cast to way) is) ∙ type_linked (type_of_full to)

  pub method_names : (method : List ℕ) → line ≡ i.Invoke method → linked_member (link_at e f) ≡ method_of (text_of e f.text).allow method
  unfolding link_of
  method_names method is = ap linked_member (names (i.Invoke method) is) ∙ member_linked (method_of list method)

  pub constructor_names : (constructor : List ℕ) → line ≡ i.New constructor → linked_member (link_at e f) ≡ constructor_of (text_of e f.text).allow constructor
  unfolding link_of
  constructor_names constructor is = ap linked_member (names (i.New constructor) is) ∙ member_linked (constructor_of list constructor)

  pub field_names : (field : List ℕ) → line ≡ i.Field field → linked_member (link_at e f) ≡ field_of (text_of e f.text).allow field
  unfolding link_of
  field_names field is = ap linked_member (names (i.Field field) is) ∙ member_linked (field_of list field)

  pub text_names : (kind : Quoting) (text : List ℕ) → line ≡ i.Quoted kind text → text_in (link_at e f) ≡ Some (units text)
  unfolding link_of
  text_names kind text is = ap text_in (names (i.Quoted kind text) is)

  pub methods_names : (name : List ℕ) (n : ℕ) → line ≡ i.DefCall name n → methods_in (link_at e f) ≡ Some (methods_of (text_of e f.text).allow name n)
  unfolding link_of
  methods_names name n is = ap methods_in (names (i.DefCall name n) is)
