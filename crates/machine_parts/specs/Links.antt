-- What the instructions of code name, which is found once, before the code runs.
use Rattle.std.specs.Prelude.{ℕ, ◌==◌, List, [], ◌∷◌, length, map, Option, Some, None, option_map, slice_get, if◌then◌else◌}
use Rattle.std.specs.List.{range_with_len}
use Rattle.pl_types.specs.declared.classes.TheConstants.{CLASS_COUNT}
use Rattle.pl_types.specs.declared.ty.Ty.{Ty}
use Rattle.pl_types.specs.Texts.{type_of_full}
use Rattle.pl_units.specs.Utf16.{units}
use Rattle.allowlist.specs.Allow.{AllowList}
use Rattle.instruction_types.specs.Members.{method_of, constructor_of, field_of}
use Rattle.def_resolve.specs.declared.callee.Callee.{Callee}
use Rattle.def_resolve.specs.Resolution.{class_of, target_of}
use Rattle.object_values.specs.declared.object.Object.{Object}
use Rattle.object_values.specs.declared.value.Value.{Value}
use Rattle.code_meaning.specs.Machine.{Frame, function_of}
use Rattle.pl_code.specs.declared.code.FunCode.{FunCode}
use Rattle.pl_code.specs.declared.code.Instruction.{Instruction}
use Rattle.pl_code.specs.declared.code.Instruction.TheVariants as i
use Rattle.machine_parts.specs.declared.linked_text.Link.{Link}
use Rattle.machine_parts.specs.declared.linked_text.Link.TheVariants as link
use Rattle.machine_parts.specs.Code.{Executable, codes_in, text_of}

abbrev pub type_link : Option Ty → Link
type_link None = link.Nothing
type_link (Some of) = link.Type of

abbrev pub member_link : Option ℕ → Link
member_link None = link.Nothing
member_link (Some number) = link.Member number

-- a text constant, or a name, as the units of its text
abbrev pub text_link : List ℕ → Link
text_link text = link.Text (units text)

-- what a call of a method means on a value of each class, in the order of their numbers
unfoldable pub methods_of : AllowList → List ℕ → ℕ → List (Option Callee)
methods_of allow name arity = map (λ class. target_of allow class name arity) (range_with_len 0 CLASS_COUNT)

abbrev pub method_link : AllowList → List ℕ → ℕ → Link
method_link allow name arity = link.Methods (methods_of allow name arity)

-- The type or the member that the text in an instruction names, or its units. What a name means that is called on a value, it means by
-- the value's class.
unfoldable pub link_of : AllowList → Instruction → Link
link_of allow (i.Typed kind of) = type_link (type_of_full of)
link_of allow (i.Sized kind of n) = type_link (type_of_full of)
link_of allow (i.Cast to way) = type_link (type_of_full to)
link_of allow (i.Invoke method) = member_link (method_of allow method)
link_of allow (i.New constructor) = member_link (constructor_of allow constructor)
link_of allow (i.Field field) = member_link (field_of allow field)
link_of allow (i.Quoted kind text) = text_link text
link_of allow (i.DefCall name count) = method_link allow name count
link_of allow other = link.Nothing

-- the lines of a function, and none where there is no function
abbrev pub lines_in : Option FunCode → List Instruction
lines_in None = []
lines_in (Some f) = f.lines

abbrev pub links_of : AllowList → FunCode → List Link
links_of allow f = map (link_of allow) f.lines

abbrev pub links_in : AllowList → List FunCode → List (List Link)
links_in allow functions = map (links_of allow) functions

abbrev pub type_in : Option Link → Option Ty
type_in (Some (link.Type of)) = Some of
type_in other = None

abbrev pub linked_member : Option Link → Option ℕ
linked_member (Some (link.Member number)) = Some number
linked_member other = None

abbrev pub text_in : Option Link → Option (List ℕ)
text_in (Some (link.Text text)) = Some text
text_in other = None

abbrev pub methods_in : Option Link → Option (List (Option Callee))
methods_in (Some (link.Methods methods)) = Some methods
methods_in other = None

-- what a table tells for a class
abbrev pub target_in : List (Option Callee) → Option ℕ → Option (Option Callee)
target_in methods None = None
target_in methods (Some class) = slice_get methods class

-- what the table for so many arguments tells for the first of these values
abbrev pub target_for_first : List (Option Callee) → ℕ → List Object → List Value → Option (Option Callee)
target_for_first methods count objects [] = None
target_for_first methods count objects (receiver ∷ arguments) = if length arguments == count then target_in methods (class_of objects receiver) else None

-- the instruction at which a frame stands, in the code of its text
abbrev pub instruction_at : Executable → Frame → Option Instruction
instruction_at e f = slice_get (lines_in (function_of (codes_in e) f)) f.line

-- what it names, of the members that its text may call
abbrev pub link_at : Executable → Frame → Option Link
link_at e f = option_map (link_of (text_of e f.text).allow) (instruction_at e f)
