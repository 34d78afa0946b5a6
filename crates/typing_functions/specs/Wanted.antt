-- Which function value a place takes, and the method that one stands for there.
use Rattle.std.specs.Prelude.{ℕ, ◌==◌, ◌&&◌, List, [], Option, Some, None, Ok, length, slice_get, if◌then◌else◌}
use Rattle.pl_types.specs.declared.ty.Ty.{Ty, out-Ty}
use Rattle.pl_types.specs.declared.ty.Ty.TheOpen.{Ty-F}
use Rattle.pl_types.specs.declared.ty.Ty.TheVariants as t
use Rattle.pl_types.specs.declared.rules.TheConstants.{BAD_FUNCTION_VALUE}
use Rattle.pl_tree.specs.declared.tree.TypeName.{TypeName}
use Rattle.allowlist.specs.declared.member.MemberKind.{MemberKind}
use Rattle.allowlist.specs.declared.member.MemberKind.TheVariants as kind
use Rattle.allowlist.specs.declared.member.MemberType.{MemberType}
use Rattle.allowlist.specs.Allow.{AllowList, member_of, members_in, iface_method_of}
use Rattle.typed_tree.specs.declared.program.Named.{Named}
use Rattle.typing_rules.specs.declared.header.Header.{Header}
use Rattle.typing_rules.specs.Outcomes.{Out, refuse}
use Rattle.typing_rules.specs.Rules.Calls.{function_of}
use Rattle.typing_rules.specs.Rules.Members.{is_kind}
use Rattle.typing_rules.specs.Rules.Types.{type_of}
use Rattle.typing_functions.specs.declared.wanted.Wanted.{Wanted}
use Rattle.typing_functions.specs.declared.wanted.Wanted.TheVariants.{Nothing, Any, Interface}
use Rattle.typing_functions.specs.declared.wanted.Callee.{Callee}
use Rattle.typing_functions.specs.declared.wanted.Callee.TheVariants as callee

-- ---- by the type of what is given

-- one of a functional interface where the class is one
abbrev pub interface_if : Option ℕ → ℕ → Wanted
interface_if None class = Nothing
interface_if (Some method) class = Interface class

abbrev pub wanted_layer : Ty-F Ty → Wanted
wanted_layer (Ty-F.Class class) = interface_if (iface_method_of class) class
wanted_layer _ = Nothing

-- what is declared, returned or passed is of a type
abbrev pub wanted_by : Ty → Wanted
wanted_by of = wanted_layer (out-Ty of)

-- ---- by what is called

abbrev pub wanted_if : Option Ty → Wanted
wanted_if None = Nothing
wanted_if (Some of) = wanted_by of

abbrev pub wanted_as : Option Named → Wanted
wanted_as None = Nothing
wanted_as (Some n) = wanted_by n.of

abbrev pub wanted_of_header : Option Header → ℕ → Wanted
wanted_of_header None at = Nothing
wanted_of_header (Some h) at = wanted_as (slice_get h.parameters at)

abbrev pub wanted_of_member : Option MemberType → ℕ → Wanted
wanted_of_member None at = Nothing
wanted_of_member (Some m) at = wanted_if (slice_get m.params at)

-- What an argument is taken as, counted from 0. Where there is nothing that is called, no function value is taken.
abbrev pub wanted_of : AllowList → List Header → Callee → ℕ → Wanted
wanted_of allow headers callee.Unknown at = Nothing
wanted_of allow headers callee.Dynamic at = Any
wanted_of allow headers (callee.Function number) at = wanted_of_header (slice_get headers number) at
wanted_of allow headers (callee.Member number) at = wanted_of_member (slice_get (members_in allow) number) at

-- a function of the script
abbrev pub function_if : Option ℕ → Callee
function_if None = callee.Unknown
function_if (Some number) = callee.Function number

abbrev pub called : List Header → List ℕ → ℕ → Callee
called headers name count = function_if (function_of headers name count)

abbrev pub of_kind : MemberKind → ℕ → Option MemberType → Callee
of_kind kind number None = callee.Unknown
of_kind kind number (Some m) = if is_kind kind m.kind then callee.Member number else callee.Unknown

-- a member of the kind that is wanted
abbrev pub member_if : AllowList → MemberKind → Option ℕ → Callee
member_if allow kind None = callee.Unknown
member_if allow kind (Some number) = of_kind kind number (slice_get (members_in allow) number)

abbrev pub on_layer : AllowList → List ℕ → ℕ → Ty-F Ty → Callee
on_layer allow name count (Ty-F.Class class) = member_if allow kind.Instance (member_of allow class name count)
on_layer allow name count Ty-F.Def = callee.Dynamic
on_layer allow name count _ = callee.Unknown

-- what a name with so many arguments means on a value of a type
abbrev pub on_value : AllowList → Ty → List ℕ → ℕ → Callee
on_value allow of name count = on_layer allow name count (out-Ty of)

abbrev pub static_layer : AllowList → List ℕ → ℕ → Ty-F Ty → Callee
static_layer allow name count (Ty-F.Class class) = member_if allow kind.Static (member_of allow class name count)
static_layer allow name count _ = callee.Unknown

-- and on a class
abbrev pub on_class : AllowList → Ty → List ℕ → ℕ → Callee
on_class allow of name count = static_layer allow name count (out-Ty of)

-- the constructor that the class itself has
abbrev pub own_constructor : ℕ → ℕ → Option MemberType → Callee
own_constructor class number None = callee.Unknown
own_constructor class number (Some m) = if (m.owner == class) && is_kind kind.Constructor m.kind then callee.Member number else callee.Unknown

abbrev pub constructor_if : AllowList → ℕ → Option ℕ → Callee
constructor_if allow class None = callee.Unknown
constructor_if allow class (Some number) = own_constructor class number (slice_get (members_in allow) number)

abbrev pub new_layer : AllowList → ℕ → Ty-F Ty → Callee
new_layer allow count (Ty-F.Class class) = constructor_if allow class (member_of allow class [] count)
new_layer allow count _ = callee.Unknown

-- the constructor of a class with so many arguments
abbrev pub made : AllowList → Ty → ℕ → Callee
made allow of count = new_layer allow count (out-Ty of)

-- ---- the method that a function value stands for

abbrev pub member_if_there : AllowList → Option ℕ → Option MemberType
member_if_there allow None = None
member_if_there allow (Some number) = slice_get (members_in allow) number

-- the one method of an interface
abbrev pub method_in : AllowList → ℕ → Option MemberType
method_in allow class = member_if_there allow (iface_method_of class)

abbrev pub method_wanted : AllowList → Wanted → Option MemberType
method_wanted allow Nothing = None
method_wanted allow Any = None
method_wanted allow (Interface class) = method_in allow class

abbrev pub with_parameters : ℕ → Option MemberType → Option MemberType
with_parameters count None = None
with_parameters count (Some m) = if length m.params == count then Some m else None

-- the method that a lambda with so many parameters stands for, where it is known
abbrev pub method_of : AllowList → Wanted → ℕ → Option MemberType
method_of allow wanted count = with_parameters count (method_wanted allow wanted)

abbrev pub def_or : Option Ty → Ty
def_or None = t.Def
def_or (Some of) = of

-- the type of a parameter that has none written, counted from 0: that of the method's, or def
abbrev pub parameter_of : Option MemberType → ℕ → Ty
parameter_of None at = t.Def
parameter_of (Some m) at = def_or (slice_get m.params at)

-- the type of a parameter
abbrev pub parameter_type : Option MemberType → ℕ → Option TypeName → Out Ty
parameter_type method at None = Ok (parameter_of method at)
parameter_type method at (Some of) = type_of of

-- the type of what a lambda gives: that of the method's result, or def
abbrev pub result_type : Option MemberType → Ty
result_type None = t.Def
result_type (Some m) = m.result

-- ---- which interface a function value has, if it may stand here

abbrev pub fitting : ℕ → ℕ → Option MemberType → Out (Option ℕ)
fitting at class None = refuse BAD_FUNCTION_VALUE at
fitting at class (Some m) = Ok (Some class)

-- a lambda with so many parameters
abbrev pub accepted : AllowList → Wanted → ℕ → ℕ → Out (Option ℕ)
accepted allow Nothing count at = refuse BAD_FUNCTION_VALUE at
accepted allow Any count at = Ok None
accepted allow (Interface class) count at = fitting at class (method_of allow (Interface class) count)

-- a reference, whose number of parameters is not written
abbrev pub taken : Wanted → ℕ → Out (Option ℕ)
taken Nothing at = refuse BAD_FUNCTION_VALUE at
taken Any at = Ok None
taken (Interface class) at = Ok (Some class)

-- the type of a function value
abbrev pub value_type : Option ℕ → Ty
value_type None = t.Def
value_type (Some class) = t.Class class
