-- `this::f`: the lambda that calls f.
use Rattle.std.specs.Prelude.{ℕ, Bool, false, List, [], ◌∷◌, ◌++◌, map, length, drop, position, bytes_eq, slice_get, Option, Some, None, Ok, if◌then◌else◌}
use Rattle.std.specs.List.{list_any}
use Rattle.pl_types.specs.declared.rules.TheConstants.{UNKNOWN_FUNCTION, BAD_FUNCTION_VALUE}
use Rattle.allowlist.specs.declared.member.MemberType.{MemberType}
use Rattle.allowlist.specs.Allow.{AllowList}
use Rattle.typed_tree.specs.declared.program.Named.{Named}
use Rattle.typed_tree.specs.declared.program.TypedFunction.{TypedFunction}
use Rattle.typed_tree.specs.declared.typed.Node.TheVariants as n
use Rattle.typing_rules.specs.declared.header.Header.{Header}
use Rattle.typing_rules.specs.declared.part.Part.{Part}
use Rattle.typing_rules.specs.Outcomes.{Out, refuse, bind}
use Rattle.typing_rules.specs.Rules.Calls.{function_of, call_of}
use Rattle.typing_rules.specs.Rules.Functions.{named}
use Rattle.typing_rules.specs.Rules.Nodes.{typed, plain}
use Rattle.typing_functions.specs.declared.wanted.Wanted.{Wanted}
use Rattle.typing_functions.specs.declared.wanted.Wanted.TheVariants.{Nothing, Any, Interface}
use Rattle.typing_functions.specs.Wanted.{method_in, method_of, parameter_of, result_type, taken}
use Rattle.typing_functions.specs.Bodies as bodies

-- ---- which function it means

abbrev pub has_name : List ℕ → Header → Bool
has_name name h = bytes_eq h.name name

abbrev pub there : Option ℕ → ℕ → Out ℕ
there None at = refuse UNKNOWN_FUNCTION at
there (Some number) at = Ok number

-- whether there is one in what stands behind the first
abbrev pub has_other : List ℕ → List Header → Bool
has_other name [] = false
has_other name (h ∷ hs) = list_any (has_name name) hs

-- the one function of a name; of several none is meant
abbrev pub alone : List Header → List ℕ → ℕ → ℕ → Out ℕ
alone headers name at number = if has_other name (drop number headers) then refuse BAD_FUNCTION_VALUE at else Ok number

abbrev pub only : List Header → List ℕ → ℕ → Out ℕ
only headers name at = bind (there (position (has_name name) headers) at) (λ number. alone headers name at number)

-- the function with as many parameters as a method has
abbrev pub as_method : List Header → List ℕ → ℕ → Option MemberType → Out ℕ
as_method headers name at None = refuse BAD_FUNCTION_VALUE at
as_method headers name at (Some m) = there (function_of headers name (length m.params)) at

abbrev pub chosen : AllowList → List Header → Wanted → ℕ → List ℕ → Out ℕ
chosen allow headers Nothing at name = refuse BAD_FUNCTION_VALUE at
chosen allow headers Any at name = only headers name at
chosen allow headers (Interface class) at name = as_method headers name at (method_in allow class)

-- ---- what it runs

abbrev pub parameter : Option MemberType → ℕ → Named → Named
parameter method at x = named x.name (parameter_of method at)

-- its parameters have the names of the function's, and the types of the method's, behind those before
abbrev pub parameters : Option MemberType → List Named → List Named → List Named
parameters method [] before = before
parameters method (x ∷ xs) before = parameters method xs (before ++ parameter method (length before) x ∷ [])

abbrev pub argument : ℕ → Named → Part
argument at x = plain at (typed at x.of (n.Local x.name))

abbrev pub arguments : ℕ → List Named → List Part
arguments at xs = map (argument at) xs

abbrev pub answering : ℕ → Option MemberType → List Named → Part → Out TypedFunction
answering at method xs x = bind (bodies.answered at method x) (λ y. bodies.function_of at [] xs (result_type method) (y ∷ []))

abbrev pub calling : List Header → ℕ → List ℕ → Option MemberType → List Named → Out TypedFunction
calling headers at name method xs = bind (call_of headers at name (arguments at xs)) (λ x. answering at method xs x)

abbrev pub calling_as : List Header → ℕ → List ℕ → Option MemberType → List Named → Out TypedFunction
calling_as headers at name method names = calling headers at name method (parameters method names [])

abbrev pub calls : AllowList → List Header → Wanted → ℕ → List ℕ → Option Header → Out TypedFunction
calls allow headers wanted at name None = refuse UNKNOWN_FUNCTION at
calls allow headers wanted at name (Some h) = calling_as headers at name (method_of allow wanted (length h.parameters)) h.parameters

-- `this::f` at `this`: which interface it has, and what it runs
abbrev pub this_of : AllowList → List Header → Wanted → ℕ → List ℕ → Out (Option ℕ × TypedFunction)
this_of allow headers wanted at name =
    bind (chosen allow headers wanted at name) (λ number. bind (taken wanted at) (λ interface.
    bind (calls allow headers wanted at name (slice_get headers number)) (λ f. Ok (interface, f))))
