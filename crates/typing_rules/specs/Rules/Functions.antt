-- Functions, and the whole program.
use Rattle.std.specs.Prelude.{ℕ, Bool, true, false, not, ◌&&◌, List, [], ◌∷◌, ◌++◌, length, map, bytes_eq, Option, Some, None, Ok, if◌then◌else◌}
use Rattle.std.specs.List.{list_any}
use Rattle.pl_types.specs.declared.ty.Ty.{Ty}
use Rattle.pl_types.specs.declared.rules.TheConstants.{ALREADY_DEFINED, MISSING_RETURN, OUT_OF_PROFILE}
use Rattle.pl_tree.specs.declared.tree.Function.{Function}
use Rattle.pl_tree.specs.declared.tree.Parameter.{Parameter}
use Rattle.pl_tree.specs.declared.tree.TypeName.{TypeName}
use Rattle.typed_tree.specs.declared.program.FunctionKind.{FunctionKind}
use Rattle.typed_tree.specs.declared.program.FunctionKind.TheVariants as kind
use Rattle.typed_tree.specs.declared.program.Named.{Named}
use Rattle.typed_tree.specs.declared.program.TypedFunction.{TypedFunction}
use Rattle.typed_tree.specs.declared.statement.TypedStatement.{TypedStatement}
use Rattle.typing_rules.specs.declared.header.ContextTypes.{ContextTypes}
use Rattle.typing_rules.specs.declared.header.Header.{Header}
use Rattle.typing_rules.specs.declared.part.Step.{Step}
use Rattle.typing_rules.specs.declared.scopes.Entry.{Entry}
use Rattle.typing_rules.specs.declared.scopes.Standing.{Standing}
use Rattle.typing_rules.specs.declared.scopes.Standing.TheVariants as standing
use Rattle.typing_rules.specs.declared.state.State.{State}
use Rattle.typing_rules.specs.Outcomes.{Out, refuse, bind}
use Rattle.typing_rules.specs.Rules.Types.{type_of, result_of}
use Rattle.typing_rules.specs.Rules.Nodes.{is_void}
use Rattle.typing_rules.specs.Rules.Calls.{function_of}
use Rattle.typing_rules.specs.Rules.Statements.{last_escapes, statements_of}

-- the type of a function's parameter, which has one by the grammar
abbrev pub parameter_type : ℕ → Option TypeName → Out Ty
parameter_type at None = refuse OUT_OF_PROFILE at
parameter_type at (Some of) = type_of of

abbrev pub is_named : List ℕ → List Named → Bool
is_named name names = list_any (λ (n : Named). bytes_eq n.name name) names

abbrev pub named : List ℕ → Ty → Named
named name of = record { name = name; of = of }

-- one parameter, behind others: no two have one name
abbrev pub parameter : Parameter → List Named → Out Named
parameter p before = bind (parameter_type p.name.at p.of) (λ of.
    if is_named p.name.spelling before then refuse ALREADY_DEFINED p.name.at else Ok (named p.name.spelling of))

-- a function's parameters, from the left to the right, behind those before them
abbrev pub parameters : List Parameter → List Named → Out (List Named)
parameters [] before = Ok before
parameters (p ∷ ps) before = bind (parameter p before) (λ n. parameters ps (before ++ n ∷ []))

abbrev pub header : List ℕ → List Named → Ty → Header
header name parameters result = record { name = name; parameters = parameters; result = result }

-- whether a function is there already
abbrev pub is_there : Option ℕ → Bool
is_there None = false
is_there (Some number) = true

-- A function's header, behind those before it: its result, its parameters, and then that it is the first of its name and number of
-- parameters.
abbrev pub header_of : Function → List Header → Out Header
header_of f before = bind (result_of f.result) (λ result. bind (parameters f.parameters []) (λ ps.
    if is_there (function_of before f.name.spelling (length ps)) then refuse ALREADY_DEFINED f.name.at else Ok (header f.name.spelling ps result)))

abbrev pub headers : List Function → List Header → Out (List Header)
headers [] before = Ok before
headers (f ∷ fs) before = bind (header_of f before) (λ h. headers fs (before ++ h ∷ []))

-- names that are there from the start
abbrev pub entry : Standing → Named → Entry
entry standing n = record { name = n.name; of = n.of; standing = standing }

abbrev pub entries : Standing → List Named → List Entry
entries standing names = map (entry standing) names

abbrev pub start : Standing → List Named → Ty → State
start standing names result = record { scopes = entries standing names; base = 0; result = result; looped = false }

-- functions see their parameters alone, and the main script the variables of its context
abbrev pub function_start : Header → State
function_start h = start standing.Variable h.parameters h.result

abbrev pub main_start : ContextTypes → State
main_start context = start standing.Fixed context.variables context.result

-- what has a header, and a body
abbrev pub with_body : FunctionKind → ℕ → Header → List TypedStatement → TypedFunction
with_body kind at h body = record { kind = kind; at = at; name = h.name; captured = []; parameters = h.parameters; result = h.result; body = body }

abbrev pub function : Function → Header → List Step → TypedFunction
function f h ys = record { kind = kind.Named; at = f.name.at; name = f.name.spelling; captured = []; parameters = h.parameters; result = h.result; body = statements_of ys }

-- a function that wants a value escapes
abbrev pub finished : Function → Header → List Step → Out TypedFunction
finished f h ys = if not (is_void h.result) && not (last_escapes ys) then refuse MISSING_RETURN f.name.at else Ok (function f h ys)

abbrev pub main : ContextTypes → List Step → TypedFunction
main context ys = record { kind = kind.Main; at = 0; name = []; captured = []; parameters = context.variables; result = context.result; body = statements_of ys }
