-- What a function value runs: a function whose parameters, and what it copies, are all of type def, and which gives a def. Its body
-- begins with a cast for each name of another type, and each of its returns casts what it gives to the type that is wanted, and then to
-- def.
use Rattle.std.specs.Prelude.{ℕ, pos, Bool, true, false, List, [], ◌∷◌, ◌++◌, map, length, Option, Some, None, Ok, if◌then◌else◌}
use Rattle.pl_types.specs.declared.primitive.Primitive.{Primitive}
use Rattle.pl_types.specs.declared.primitive.Primitive.TheVariants as p
use Rattle.pl_types.specs.declared.ty.Ty.{Ty, out-Ty}
use Rattle.pl_types.specs.declared.ty.Ty.TheOpen.{Ty-F}
use Rattle.pl_types.specs.declared.ty.Ty.TheVariants as t
use Rattle.pl_types.specs.declared.rules.TheConstants.{MISSING_RETURN}
use Rattle.allowlist.specs.declared.member.MemberType.{MemberType}
use Rattle.allowlist.specs.Allow.{AllowList}
use Rattle.typed_tree.specs.declared.operation.Constant.{Constant}
use Rattle.typed_tree.specs.declared.operation.Constant.TheVariants as k
use Rattle.typed_tree.specs.declared.program.FunctionKind.TheVariants as kind
use Rattle.typed_tree.specs.declared.program.Named.{Named}
use Rattle.typed_tree.specs.declared.program.TypedFunction.{TypedFunction}
use Rattle.typed_tree.specs.declared.statement.StatementNode.TheVariants as node
use Rattle.typed_tree.specs.declared.statement.TypedStatement.{TypedStatement}
use Rattle.typed_tree.specs.declared.statement.TypedVariable.{TypedVariable}
use Rattle.typed_tree.specs.declared.typed.Typed.{Typed}
use Rattle.typed_tree.specs.declared.typed.Node.TheVariants as n
use Rattle.typing_rules.specs.declared.part.Part.{Part}
use Rattle.typing_rules.specs.declared.part.Step.{Step}
use Rattle.typing_rules.specs.Outcomes.{Out, refuse, bind}
use Rattle.typing_rules.specs.Rules.Nodes.{typed, plain, type_of_part, is_void}
use Rattle.typing_rules.specs.Rules.Casts.{cast_to}
use Rattle.typing_rules.specs.Rules.Statements.{step, last_escapes, statements_of}
use Rattle.typing_functions.specs.declared.wanted.Wanted.{Wanted}
use Rattle.typing_functions.specs.Wanted.{method_of, result_type, accepted, value_type}

-- ---- what is given back

abbrev pub returned : ℕ → Typed → Step
returned at x = step true false at (node.Return (Some x))

abbrev pub as_def : ℕ → Part → Out Step
as_def at x = bind (cast_to t.Def x) (λ y. Ok (returned at y))

-- a `return` of a value where one of a type is wanted
abbrev pub given_back : ℕ → Ty → Part → Out Step
given_back at of x = bind (cast_to of x) (λ y. as_def at (plain x.at y))

-- a `return` without one
abbrev pub nothing_given : ℕ → Ty → Out Step
nothing_given at of = if is_void of then Ok (returned at (typed at t.Def (n.Constant k.Null))) else refuse MISSING_RETURN at

abbrev pub dropped : ℕ → Part → Step
dropped at x = step false false at (node.Expression x.typed)

abbrev pub given_or : Bool → ℕ → Ty → Part → Out Step
given_or drops at of x = if drops then Ok (dropped at x) else given_back at of x

-- The expression behind `->`: its value is dropped where the method gives none, and where the interface is found when the script runs
-- one that has no value gives null.
abbrev pub answered : ℕ → Option MemberType → Part → Out Step
answered at None x = given_or (is_void (type_of_part x)) at t.Def x
answered at (Some m) x = given_or (is_void m.result) at m.result x

-- ---- where the body ends

abbrev pub zero_of : Primitive → Constant
zero_of p.Boolean = k.Boolean false
zero_of p.Byte = k.Byte (pos 0)
zero_of p.Short = k.Short (pos 0)
zero_of p.Char = k.Char 0
zero_of p.Int = k.Int (pos 0)
zero_of p.Long = k.Long (pos 0)

abbrev pub default_of : ℕ → Primitive → Part
default_of at q = plain at (typed at (t.Prim q) (n.Constant (zero_of q)))

-- a body that ends without a return gives the default of the type that is wanted, and null for a reference
abbrev pub ending_layer : ℕ → Ty-F Ty → List TypedStatement → Out (List TypedStatement)
ending_layer at (Ty-F.Prim q) body = bind (as_def at (default_of at q)) (λ y. Ok (body ++ y.statement ∷ []))
ending_layer at _ body = Ok body

abbrev pub ended : ℕ → Ty → Bool → List TypedStatement → Out (List TypedStatement)
ended at of escapes body = if escapes then Ok body else ending_layer at (out-Ty of) body

-- ---- where it begins

abbrev pub is_def_layer : Ty-F Ty → Bool
is_def_layer Ty-F.Def = true
is_def_layer _ = false

abbrev pub is_def : Ty → Bool
is_def of = is_def_layer (out-Ty of)

-- a name as the call gives it
abbrev pub raw : ℕ → Named → Part
raw at x = plain at (typed at t.Def (n.Local x.name))

abbrev pub variable : ℕ → Named → Typed → TypedVariable
variable at x y = record { at = at; name = x.name; of = x.of; value = Some y }

abbrev pub opened : ℕ → Named → Typed → Step
opened at x y = step false false at (node.Declare (variable at x y ∷ []))

abbrev pub opening : ℕ → Named → List TypedStatement → Out (List TypedStatement)
opening at x before = if is_def x.of then Ok before else bind (cast_to x.of (raw at x)) (λ y. Ok (before ++ (opened at x y).statement ∷ []))

-- the casts of some names, behind those before
abbrev pub openings : ℕ → List Named → List TypedStatement → Out (List TypedStatement)
openings at [] before = Ok before
openings at (x ∷ xs) before = bind (opening at x before) (λ ys. openings at xs ys)

-- ---- the function

abbrev pub untyped : Named → Named
untyped x = record { name = x.name; of = t.Def }

-- what it copies has the types that it has around it
abbrev pub function : ℕ → List Named → List Named → List TypedStatement → TypedFunction
function at captured parameters body =
    record { kind = kind.Lambda; at = at; name = []; captured = captured; parameters = map untyped parameters; result = t.Def; body = body }

-- the whole body: what it copies is cast first, and then the parameters
abbrev pub body_of : ℕ → List Named → List Named → Ty → List Step → Out (List TypedStatement)
body_of at captured parameters of ys =
    bind (openings at captured []) (λ first. bind (openings at parameters first) (λ before. bind (ended at of (last_escapes ys) (statements_of ys)) (λ behind. Ok (before ++ behind))))

-- A function value at a place, which copies some names and has parameters of types of its own, with the statements of its body.
abbrev pub function_of : ℕ → List Named → List Named → Ty → List Step → Out TypedFunction
function_of at captured parameters of ys = bind (body_of at captured parameters of ys) (λ body. Ok (function at captured parameters body))

-- A lambda whose body is typed: which interface it has, and what it runs.
abbrev pub lambda_of : AllowList → Wanted → ℕ → List Named → List Named → List Step → Out (Option ℕ × TypedFunction)
lambda_of allow wanted at captured parameters ys =
    bind (accepted allow wanted (length parameters) at) (λ interface.
    bind (function_of at captured parameters (result_type (method_of allow wanted (length parameters))) ys) (λ f. Ok (interface, f)))

-- the value, by the number of what it runs
abbrev pub value : Option ℕ → ℕ → ℕ → Part
value interface at number = plain at (typed at (value_type interface) (n.Lambda interface number))
