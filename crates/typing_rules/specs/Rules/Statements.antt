-- Statements.
use Rattle.std.specs.Prelude.{ℕ, Bool, true, false, not, ◌&&◌, ◌||◌, List, length, map, ◌-◌, slice_get, Option, Some, None, Ok, if◌then◌else◌}
use Rattle.std.specs.List.{list_all, list_any}
use Rattle.pl_types.specs.declared.classes.TheConstants.{EXCEPTION}
use Rattle.pl_types.specs.declared.ty.Ty.{Ty}
use Rattle.pl_types.specs.declared.ty.Ty.TheVariants as t
use Rattle.pl_types.specs.declared.rules.TheConstants.{NOT_A_STATEMENT, UNREACHABLE, MISSING_RETURN, BAD_JUMP}
use Rattle.pl_tree.specs.declared.tree.Spelled.{Spelled}
use Rattle.typed_tree.specs.declared.typed.Typed.{Typed}
use Rattle.typed_tree.specs.declared.statement.TypedStatement.{TypedStatement, roll-TypedStatement}
use Rattle.typed_tree.specs.declared.statement.TypedCatch.{TypedCatch, roll-TypedCatch}
use Rattle.typed_tree.specs.declared.statement.TypedVariable.{TypedVariable}
use Rattle.typed_tree.specs.declared.statement.StatementNode.{StatementNode}
use Rattle.typed_tree.specs.declared.statement.StatementNode.TheVariants as node
use Rattle.typing_rules.specs.declared.part.Part.{Part}
use Rattle.typing_rules.specs.declared.part.Form.{Form}
use Rattle.typing_rules.specs.declared.part.Form.TheVariants as f
use Rattle.typing_rules.specs.declared.part.Step.{Step}
use Rattle.typing_rules.specs.declared.part.Caught.{Caught}
use Rattle.typing_rules.specs.declared.state.State.{State}
use Rattle.typing_rules.specs.Outcomes.{Out, refuse, bind}
use Rattle.typing_rules.specs.State.{declared}
use Rattle.typing_rules.specs.Rules.Nodes.{boolean, is_void, type_of_part}
use Rattle.typing_rules.specs.Rules.Casts.{cast_to}

abbrev pub step : Bool → Bool → ℕ → StatementNode → Step
step escapes breaks at does = record { escapes = escapes; breaks = breaks; statement = roll-TypedStatement (record { at = at; node = does }) }

-- behind a statement that escapes stands none
abbrev pub reached : Bool → ℕ → Step → Out Step
reached after at x = if after then refuse UNREACHABLE at else Ok x

abbrev pub is_deed : Form → Bool
is_deed f.Deed = true
is_deed _ = false

-- what may stand as a statement: an assignment, `++`, `--`, a call or `new`
abbrev pub deed : ℕ → Part → Out Step
deed at x = if is_deed x.form then Ok (step false false at (node.Expression x.typed)) else refuse NOT_A_STATEMENT at

abbrev pub give_back : ℕ → Ty → Part → Out Step
give_back at to x = bind (cast_to to x) (λ y. Ok (step true false at (node.Return (Some y))))

-- whether an expression statement is the result of the script
abbrev pub is_result : Bool → Part → State → Bool
is_result last x s = last && (not (is_void s.result) && not (is_void (type_of_part x)))

-- an expression statement; the last of the main script is its result, where it has one
abbrev pub expression_of : ℕ → Bool → Part → State → Out Step
expression_of at last x s = if is_result last x s then give_back at s.result x else deed at x

abbrev pub variable : Spelled → Ty → Option Typed → TypedVariable
variable name of value = record { at = name.at; name = name.spelling; of = of; value = value }

-- a variable is declared once its value is typed
abbrev pub variable_of : Spelled → Ty → Option Typed → State → Out (TypedVariable × State)
variable_of name of value s = bind (declared name.at name.spelling of s) (λ t. Ok (variable name of value, t))

abbrev pub declaration_of : ℕ → List TypedVariable → Step
declaration_of at variables = step false false at (node.Declare variables)

-- the test of an `if`
abbrev pub test : Part → Out Typed
test x = cast_to boolean x

abbrev pub is_true : Form → Bool
is_true f.True = true
is_true _ = false

-- the test of a loop: the literal `true` is none
abbrev pub loop_test : Part → Out (Option Typed)
loop_test x = if is_true x.form then Ok None else bind (cast_to boolean x) (λ y. Ok (Some y))

abbrev pub escapes_if : Option Step → Bool
escapes_if None = false
escapes_if (Some y) = y.escapes

abbrev pub breaks_if : Option Step → Bool
breaks_if None = false
breaks_if (Some y) = y.breaks

abbrev pub statement_if : Option Step → Option TypedStatement
statement_if None = None
statement_if (Some y) = Some y.statement

-- an `if` escapes where both sides do
abbrev pub if_of : ℕ → Typed → Step → Option Step → Step
if_of at x y n = step (y.escapes && escapes_if n) (y.breaks || breaks_if n) at (node.If x y.statement (statement_if n))

abbrev pub is_missing : Option Typed → Bool
is_missing None = true
is_missing (Some x) = false

-- a loop escapes where it has no test and no `break` of its own
abbrev pub loop_of : ℕ → Option Step → Option Typed → Option Typed → Option Step → Step
loop_of at first condition update y = step (is_missing condition && not (breaks_if y)) false at (node.Loop (statement_if first) condition update (statement_if y))

abbrev pub do_of : ℕ → Step → Option Typed → Step
do_of at y condition = step (is_missing condition && not y.breaks) false at (node.Do y.statement condition)

abbrev pub jump : ℕ → Bool → StatementNode → State → Out Step
jump at breaks does s = if s.looped then Ok (step true breaks at does) else refuse BAD_JUMP at

abbrev pub break_of : ℕ → State → Out Step
break_of at s = jump at true node.Break s

abbrev pub continue_of : ℕ → State → Out Step
continue_of at s = jump at false node.Continue s

abbrev pub return_of : ℕ → Part → State → Out Step
return_of at x s = give_back at s.result x

-- a `return` without a value where one is wanted
abbrev pub nothing_returned : ℕ → State → Out Step
nothing_returned at s = if is_void s.result then Ok (step true false at (node.Return None)) else refuse MISSING_RETURN at

-- what is thrown is cast to Exception
abbrev pub throw_of : ℕ → Part → Out Step
throw_of at x = bind (cast_to (t.Class EXCEPTION) x) (λ y. Ok (step true false at (node.Throw y)))

abbrev pub last_escapes : List Step → Bool
last_escapes ys = escapes_if (slice_get ys (length ys - 1))

abbrev pub breaks : Step → Bool
breaks y = y.breaks

abbrev pub statements_of : List Step → List TypedStatement
statements_of ys = map (λ (y : Step). y.statement) ys

-- a block escapes where its last statement does
abbrev pub block_of : ℕ → List Step → Step
block_of at ys = step (last_escapes ys) (list_any breaks ys) at (node.Block (statements_of ys))

-- a catch whose block is typed
abbrev pub caught : ℕ → ℕ → List ℕ → Step → Caught
caught at class name y = record { at = at; class = class; name = name; body = y }

abbrev pub catch_of : Caught → TypedCatch
catch_of x = roll-TypedCatch (record { at = x.at; class = x.class; name = x.name; body = x.body.statement })

abbrev pub caught_escapes : Caught → Bool
caught_escapes x = x.body.escapes

abbrev pub caught_breaks : Caught → Bool
caught_breaks x = x.body.breaks

-- a `try` escapes where all its blocks do
abbrev pub try_of : ℕ → Step → List Caught → Step
try_of at y catches = step (y.escapes && list_all caught_escapes catches) (y.breaks || list_any caught_breaks catches) at (node.Try y.statement (map catch_of catches))
