-- What a run of a script gives is of the result's type.
use Rattle.std.specs.Prelude.{◌≡◌, true, List, map}
use Rattle.pl_types.specs.declared.ty.Ty.{Ty}
use Rattle.static_types.specs.Allow.{AllowList}
use Rattle.object_values.specs.declared.object.Object.{Object}
use Rattle.object_values.specs.declared.value.Value.{Value}
use Rattle.object_heap.specs.Store.{Store}
use Rattle.object_heap.specs.declared.outcome.End as left_end
use Rattle.object_heap.specs.declared.outcome.End.TheVariants as l
use Rattle.object_heap.specs.declared.outcome.Outcome.{Outcome}
use Rattle.compiled_outcome.specs.World.{End, Result, Uncaught, Limited}
use Rattle.static_types.specs.typing_rules_declared.header.ContextTypes.{ContextTypes}
use Rattle.typed_tree.specs.declared.program.Program.{Program}
use Rattle.codegen.specs.Programs.{variable_of}
use Rattle.compiled_outcome.specs.Agreeing.{types_in}
use Rattle.typing_soundness.specs.Typing.{is_typed}
use Rattle.typing_soundness.specs.Outs.{AreTyped}
use Rattle.typing_soundness.specs.ProgramRules.{FitsProgram}
use Rattle.script_engine.specs.declared.compiling.Script.{Script}
use Rattle.script_engine.specs.Compiling.{IsScriptOf}
use Rattle.script_engine.specs.Ends.{beside}
use Rattle.script_engine.specs.Preludes.{empty_program}

-- values of the types of a context's variables
abbrev pub HasVariables : List Object → ContextTypes → List Value → Type 0
HasVariables objects context args = AreTyped objects (types_in (map variable_of context.variables)) args

-- the value with which a program's run ends is of a type in the store that is left
abbrev pub EndIsOf : Ty → End Value → Type 0
EndIsOf of (Result value w) = is_typed w.store.objects of value ≡ true
EndIsOf of (Uncaught id place w) = Unit {0}
EndIsOf of (Limited limit place w) = Unit {0}

abbrev pub ValueIsOf : Ty → List Object → left_end.End → Type 0
ValueIsOf of objects (l.Value value) = is_typed objects of value ≡ true
ValueIsOf of objects (l.Thrown id place) = Unit {0}
ValueIsOf of objects (l.Limit which place) = Unit {0}

-- A script of a program, from a store that fits the program beside the prelude's and on values of the types of its context's variables, gives
-- a value of its result's type.
abbrev pub GivesTyped : Script → Store → List Value → Outcome → Type 0
GivesTyped script store args o =
    (allow : AllowList) (context : ContextTypes) (p : Program) → IsScriptOf allow context p script → FitsProgram (beside p empty_program) store
    → HasVariables store.objects context args → ValueIsOf script.result o.heap.objects o.end
