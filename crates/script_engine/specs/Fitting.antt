-- What a run of a script leaves of a heap that fits.
use Rattle.std.specs.Prelude.{List, length, map}
use Rattle.static_types.specs.Allow.{AllowList}
use Rattle.static_types.specs.typing_rules_declared.header.ContextTypes.{ContextTypes}
use Rattle.object_values.specs.declared.object.Object.{Object}
use Rattle.object_values.specs.declared.value.Value.{Value}
use Rattle.object_heap.specs.Fits.{Rules, Fits, ValueFits, AllFit, ThrownFits}
use Rattle.object_heap.specs.Store.{Store}
use Rattle.object_heap.specs.declared.outcome.End as left_end
use Rattle.object_heap.specs.declared.outcome.End.TheVariants as l
use Rattle.object_heap.specs.declared.outcome.Outcome.{Outcome}
use Rattle.typed_tree.specs.declared.program.Program.{Program}
use Rattle.codegen.specs.Programs.{variable_of}
use Rattle.compiled_outcome.specs.Agreeing.{types_in}
use Rattle.compiled_outcome.specs.Types.{HaveAll}
use Rattle.typing_soundness.specs.ProgramRules.{FitsProgram, rules_of}
use Rattle.verified_machine.specs.ContainerCallsLaws.{StillThere}
use Rattle.script_engine.specs.declared.compiling.Script.{Script}
use Rattle.script_engine.specs.Compiling.{IsScriptOf}
use Rattle.script_engine.specs.Ends.{beside}
use Rattle.script_engine.specs.Preludes.{empty_program}

-- a value that names what is there, or an exception that is there
abbrev pub EndFits : List Object → left_end.End → Type 0
EndFits objects (l.Value value) = ValueFits (length objects) value
EndFits objects (l.Thrown id place) = ThrownFits objects id
EndFits objects (l.Limit which place) = Unit {0}

-- Of a run that began with some objects: the objects that it leaves fit, those are still there, each of its kind and of its class, or with
-- an interface that it has taken, and the end fits them.
pub record LeavesFit (rules : Rules) (before : List Object) (o : Outcome) : Type 0 where
  pub fits : Fits rules o.heap.objects
  pub there : StillThere before o.heap.objects
  pub end : EndFits o.heap.objects o.end

-- A run of a script of a program, from a store that fits the program beside the prelude's and on arguments of the types of the context's
-- variables that are there, leaves what fits the two.
abbrev pub KeepsItsProgram : Script → Store → List Value → Outcome → Type 0
KeepsItsProgram script store args o =
    (allow : AllowList) (context : ContextTypes) (p : Program) → IsScriptOf allow context p script → HaveAll (types_in (map variable_of context.variables)) args
    → FitsProgram (beside p empty_program) store → AllFit (length store.objects) args → LeavesFit (rules_of (beside p empty_program)) store.objects o
