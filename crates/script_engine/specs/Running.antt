-- What a run of a script leaves.
use Rattle.std.specs.Prelude.{◌≡◌, ℕ, ◌-◌, List, [], ◌∷◌, map, Option, Some, None, unwrap_or, slice_get}
use Rattle.object_values.specs.declared.value.Value.{Value}
use Rattle.object_values.specs.declared.value.Value.TheVariants as v
use Rattle.object_heap.specs.Store.{Store}
use Rattle.object_heap.specs.declared.outcome.End as left_end
use Rattle.object_heap.specs.declared.outcome.End.TheVariants as l
use Rattle.object_heap.specs.declared.outcome.Outcome.{Outcome}
use Rattle.compiled_outcome.specs.World.{World, End, Result, Uncaught, Limited}
use Rattle.typed_tree.specs.declared.program.Program.{Program}
use Rattle.static_types.specs.Allow.{AllowList}
use Rattle.static_types.specs.typing_rules_declared.header.ContextTypes.{ContextTypes}
use Rattle.pl_types.specs.declared.ty.Ty.{Ty, out-Ty}
use Rattle.pl_types.specs.declared.ty.Ty.TheOpen.{Ty-F}
use Rattle.pl_code.specs.declared.kinds.Slot.{Slot}
use Rattle.pl_code.specs.declared.kinds.Slot.TheVariants as slot
use Rattle.pl_code.specs.declared.code.FunCode.{FunCode}
use Rattle.codegen.specs.Programs.{variable_of}
use Rattle.compiled_outcome.specs.Types.{HaveAll}
use Rattle.compiled_outcome.specs.Agreeing.{types_in}
use Rattle.verified_machine.specs.Words.{boxed, unboxed, plain_value}
use Rattle.verified_machine.specs.code_meaning_declared.word.Word.{Word}
use Rattle.verified_machine.specs.code_meaning_declared.word.Word.TheVariants.{R}
use Rattle.verified_machine.specs.machine_declared.configuration.RunEnd as run_end
use Rattle.verified_machine.specs.machine_declared.configuration.RunEnd.TheVariants as r
use Rattle.verified_machine.specs.machine_declared.configuration.Limits.{Limits}
use Rattle.verified_machine.specs.machine_declared.activation.RunOutcome as run_outcome
use Rattle.verified_machine.specs.Code.{codes_in}
use Rattle.verified_machine.specs.Machine.{start}
use Rattle.verified_machine.specs.Fits.{kinds_of, main_params}
use Rattle.verified_machine.specs.Activations.{Activation}
use Rattle.script_engine.specs.declared.compiling.Script.{Script}
use Rattle.script_engine.specs.Compiling.{IsScriptOf}
use Rattle.script_engine.specs.Ends.{RunsTo}
use Rattle.script_engine.specs.Executables.{executable_of}
use Rattle.script_engine.specs.Preludes.{empty_program}
use Rattle.script_engine.specs.Seen.{limits_of, limit_of}

-- ---- arguments

-- the word of a value in a local of a kind
abbrev pub word_in : Slot → Value → Word
word_in slot.R value = R value
word_in number value = unboxed value

-- those of the locals that have values
abbrev pub words_in : List Slot → List Value → List Word
words_in [] values = []
words_in (kind ∷ kinds) [] = []
words_in (kind ∷ kinds) (value ∷ values) = word_in kind value ∷ words_in kinds values

abbrev pub params_of : Option FunCode → List Slot
params_of None = []
params_of (Some f) = f.params

-- ---- results

-- a number is read by the primitive type that is wanted
abbrev pub value_by : Ty-F Ty → Option Word → Value
value_by layer None = v.Null
value_by (Ty-F.Prim p) (Some word) = unwrap_or (boxed p word) v.Null
value_by other (Some word) = plain_value word

-- the value of a word that a script of this result type gives
abbrev pub value_of : Ty → Option Word → Value
value_of of word = value_by (out-Ty of) word

-- the end of a run of code, with its value; none where it is stuck
abbrev pub end_left : Ty → run_end.RunEnd → Option left_end.End
end_left of (r.Result word) = Some (l.Value (value_of of word))
end_left of (r.Thrown id place) = Some (l.Thrown id place)
end_left of (r.Limit which place) = Some (l.Limit which place)
end_left of r.Stuck = None

abbrev pub end_seen : left_end.End → World → End Value
end_seen (l.Value value) w = Result value w
end_seen (l.Thrown id place) w = Uncaught id place w
end_seen (l.Limit which place) w = Limited (limit_of which) place w

-- the world that a run left, with so many ticks
abbrev pub world_left : Outcome → ℕ → World
world_left o left = record { store = o.heap; ticks = left; reached = o.reached }

-- an end, and not stuck
abbrev pub IsEnd : run_end.RunEnd → Type 0
IsEnd (r.Result word) = Unit {0}
IsEnd (r.Thrown id place) = Unit {0}
IsEnd (r.Limit which place) = Unit {0}
IsEnd r.Stuck = ⊥

-- what a run of code that gives this type leaves, with the value read
pub record LeftOf (of : Ty) (ran : run_outcome.RunOutcome) (o : Outcome) : Type 0 where
  pub end : end_left of ran.end ≡ Some o.end
  pub heap : o.heap ≡ ran.heap
  pub ticks : o.ticks ≡ ran.ticks
  pub steps : o.steps ≡ ran.steps
  pub reached : o.reached ≡ ran.reached

-- a run that comes to this leaves it
abbrev pub Comes : Ty → Option run_outcome.RunOutcome → Outcome → Type 0
Comes of None o = ⊥
Comes of (Some ran) o = LeftOf of ran o

-- the world in which a run begins
abbrev pub world_at : Store → Limits → World
world_at store limits = record { store = store; ticks = limits.ticks; reached = [] }

-- arguments are as many as the parameters, and their words of the same kinds
abbrev pub TakesArguments : Script → List Value → Type 0
TakesArguments script args = kinds_of (words_in (params_of (slice_get script.executable.code.functions 0)) args) ≡ main_params script.executable.code.functions

-- values of the types of a context's variables are such arguments
abbrev pub TakesTyped : ContextTypes → Script → Type 0
TakesTyped context script = (args : List Value) → HaveAll (types_in (map variable_of context.variables)) args → TakesArguments script args

-- where a run of a script begins, beside the prelude's code
abbrev pub begun : Script → Store → List Value → Limits → Activation
begun script store args limits = record {
  executable = executable_of script.executable;
  limits = limits;
  now = Some (start (codes_in (executable_of script.executable)) (words_in (params_of (slice_get script.executable.code.functions 0)) args) (world_at store limits));
  steps = 0;
}

-- The outcome is that of the program beside the prelude's, under a list, on these arguments: how its run ends, in which world, and how many
-- ticks it paid.
pub record IsOutcome (allow : AllowList) (p prelude : Program) (store : Store) (args : List Value) (limits : Limits) (o : Outcome) : Type 0 where
  pub left : ℕ
  pub ends : RunsTo p prelude (limits_of limits allow) args (world_at store limits) (end_seen o.end (world_left o left))
  pub ticks : o.ticks ≡ limits.ticks - left

-- A script runs as its program does, on arguments of the types of the context's variables.
abbrev pub RunsAsItsProgram : Script → Store → List Value → Limits → Outcome → Type 0
RunsAsItsProgram script store args limits o =
    (allow : AllowList) (context : ContextTypes) (p : Program) → IsScriptOf allow context p script → HaveAll (types_in (map variable_of context.variables)) args
    → IsOutcome allow p empty_program store args limits o
