-- What holds of all texts and of their programs.
use Rattle.std.specs.Prelude.{◌≡◌, ℕ, List, map, Result, Ok, None}
use Rattle.pl_types.specs.declared.refusal.Refusal.{Refusal}
use Rattle.object_values.specs.declared.value.Value.{Value}
use Rattle.object_heap.specs.Fits.{ValueFits, AllFit}
use Rattle.typing_soundness.specs.Worlds.{EndFits, count_in}
use Rattle.static_types.specs.Allow.{AllowList}
use Rattle.compiled_outcome.specs.World.{World, Limits, End}
use Rattle.static_types.specs.typing_rules_declared.header.ContextTypes.{ContextTypes}
use Rattle.typed_tree.specs.declared.program.Program.{Program}
use Rattle.codegen.specs.Programs.{variable_of}
use Rattle.compiled_outcome.specs.Types.{HaveAll}
use Rattle.compiled_outcome.specs.Agreeing.{types_in}
use Rattle.typing_soundness.specs.Laws.{IsContext}
use Rattle.typing_soundness.specs.ProgramRules.{FitsProgram, rules_of}
use Rattle.pl_code.specs.declared.code.Code.{Code}
use Rattle.verified_machine.specs.Faults.{shape_fault}
use Rattle.object_heap.specs.Store.{Store}
use Rattle.verified_machine.specs.machine_declared.configuration.Limits as machine
use Rattle.script_engine.specs.declared.compiling.Script.{Script}
use Rattle.script_engine.specs.Compiling.{IsScriptOf}
use Rattle.script_engine.specs.Seen.{limits_of}
use Rattle.script_engine.specs.Running.{world_at}
use Rattle.script_engine.specs.Codes.{Counts, IsListed, IsPreludeListed, ScriptCodes, empty_program, prelude_code, script_codes}
use Rattle.script_engine.specs.Programs.{IsProgramOf}
use Rattle.script_engine.specs.Ends.{RunsTo, beside}
use Rattle.script_engine.specs.Typed.{HasVariables, EndIsOf}

-- A text is a program or is refused,
abbrev pub TextsAreAnswered : Type 0
TextsAreAnswered = (allow : AllowList) (context : ContextTypes) (text : List ℕ) → (reading : Result Program Refusal) × IsProgramOf allow context text reading

-- .. and in one way.
abbrev pub TextsAreAnsweredOnce : Type 0
TextsAreAnsweredOnce =
    (allow : AllowList) (context : ContextTypes) (text : List ℕ) (a b : Result Program Refusal) → IsProgramOf allow context text a → IsProgramOf allow context text b → a ≡ b

-- The run of a text's program beside the prelude's ends, on all arguments of the types of the context's variables,
abbrev pub ProgramsEnd : Type 0
ProgramsEnd =
    (allow : AllowList) (context : ContextTypes) (text : List ℕ) (p : Program) → IsContext context → IsProgramOf allow context text (Ok p)
    → (limits : Limits) → limits.ground.allowed ≡ allow → (args : List Value) → HaveAll (types_in (map variable_of context.variables)) args → (w : World) → (end : End Value) × RunsTo p empty_program limits args w end

-- .. and in one way.
abbrev pub ProgramsEndOnce : Type 0
ProgramsEndOnce =
    (p prelude : Program) (limits : Limits) (args : List Value) (w : World) (end other : End Value) → RunsTo p prelude limits args w end → RunsTo p prelude limits args w other → end ≡ other

-- .. Where the objects fit the two programs, and the arguments fit, so does the end: the objects fit them, those of the start are still
-- there, each of its kind and of its class, or with an interface that it has taken, and what is given or thrown is there.
abbrev pub ProgramsFit : Type 0
ProgramsFit =
    (p prelude : Program) (limits : Limits) (args : List Value) (w : World) (end : End Value) → FitsProgram (beside p prelude) w.store → AllFit (count_in w) args
    → RunsTo p prelude limits args w end
    → EndFits ValueFits (rules_of (beside p prelude)) w.store.objects end

-- .. And where the objects fit the two, and the arguments are of the types of the context's variables, what is given is of the context's
-- result type in the store that is left.
abbrev pub ProgramsAreTyped : Type 0
ProgramsAreTyped =
    (allow : AllowList) (context : ContextTypes) (text : List ℕ) (p : Program) → IsContext context → IsProgramOf allow context text (Ok p)
    → (limits : Limits) → limits.ground.allowed ≡ allow → (args : List Value) (w : World) (end : End Value) → FitsProgram (beside p empty_program) w.store → HasVariables w.store.objects context args
    → RunsTo p empty_program limits args w end → EndIsOf context.result end

-- ---- what is listed and counted

-- The code of a script of a program may be listed for it, where the verifier finds no fault in it,
abbrev pub CodesAreListed : Type 0
CodesAreListed =
    (allow : AllowList) (context : ContextTypes) (p : Program) (script : Script) → IsScriptOf allow context p script → shape_fault allow script.executable.code ≡ None
    → IsListed allow context p empty_program (script_codes script)

-- .. and the prelude's for the prelude, beside each script.
abbrev pub PreludeIsListed : Type 0
PreludeIsListed = (allow : AllowList) (p : Program) (script : Code) → IsPreludeListed allow p empty_program (record { script = script; prelude = prelude_code })

-- From one start instructions are counted in one way,
abbrev pub CodesCountOnce : Type 0
CodesCountOnce = (codes : ScriptCodes) (limits : Limits) (args : List Value) (w : World) (a b : ℕ) → Counts codes limits args w a → Counts codes limits args w b → a ≡ b

-- .. and those of codes that may be listed are counted, on all arguments of the types of the context's variables.
abbrev pub ListedCodesCount : Type 0
ListedCodesCount =
    (allow : AllowList) (context : ContextTypes) (p prelude : Program) (codes : ScriptCodes) → IsListed allow context p prelude codes
    → (limits : machine.Limits) (store : Store) (args : List Value) → HaveAll (types_in (map variable_of context.variables)) args
    → (count : ℕ) × Counts codes (limits_of limits allow) args (world_at store limits) count
