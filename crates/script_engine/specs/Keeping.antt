-- Runs of programs and of codes by their own rules.
use Rattle.std.specs.Prelude.{◌≡◌, ℕ, List, Ok}
use Rattle.object_values.specs.declared.value.Value.{Value}
use Rattle.object_heap.specs.Fits.{ValueFits}
use Rattle.static_types.specs.Allow.{AllowList}
use Rattle.static_types.specs.typing_rules_declared.header.ContextTypes.{ContextTypes}
use Rattle.compiled_outcome.specs.World.{World, Limits, End}
use Rattle.typed_tree.specs.declared.program.Program.{Program}
use Rattle.typing_soundness.specs.Laws.{IsContext}
use Rattle.typing_soundness.specs.ProgramRules.{FitsProgram, rules_of}
use Rattle.typing_soundness.specs.Worlds.{EndFits}
use Rattle.script_engine.specs.Ends.{RunsTo, beside}
use Rattle.script_engine.specs.Preludes.{empty_program}
use Rattle.script_engine.specs.Programs.{IsProgramOf}
use Rattle.script_engine.specs.Typed.{EndIsOf, HasVariables}

-- A run of a text's program beside the prelude's, from a store that fits the two and on arguments of the types of the context's variables, leaves a store
-- that fits them, and what it gives is of the result's type in that store.
abbrev pub ProgramsKeepTheirRules : Type 0
ProgramsKeepTheirRules =
    (allow : AllowList) (context : ContextTypes) (text : List ℕ) (p : Program) → IsContext context → IsProgramOf allow context text (Ok p)
    → (limits : Limits) → limits.ground.allowed ≡ allow → (args : List Value) (w : World) (end : End Value) → FitsProgram (beside p empty_program) w.store → HasVariables w.store.objects context args
    → RunsTo p empty_program limits args w end → EndFits ValueFits (rules_of (beside p empty_program)) w.store.objects end × EndIsOf context.result end
