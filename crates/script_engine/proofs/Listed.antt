-- Codes that may be listed: those of scripts, and the prelude's.
use Rattle.std.specs.List.{list_all}
use Rattle.std.specs.Prelude.{slice_get}
use Rattle.std.proofs.Common.{◌≡◌, ℕ, true, List, [], ◌∷◌, map, Option, Some, None, refl, subst, ◌∙◌}
use Rattle.pl_types.specs.declared.ty.Ty.{out-Ty}
use Rattle.object_values.specs.declared.value.Value.{Value}
use Rattle.object_values.specs.declared.object.Owner.TheVariants.{Script as script_text, Prelude}
use Rattle.object_heap.specs.Store.{Store}
use Rattle.compiled_outcome.specs.World as run
use Rattle.compiled_outcome.specs.World.{World, End, Result, Uncaught, Limited}
use Rattle.static_types.specs.Allow.{AllowList, full_list, flag}
use Rattle.static_types.specs.typing_rules_declared.header.ContextTypes.{ContextTypes}
use Rattle.typed_tree.specs.declared.program.Program.{Program}
use Rattle.pl_code.specs.declared.code.Code.{Code}
use Rattle.pl_code.specs.declared.code.FunCode.{FunCode}
use Rattle.codegen.specs.Programs.{fun_of, program_of, variable_of}
use Rattle.codegen.specs.Tree.{Fun}
use Rattle.codegen.specs.Meaning.{Env, entry}
use Rattle.compiled_outcome.specs.Types.{HaveAll}
use Rattle.compiled_outcome.specs.Agreeing.{known, types_in}
use Rattle.compiled_outcome.specs.Enough.{IsEnough}
use Rattle.codegen.specs.Effects.{effect_of, flow_of, left_by}
use Rattle.codegen.specs.Faults.{is_bad_target, is_bad_member, is_bad_jump}
use Rattle.verified_machine.specs.Faults.{shape_fault, function_fault, lines_fault, line_fault, instruction_fault}
use Rattle.verified_machine.specs.Meets.{starts, left_at, met}
use Rattle.compiled_outcome.specs.Correct as correct
use Rattle.compiled_outcome.specs.Outcome.{CodeEndsAsPrograms}
use Rattle.compiled_runs.specs.Laws.{CodeHasRows}
use Rattle.compiled_runs.specs.VerifiedRuns.{AreSound, AllHaveRows, StartsFit, NeverStuck}
use Rattle.verified_machine.specs.code_meaning_declared.word.Word.{Word}
use Rattle.verified_machine.specs.Fits.{kinds_of, FitsNext}
use Rattle.verified_machine.specs.Machine.{Codes, Next, Goes, Ends, Stuck, after}
use Rattle.verified_machine.specs.machine_declared.configuration.Limits.{Limits}
use Rattle.verified_machine.specs.Runs.{steps_taken}
use Rattle.script_engine.specs.declared.compiling.Script.{Script}
use Rattle.script_engine.specs.Codes.{PreludeRunsAlike, RunsAlike, ScriptCodes, begins, empty_program, end_read, functions_in, prelude_code, reached_in, script_codes}
use Rattle.script_engine.specs.Compiling.{IsScriptOf}
use Rattle.script_engine.specs.Ends.{RunsTo, beside, end_in}
use Rattle.script_engine.specs.Laws.{CodesAreListed, PreludeIsListed}
use Rattle.script_engine.specs.Running.{params_of, words_in, world_at}
use Rattle.script_engine.specs.Seen.{limits_of}
use Rattle.script_engine.proofs.Beside.{only_main, prelude_rows, prelude_sound}
use Rattle.script_engine.proofs.Runs.{both_end, first_params, limited_end, main_out, takes_typed, thrown_end, value_end}

-- ---- scripts

-- the end of a program's run is that of its code, with the value read
ends_alike : (p : Program) (limits : run.Limits) (bound : ℕ) (main : Fun) (o : Option Env) (begun : World)
    → ((e : Env) → o ≡ Some e → IsEnough main.result (main_out p limits bound main begun e)) → (last : End (Option Word))
    → correct.source_in (beside p empty_program) limits bound main o begun ≡ Some last → end_in p empty_program limits bound main o begun ≡ Some (end_read main.result last)
ends_alike p limits bound main None begun enough last is = cc
ends_alike p limits bound main (Some e) begun enough (Result word w) is = value_end main.result (main_out p limits bound main begun e) (enough e refl) word w is
ends_alike p limits bound main (Some e) begun enough (Uncaught id place w) is = thrown_end main.result (main_out p limits bound main begun e) id place w is
ends_alike p limits bound main (Some e) begun enough (Limited limit place w) is = limited_end main.result (main_out p limits bound main begun e) limit place w is

runs_alike : CodeEndsAsPrograms → (allow : AllowList) (context : ContextTypes) (p : Program) (script : Script) → IsScriptOf allow context p script → (limits : Limits) (store : Store) (args : List Value)
    → HaveAll (types_in (map variable_of context.variables)) args → RunsAlike p empty_program context.result (script_codes script) (limits_of limits allow) args (world_at store limits)
runs_alike outcomes allow context p script is limits store args have =
    let main = fun_of p.main in
    let kept = limits_of limits allow in
    let w = world_at store limits in
    let both = both_end outcomes allow context p script is kept refl args have w in
    let ends = ends_alike p kept both.bound main (entry main.params args []) w both.comes both.end both.is in
    record {
      last = both.end;
      steps = steps_taken (functions_in (script_codes script)) kept both.code_ends.steps (begins (script_codes script) args w);
      code_ends = record { bound = both.code_ends.steps; ends = both.code_ends.ends; taken = refl };
      program_ends = subst (λ of. RunsTo p empty_program kept args w (end_read of both.end)) is.result (record { bound = both.bound; is = ends });
    }

-- what fits has reached members of the script's list alone
fitting_reaches : (codes : Codes) (limits : run.Limits) (n : Next) → FitsNext codes limits n → list_all (flag limits.ground.allowed.members) (reached_in n) ≡ true
fitting_reaches codes limits (Goes c) fits = fits.reached
fitting_reaches codes limits (Ends (Result word w)) fits = fits.1
fitting_reaches codes limits (Ends (Uncaught id place w)) fits = fits
fitting_reaches codes limits (Ends (Limited limit place w)) fits = fits
fitting_reaches codes limits Stuck fits = refl

-- the code of a script and that of the prelude break nowhere, and have rows
sounds_of : (allow : AllowList) (script : Script) → shape_fault allow script.executable.code ≡ None → (limits : Limits) → AreSound (functions_in (script_codes script)) (limits_of limits allow)
sounds_of allow script shaped limits script_text = record { none = shaped }
sounds_of allow script shaped limits Prelude = record { none = prelude_sound }

rows_of : CodeHasRows → (allow : AllowList) (context : ContextTypes) (p : Program) (script : Script) → IsScriptOf allow context p script → (limits : Limits)
    → AllHaveRows (functions_in (script_codes script)) (limits_of limits allow)
rows_of has_rows allow context p script is limits script_text = has_rows script_text (known allow (program_of p)) script.executable.code.functions is.formed is.code
rows_of has_rows allow context p script is limits Prelude = prelude_rows has_rows

-- and each moment of a run of code fits that the verifier finds no fault in
moments_reach : CodeHasRows → StartsFit → NeverStuck → (allow : AllowList) (context : ContextTypes) (p : Program) (script : Script) → IsScriptOf allow context p script
    → shape_fault allow script.executable.code ≡ None → (limits : Limits) (store : Store) (args : List Value) → HaveAll (types_in (map variable_of context.variables)) args → (steps : ℕ)
    → list_all (flag allow.members) (reached_in (after (functions_in (script_codes script)) (limits_of limits allow) steps (begins (script_codes script) args (world_at store limits)))) ≡ true
moments_reach has_rows starts_fit never_stuck allow context p script is shaped limits store args have steps =
    let functions = script.executable.code.functions in
    let codes = functions_in (script_codes script) in
    let sound = sounds_of allow script shaped limits in
    let kept = limits_of limits allow in
    let w = world_at store limits in
    let words = words_in (params_of (slice_get functions 0)) args in
    let first = is.code.each 0 (fun_of p.main) refl in
    let kinds : kinds_of words ≡ first.body.params = takes_typed allow context p script is args have ∙ first_params functions first.body first.is in
    let begun = starts_fit codes kept first.body words w sound first.is kinds refl in
    fitting_reaches codes kept (after codes kept steps (begins (script_codes script) args w))
    (never_stuck codes kept (begins (script_codes script) args w) steps sound (rows_of has_rows allow context p script is limits) begun)

pub codes_are_listed : CodeEndsAsPrograms → CodeHasRows → StartsFit → NeverStuck → CodesAreListed
codes_are_listed outcomes has_rows starts_fit never_stuck allow context p script is shaped = record {
  shaped = shaped;
  runs = runs_alike outcomes allow context p script is;
  members = moments_reach has_rows starts_fit never_stuck allow context p script is shaped;
}

-- ---- the prelude

prelude_shaped : shape_fault full_list prelude_code ≡ None
unfolding shape_fault function_fault lines_fault line_fault instruction_fault starts left_at left_by met effect_of flow_of is_bad_target is_bad_member is_bad_jump
prelude_shaped = refl

-- the codes of a script and of the prelude
abbrev with_prelude : Code → ScriptCodes
with_prelude script = record { script = script; prelude = prelude_code }

-- the prelude's one function returns at once, as it does in the prelude's program
at_once : (p : Program) (script : Code) (limits : run.Limits) (w : World) → PreludeRunsAlike p empty_program (with_prelude script) 0 (fun_of empty_program.main) limits [] w
unfolding out-Ty denote.Hole.Carrier.out
at_once p script limits w = record { last = Result None w; steps = 1; code_ends = refl; bound = 1; program_ends = refl }

main_alike : (p : Program) (script : Code) (limits : run.Limits) (args : List Value) (w : World) → HaveAll (types_in (fun_of empty_program.main).params) args
    → PreludeRunsAlike p empty_program (with_prelude script) 0 (fun_of empty_program.main) limits args w
main_alike p script limits [] w have = at_once p script limits w
main_alike p script limits (value ∷ args) w have = absurd have

-- how each function of the prelude's program ends
abbrev AlikeAt : AllowList → Program → Code → ℕ → Fun → Type 0
AlikeAt allow p script number f =
    (loop depth : ℕ) (args : List Value) → HaveAll (types_in f.params) args → (w : World) → PreludeRunsAlike p empty_program (with_prelude script) number f (run.limits_for loop depth allow) args w

pub prelude_is_listed : PreludeIsListed
prelude_is_listed allow p script = record { shaped = prelude_shaped; many = refl; runs = only_main (AlikeAt allow p script) (λ loop depth args have w. main_alike p script (run.limits_for loop depth allow) args w have) }
