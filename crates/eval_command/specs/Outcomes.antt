-- What the code comes to, and what it is told of.
use Rattle.std.specs.Prelude.{◌≡◌, ℕ, [], map, string_bytes, Result, Ok, Err}
use Rattle.pl_types.specs.declared.refusal.Refusal.{Refusal}
use Rattle.pl_types.specs.declared.refusal.Fail.{Fail}
use Rattle.pl_types.specs.declared.refusal.Fail.TheVariants.{Refused, NoMemory}
use Rattle.allowlist.specs.Allow.{full_list}
use Rattle.object_values.specs.declared.value.Value.{Value}
use Rattle.object_heap.specs.declared.outcome.Outcome.{Outcome}
use Rattle.run_state.specs.World.{End}
use Rattle.typed_tree.specs.declared.program.Program.{Program}
use Rattle.script_engine.specs.declared.compiling.Script.{Script}
use Rattle.script_engine.specs.Codes.{Counts, ScriptCodes, empty_program, script_codes}
use Rattle.script_engine.specs.Compiling.{IsScriptOf}
use Rattle.script_engine.specs.Running.{end_seen, world_left, IsOutcome}
use Rattle.script_engine.specs.machine_declared.configuration.Limits.{Limits}
use Rattle.script_engine.specs.Seen.{limits_of}
use Rattle.eval_command.specs.declared.script.EvalRun.{EvalRun}
use Rattle.eval_command.specs.Script.{eval_types, eval_limits, eval_world}
use Rattle.eval_command.specs.Evaluation.{listings_of}

-- an outcome is this end, with some ticks left
pub record EndsSo (o : Outcome) (end : End Value) : Type 0 where
  pub left : ℕ
  pub is : end ≡ end_seen o.end (world_left o left)

-- the code comes to the end that there is, or to the refusal; want of memory is free
abbrev pub Comes : (Result (End Value) Refusal → Type 0) → Result EvalRun Fail → Type 0
Comes means (Ok ran) = (end : End Value) × means (Ok end) × EndsSo ran.outcome end
Comes means (Err (Refused refusal)) = means (Err refusal)
Comes means (Err NoMemory) = Unit {0}

-- the limits of `eval` as the machine takes them
abbrev pub machine_limits : Limits
machine_limits = record { loops = eval_limits.loop; depth = eval_limits.depth; ticks = eval_world.ticks }

-- a script runs as each program does that it is of, in the context of `eval`
abbrev pub RunsAsEval : Script → Outcome → Type 0
RunsAsEval script o = (p : Program) → IsScriptOf full_list eval_types p script → IsOutcome full_list p empty_program eval_world.store [] machine_limits o

-- .. and so many instructions of its code are counted, beside the prelude's
abbrev pub CountsAsEval : Script → Outcome → Type 0
CountsAsEval script o = Counts (script_codes script) (limits_of machine_limits script.executable.allow) [] eval_world o.steps

-- ---- codes

-- the run of a script, with the listings of its codes
pub record RunsListed (script : Script) (ran : EvalRun) : Type 0 where
  pub runs : RunsAsEval script ran.outcome
  pub counts : CountsAsEval script ran.outcome
  pub listed : map string_bytes ran.listings.items ≡ listings_of (script_codes script)

-- a run with the listings of these codes, of which so many instructions are counted
pub record RunsOver (ran : EvalRun) (codes : ScriptCodes) : Type 0 where
  pub counts : Counts codes eval_limits [] eval_world ran.outcome.steps
  pub listed : map string_bytes ran.listings.items ≡ listings_of codes

-- .. where these are some codes
abbrev pub RunsCodes : (ScriptCodes → Type 0) → EvalRun → Type 0
RunsCodes are ran = (codes : ScriptCodes) × are codes × RunsOver ran codes
