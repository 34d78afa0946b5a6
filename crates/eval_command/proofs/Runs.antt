-- What a text comes to, from its script and the script's run.
use Rattle.std.proofs.Common.{◌≡◌, ℕ, List, [], None, Result, Ok, Err, IfOk, map, string_bytes, refl, ap, subst}
use Rattle.std.specs.declared.alloc.AllocError.{AllocError}
use Rattle.pl_types.specs.Answers.{Answers}
use Rattle.pl_types.specs.declared.refusal.Refusal.{Refusal}
use Rattle.pl_types.specs.declared.refusal.Fail.{Fail}
use Rattle.pl_types.specs.declared.refusal.Fail.TheVariants.{Refused, NoMemory}
use Rattle.allowlist.specs.Allow.{AllowList, full_list}
use Rattle.object_values.specs.declared.value.Value.{Value}
use Rattle.object_heap.specs.declared.outcome.Which.{Which}
use Rattle.object_heap.specs.declared.outcome.Which.TheVariants as which
use Rattle.object_heap.specs.declared.outcome.End as left_end
use Rattle.object_heap.specs.declared.outcome.End.TheVariants as l
use Rattle.object_heap.specs.declared.outcome.Outcome.{Outcome}
use Rattle.run_state.specs.World.{World, End}
use Rattle.typed_tree.specs.declared.program.Program.{Program}
use Rattle.script_engine.specs.Seen.{limit_of, limits_of}
use Rattle.json_replies.specs.Replies.{line_of, refusal_of, reply_of}
use Rattle.script_engine.specs.Faults.{shape_fault}
use Rattle.script_engine.specs.declared.compiling.Script.{Script}
use Rattle.script_engine.specs.Codes.{Counts, IsListed, ScriptCodes, empty_program, script_codes}
use Rattle.script_engine.specs.Programs.{IsProgramOf}
use Rattle.script_engine.specs.Compiling.{Compiles}
use Rattle.script_engine.specs.Laws.{TextsAreAnsweredOnce, CodesAreListed, PreludeIsListed}
use Rattle.script_engine.specs.Running.{end_seen, world_at, world_left, RunsAsItsProgram}
use Rattle.command_parts.specs.declared.status.Status.TheVariants as s
use Rattle.command_parts.specs.Told.{uncounted}
use Rattle.eval_command.specs.declared.reply.Answer.{Answer}
use Rattle.eval_command.specs.declared.script.EvalRun.{EvalRun}
use Rattle.eval_command.specs.Answers.{told_by}
use Rattle.eval_command.specs.Codes.{AreCodesOfText, AreCodesOf}
use Rattle.eval_command.specs.Evaluation.{which_of, reply_to, end_told, listings_of, TellsScript}
use Rattle.eval_command.specs.Outcomes.{EndsSo, Comes, machine_limits, RunsAsEval, CountsAsEval, RunsListed, RunsCodes}
use Rattle.eval_command.specs.Script.{Decodes, eval_types, eval_world, MeansText, Means}

-- the one program of the text, whose script has run
pub text_comes : (text : List ℕ) (script : Script) (ran : EvalRun) → Compiles full_list eval_types (IsProgramOf full_list eval_types text) (Ok script) → RunsListed script ran → Comes (MeansText text) (Ok ran)
text_comes text script ran (p, is, made) of =
    let o = ran.outcome in
    let out = of.runs p made in
    (end_seen o.end (world_left o out.left), (Ok p, is, (end_seen o.end (world_left o out.left), out.ends, refl)), record { left = out.left; is = refl })

-- a text without a script
pub text_fails : (text : List ℕ) (fail : Fail) → Compiles full_list eval_types (IsProgramOf full_list eval_types text) (Err fail) → Comes (MeansText text) (Err fail)
text_fails text (Refused refusal) h = (Err refusal, h, refl)
text_fails text NoMemory h = tt

-- ---- its codes

one_program : (p q : Program) (a b : Result Program Refusal) → a ≡ Ok p → b ≡ Ok q → a ≡ b → p ≡ q
one_program p q a b first second same = cc

one_text : (p q : List ℕ) (a b : Result (List ℕ) Refusal) → a ≡ Ok p → b ≡ Ok q → a ≡ b → p ≡ q
one_text p q a b first second same = cc

pub text_codes : TextsAreAnsweredOnce → CodesAreListed → PreludeIsListed → (text : List ℕ) (script : Script) (ran : EvalRun)
    → Compiles full_list eval_types (IsProgramOf full_list eval_types text) (Ok script) → shape_fault full_list script.executable.code ≡ None → RunsListed script ran
    → RunsCodes (AreCodesOfText text) ran
text_codes texts listed prelude text script ran (p, is, made) sound of = (
  script_codes script,
  λ q goes. (
    subst (λ (r : Program). IsListed full_list eval_types r empty_program (script_codes script)) (one_program p q (Ok p) (Ok q) refl refl (texts full_list eval_types text (Ok p) (Ok q) is goes))
        (listed full_list eval_types p script made sound),
    prelude full_list q script.executable.code,
  ),
  record {
    counts = subst (λ (a : AllowList). Counts (script_codes script) (limits_of machine_limits a) [] eval_world ran.outcome.steps) made.allowed of.counts;
    listed = of.listed;
  },
)

-- ---- bytes

pub bytes_come : (bytes text : List ℕ) (result : Result EvalRun Fail) → Decodes bytes (Ok text) → Comes (MeansText text) result → Comes (Means bytes) result
bytes_come bytes text (Ok ran) d (end, means, so) = (end, (Ok text, d, means), so)
bytes_come bytes text (Err (Refused refusal)) d means = (Ok text, d, means)
bytes_come bytes text (Err NoMemory) d means = tt

pub bytes_fail : (bytes : List ℕ) (fail : Fail) → Answers {X = List ℕ} (λ t. t) (Err fail) (Decodes bytes) → Comes (Means bytes) (Err fail)
bytes_fail bytes (Refused refusal) h = (Err refusal, h, refl)
bytes_fail bytes NoMemory h = tt

-- the bytes are one text
pub bytes_codes : (bytes text : List ℕ) (result : Result EvalRun Fail) → ((reading : Result (List ℕ) Refusal) → Decodes bytes reading → Ok text ≡ reading)
    → IfOk result (RunsCodes (AreCodesOfText text)) → IfOk result (RunsCodes (AreCodesOf bytes))
bytes_codes bytes text (Ok ran) one (codes, are, over) =
    (codes, (λ other decodes. subst (λ (t : List ℕ). AreCodesOfText t codes) (one_text text other (Ok text) (Ok other) refl refl (one (Ok other) decodes)) are), over)
bytes_codes bytes text (Err fail) one h = tt

-- ---- replies

limit_again : (which : Which) → which_of (limit_of which) ≡ which
limit_again which.Loop = refl
limit_again which.Depth = refl
limit_again which.Ticks = refl
limit_again which.Room = refl

pub reply_seen : (end : left_end.End) (w : World) → reply_to (end_seen end w) ≡ reply_of end w.store.objects
reply_seen (l.Value value) w = refl
reply_seen (l.Thrown id place) w = refl
reply_seen (l.Limit which place) w = ap (λ x. reply_of (l.Limit x place) w.store.objects) (limit_again which)

-- ---- answers

-- what is told of an outcome is told of the script, and of its codes
pub tells_end : (script : List ℕ) (ran : EvalRun) (result : Result Answer AllocError) → Comes (Means script) (Ok ran) → RunsCodes (AreCodesOf script) ran
    → IfOk result (λ a. (codes : ScriptCodes) (end : End Value) → map string_bytes ran.listings.items ≡ listings_of codes → EndsSo ran.outcome end → told_by a ≡ end_told codes end ran.outcome.steps)
    → IfOk result (λ a. (codes : ScriptCodes) × AreCodesOf script codes × TellsScript codes script (told_by a))
tells_end script ran (Ok a) (end, means, so) (codes, are, over) h = (codes, are, (Ok end, means, (ran.outcome.steps, over.counts, h codes end over.listed so)))
tells_end script ran (Err error) comes over h = tt

-- .. and of a refusal of any
pub tells_refusal : (script : List ℕ) (refusal : Refusal) (codes : ScriptCodes) (result : Result Answer AllocError) → Means script (Err refusal) → AreCodesOf script codes
    → IfOk result (λ a. told_by a ≡ uncounted s.Refused (line_of (refusal_of refusal)))
    → IfOk result (λ a. (codes : ScriptCodes) × AreCodesOf script codes × TellsScript codes script (told_by a))
tells_refusal script refusal codes (Ok a) means are h = (codes, are, (Err refusal, means, h))
tells_refusal script refusal codes (Err error) means are h = tt

-- ---- the run

-- `eval` has no variables
pub runs_as_eval : (script : Script) (result : Result Outcome AllocError) → IfOk result (RunsAsItsProgram script eval_world.store [] machine_limits) → IfOk result (RunsAsEval script)
runs_as_eval script (Ok o) h = λ p is. h full_list eval_types p is tt
runs_as_eval script (Err error) h = tt

pub counts_as_eval : (script : Script) (result : Result Outcome AllocError)
    → IfOk result (λ o. Counts (script_codes script) (limits_of machine_limits script.executable.allow) [] (world_at eval_world.store machine_limits) o.steps) → IfOk result (CountsAsEval script)
counts_as_eval script (Ok o) h = h
counts_as_eval script (Err error) h = tt
