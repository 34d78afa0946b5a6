-- Each stage has one answer, and so one thing is told.
use Rattle.std.proofs.Common.{◌≡◌, ℕ, List, [], Option, None, Some, Result, Ok, Err, inl, inr, refl, sym, subst, ◌∙◌, ap, arith}
use Rattle.pl_types.specs.declared.refusal.Refusal.{Refusal}
use Rattle.object_values.specs.declared.value.Value.{Value}
use Rattle.allowlist.specs.Allow.{full_list}
use Rattle.run_state.specs.World.{End}
use Rattle.typed_tree.specs.declared.program.Program.{Program}
use Rattle.script_engine.specs.Codes.{ScriptCodes, empty_program}
use Rattle.script_engine.specs.Programs.{IsProgramOf}
use Rattle.script_engine.specs.Stages.{GoesOn}
use Rattle.script_engine.specs.Laws.{TextsAreAnsweredOnce, ProgramsEndOnce, CodesCountOnce}
use Rattle.script_engine.proofs.Texts.{Once, then_once}
use Rattle.command_parts.specs.Told.{Told}
use Rattle.eval_command.specs.Codes.{AreCodesOf}
use Rattle.eval_command.specs.Script.{Decodes, eval_types, eval_limits, eval_world, RunsProgram, MeansText, Means}
use Rattle.eval_command.specs.Evaluation.{end_told, TellsEnd, TellsScript, TellsFile}
use Rattle.eval_command.proofs.Utf8.{decodes_text, decodes_refused}

decodes_once : (bytes : List ℕ) → Once (Decodes bytes)
decodes_once bytes (Ok text) b h k = decodes_text bytes text h b k
decodes_once bytes (Err refusal) b h k = decodes_refused bytes refusal h b k

-- ---- bytes that are refused are no program

refuses : (refusal : Refusal) (end : End Value) (answer : Result (End Value) Refusal) → answer ≡ Err refusal → answer ≡ Ok end → ⊥
refuses refusal end answer first second = cc

module _ (texts : TextsAreAnsweredOnce) where
  refused_text : (text : List ℕ) (refusal : Refusal) (p : Program) → MeansText text (Err refusal) → IsProgramOf full_list eval_types text (Ok p) → ⊥
  refused_text text refusal p (reading, reads, goes) is =
      let runs = subst (λ (r : Result Program Refusal). GoesOn RunsProgram r (Err refusal)) (texts full_list eval_types text reading (Ok p) reads is) goes in
      refuses refusal runs.0 (Err refusal) refl runs.2

  pub refused_codes : (script : List ℕ) (refusal : Refusal) (codes : ScriptCodes) → Means script (Err refusal) → AreCodesOf script codes
  refused_codes script refusal codes (reading, reads, goes) = λ text decodes p is.
      absurd (refused_text text refusal p (subst (λ (r : Result (List ℕ) Refusal). GoesOn MeansText r (Err refusal)) (decodes_once script reading (Ok text) reads decodes) goes) is)

-- ---- one thing is told

module _ (texts : TextsAreAnsweredOnce) (ends : ProgramsEndOnce) where
  runs_once : (p : Program) → Once (RunsProgram p)
  runs_once p a b (end, runs, is) (other, others, is_other) =
      is ∙ ap (λ (x : End Value). Ok x) (ends p empty_program eval_limits [] eval_world end other runs others) ∙ sym is_other

  text_once : (text : List ℕ) → Once (MeansText text)
  text_once text = then_once (IsProgramOf full_list eval_types text) RunsProgram (texts full_list eval_types text) runs_once

  means_once : (script : List ℕ) → Once (Means script)
  means_once script = then_once (Decodes script) MeansText (decodes_once script) text_once

  module _ (counts : CodesCountOnce) (codes : ScriptCodes) where
    end_once : (answer : Result (End Value) Refusal) (a b : Told) → TellsEnd codes answer a → TellsEnd codes answer b → a ≡ b
    end_once (Ok end) a b (steps, is, at) (others, goes, to) =
        at ∙ ap (λ (n : ℕ). end_told codes end n) (counts codes eval_limits [] eval_world steps others is goes) ∙ sym to
    end_once (Err refusal) a b h k = h ∙ sym k

    pub script_once : (script : List ℕ) (a b : Told) → TellsScript codes script a → TellsScript codes script b → a ≡ b
    script_once script a b (answer, means, h) (other, goes, k) =
        end_once other a b (subst (λ (r : Result (End Value) Refusal). TellsEnd codes r a) (means_once script answer other means goes) h) k

    pub file_once : (found : Option (List ℕ)) (a b : Told) → TellsFile codes found a → TellsFile codes found b → a ≡ b
    file_once None a b h k = h ∙ sym k
    file_once (Some script) a b (inl h) (inl k) = h.1 ∙ sym k.1
    file_once (Some script) a b (inl h) (inr k) = absurd (omega arith)
    file_once (Some script) a b (inr h) (inl k) = absurd (omega arith)
    file_once (Some script) a b (inr h) (inr k) = script_once script a b h.1 k.1
