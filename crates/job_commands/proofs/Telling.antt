-- One thing is told of a job that is checked or listed.
use Rattle.std.proofs.Common.{◌≡◌, ℕ, List, Option, Result, refl, sym, ap, ◌∙◌}
use Rattle.script_engine.specs.Codes.{ScriptCodes}
use Rattle.script_engine.specs.Laws.{TextsAreAnswered, TextsAreAnsweredOnce}
use Rattle.job_file.specs.declared.context.JobCommand.TheVariants as command
use Rattle.command_parts.specs.Told.{Told}
use Rattle.job_commands.specs.Checking.{told_of_check, TellsCheck}
use Rattle.job_commands.specs.Listing.{told_of_list, TellsList}
use Rattle.job_commands.specs.Scripts.{Prepared}
use Rattle.job_commands.proofs.Jobs.{job_once, job_some}

module _ (texts : TextsAreAnsweredOnce) (content : List ℕ → Option (List ℕ)) where
  pub check_once : (name : List ℕ) (a b : Told) → TellsCheck content name a → TellsCheck content name b → a ≡ b
  check_once name a b (p, is, at) (q, goes, to) = at ∙ ap told_of_check (job_once texts command.Check content name p q is goes) ∙ sym to

  pub list_once : (codes : List ScriptCodes) (name : List ℕ) (a b : Told) → TellsList content codes name a → TellsList content codes name b → a ≡ b
  list_once codes name a b (p, is, at) (q, goes, to) =
      at ∙ ap (λ (r : Result Prepared Told). told_of_list r codes) (job_once texts command.List content name p q is goes) ∙ sym to

module _ (texts : TextsAreAnswered) (content : List ℕ → Option (List ℕ)) where
  pub check_some : (name : List ℕ) → (told : Told) × TellsCheck content name told
  check_some name = let p = job_some texts command.Check content name in (told_of_check p.0, (p.0, p.1, refl))

  pub list_some : (codes : List ScriptCodes) (name : List ℕ) → (told : Told) × TellsList content codes name told
  list_some codes name = let p = job_some texts command.List content name in (told_of_list p.0 codes, (p.0, p.1, refl))
