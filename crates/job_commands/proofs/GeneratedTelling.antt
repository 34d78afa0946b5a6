-- One thing is told of the documents of the generator, and something is.
use Rattle.std.proofs.Common.{◌≡◌, ℕ, List, [], ◌∷◌, Result, Ok, Err, refl, sym, ap, ◌∙◌, subst}
use Rattle.script_engine.specs.Codes.{ScriptCodes}
use Rattle.script_engine.specs.Laws.{TextsAreAnswered, TextsAreAnsweredOnce, ProgramsEnd, ProgramsEndOnce, CodesCountOnce, ListedCodesCount}
use Rattle.job_file.specs.declared.context.JobContext.TheVariants as c
use Rattle.command_parts.specs.Told.{Told}
use Rattle.job_loading.specs.Loading.{JobUnder}
use Rattle.job_commands.specs.Answers.{IsAnswerOf}
use Rattle.job_commands.specs.FixedJob.{fixed_under}
use Rattle.job_commands.specs.Generated.{AreFixedCodes, TellsFixed, TellsGen, summary_told}
use Rattle.job_commands.specs.Generator.{numbers_behind}
use Rattle.job_commands.specs.Listing.{AreCodesBy}
use Rattle.job_commands.specs.Scripts.{JobProgram, Prepared, Prepares, RefusedScript, prepared}
use Rattle.job_commands.specs.Summaries.{nothing_counted, tallied}
use Rattle.job_commands.proofs.Answering.{answer_once, answer_some, are_once, are_some}
use Rattle.job_commands.proofs.Jobs.{prepares_once, prepares_program, prepares_some}

-- ---- one thing is told

module _ (texts : TextsAreAnsweredOnce) (ends : ProgramsEndOnce) (counts : CodesCountOnce) (codes : List ScriptCodes) (count : ℕ) where
  fixed_once : (answer : Result Prepared Told) (a b : Told) → TellsFixed answer codes count a → TellsFixed answer codes count b → a ≡ b
  fixed_once (Ok p) a b (t, (answers, are, is), at) (u, (others, goes, so), to) =
      at
      ∙ ap (summary_told codes count)
      (is ∙ ap (tallied nothing_counted) (are_once (IsAnswerOf p codes) (answer_once ends counts p codes) (numbers_behind count 0) answers others are goes) ∙ sym so) ∙ sym to
  fixed_once (Err wrong) a b h k = h ∙ sym k

  pub gen_once : (a b : Told) → TellsGen codes count a → TellsGen codes count b → a ≡ b
  gen_once a b (p, is, h) (q, goes, k) = fixed_once q a b (subst (λ (r : Result Prepared Told). TellsFixed r codes count a) (prepares_once texts fixed_under p q is goes) h) k

-- ---- and something is

-- a job that is prepared is the one that was read
under_by : (under : JobUnder) (p : Prepared) (found : Result (List JobProgram) RefusedScript) → Ok p ≡ prepared under found → p.under ≡ under
under_by under p (Ok []) at = absurd cc
under_by under p (Ok (first ∷ more)) at =
    let same : p ≡ record { under = under; programs = record { first = first; more = more } } = cc in ap (λ (r : Prepared). r.under) same
under_by under p (Err wrong) at = absurd cc

fixed_context : (p : Prepared) → Prepares fixed_under (Ok p) → p.under.job.context ≡ c.Field
fixed_context p (found, is, at) = ap (λ (u : JobUnder). u.job.context) (under_by fixed_under p found at)

module _ (texts : TextsAreAnswered) (ends : ProgramsEnd) (counted : ListedCodesCount) (codes : List ScriptCodes) (count : ℕ) where
  fixed_some : (answer : Result Prepared Told) → Prepares fixed_under answer → AreCodesBy answer codes → (told : Told) × TellsFixed answer codes count told
  fixed_some (Ok p) is are =
      let r = are_some (IsAnswerOf p codes) (answer_some ends counted p codes (fixed_context p is) (prepares_program fixed_under p is) are) (numbers_behind count 0) in
      let t = tallied nothing_counted r.0 in
      (summary_told codes count t, (t, (r.0, r.1, refl), refl))
  fixed_some (Err wrong) is are = (wrong, refl)

  pub gen_some : AreFixedCodes codes → (told : Told) × TellsGen codes count told
  gen_some are =
      let p = prepares_some texts fixed_under in
      let t = fixed_some p.0 p.1 (are p.0 p.1) in
      (t.0, (p.0, p.1, t.1))
