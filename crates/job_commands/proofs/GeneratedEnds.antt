-- What is delivered of the documents of the generator.
use Rattle.std.proofs.Common.{◌≡◌, ℕ, List, Option, IfSome, Ok, map, inl, inr, refl, sym, ap, ◌∙◌, subst}
use Rattle.object_values.specs.declared.value.Value.{Value}
use Rattle.script_engine.specs.Agreeing.{types_in}
use Rattle.script_engine.specs.Laws.{TextsAreAnsweredOnce, ProgramsEndOnce, CodesCountOnce}
use Rattle.script_engine.specs.SourceMeaningPrograms.{variable_of}
use Rattle.script_engine.specs.Types.{HaveAll}
use Rattle.job_file.specs.Answers.{job_view}
use Rattle.job_file.specs.declared.context.JobContext.{JobContext}
use Rattle.job_file.specs.declared.context.JobContext.TheVariants as c
use Rattle.search_ctx.specs.declared.line.SearchKind.{SearchKind}
use Rattle.search_ctx.specs.declared.line.SearchKind.TheVariants as k
use Rattle.command_parts.specs.declared.report.Report.{Report}
use Rattle.command_parts.specs.declared.status.Status.{Status}
use Rattle.command_parts.specs.declared.status.Status.TheVariants as s
use Rattle.command_parts.specs.DeliversOver.{DeliversOver}
use Rattle.command_parts.specs.Ends.{Content, Outside, IsDelivered}
use Rattle.command_parts.specs.Reports.{Reports}
use Rattle.command_parts.specs.Told.{Told}
use Rattle.command_parts.proofs.Delivering.{none_delivers}
use Rattle.command_parts.proofs.Ends.{told_is_delivered}
use Rattle.document_replies.specs.declared.job.DocumentJob.{DocumentJob}
use Rattle.document_replies.specs.declared.search.SearchContext.{SearchContext}
use Rattle.document_replies.specs.Searches.{Documents, HasArguments, documents_of}
use Rattle.job_commands.specs.Answers.{IsAnswerOf}
use Rattle.job_commands.specs.Contexts.{documents_in, types_of}
use Rattle.job_commands.specs.Documents.{IsDocumentJob}
use Rattle.job_commands.specs.FixedJob.{fixed_under}
use Rattle.job_commands.specs.Generated.{AreFixedCodes, TellsGen, summary_told}
use Rattle.job_commands.specs.GeneratedEnds.{GivesAnswers, EndsFixed}
use Rattle.job_commands.specs.Preparing.{AreJobScripts, IsReady, TakesThem, with_programs, codes_of}
use Rattle.job_commands.specs.Scripts.{JobPrograms, Prepares}
use Rattle.job_commands.specs.Tellings.{gen_telling}
use Rattle.job_commands.specs.declared.preparing.PreparedJob.{PreparedJob}
use Rattle.job_commands.specs.declared.script.LimitedScript.{LimitedScript}
use Rattle.job_commands.proofs.Answering.{answers_mean, tally_map}
use Rattle.job_commands.proofs.GeneratedTelling.{gen_once}
use Rattle.job_commands.proofs.Typed.{has_types}

-- the job's script takes the arguments of its documents
pub fixed_ready : (context : SearchContext) (job : PreparedJob) (d : DocumentJob SearchContext LimitedScript) → IsDocumentJob context job d → documents_of context ≡ documents_in k.Field (job_view job.found.job)
    → job.found.job.context ≡ c.Field → IsReady job → (args : List Value) → HasArguments d.context.kind args → TakesThem d.script args
fixed_ready context job d is seen field (program, ready) args has =
    let kind : d.context.kind ≡ k.Field = ap (λ (x : SearchContext). x.kind) is.0 ∙ ap (λ (x : Documents). x.kind) seen in
    let typed : HaveAll (types_in (map variable_of (types_of job.found.job.context program.key).variables)) args =
    subst (λ (x : JobContext). HaveAll (types_in (map variable_of (types_of x program.key).variables)) args) (sym field)
    (has_types k.Field args (subst (λ (x : SearchKind). HasArguments x args) kind has)) in
    subst (λ (s : LimitedScript). TakesThem s args) (sym is.2) (ready.rows, ready.takes args typed)

module _ (texts : TextsAreAnsweredOnce) (ends : ProgramsEndOnce) (counts : CodesCountOnce) (count : ℕ) (r : Report) (before after : Outside) (content : Content)
    (shown : IfSome before.content (λ known. known ≡ content)) (job : PreparedJob) (programs : JobPrograms) (is : Prepares fixed_under (Ok (with_programs job programs)))
    (scripts : AreJobScripts job programs) (of : job.found.job.context ≡ c.Field) (are : AreFixedCodes (codes_of job.scripts)) where
  abbrev Reported : List ℕ → Told → Type 0
  Reported input told = TellsGen (codes_of job.scripts) count told × Reports told r

  pub fixed_delivers : EndsFixed job count r before.held after.held → IsDelivered (gen_telling count) before after r
  fixed_delivers (inl (at, same)) = (
    content,
    shown,
    codes_of job.scripts,
    inl are,
    subst (λ (t : Status). DeliversOver Reported (λ front told. ⊥) (λ front. ⊥) t before.left after.left before.held after.held) (sym at)
        (subst (λ (n : Option (List ℕ)). DeliversOver Reported (λ front told. ⊥) (λ front. ⊥) s.NoMemory before.left after.left before.held n) (sym same)
        (none_delivers Reported (λ front told. ⊥) (λ front. ⊥) before.left after.left before.held)),
  )
  fixed_delivers (inr h) =
      let codes = codes_of job.scripts in
      let means = tally_map (GivesAnswers job) (IsAnswerOf (with_programs job programs) codes) (answers_mean job programs scripts of) count h.tally h.is in
      told_is_delivered (gen_telling count) before after r r.status refl content shown codes (inl are) (λ input a b h k. gen_once texts ends counts codes count a b h k)
      (summary_told codes count h.tally) tt (λ input. (Ok (with_programs job programs), is, (h.tally, means, refl))) h.reports h.writes
