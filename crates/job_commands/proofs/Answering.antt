-- The answers of the code are those of the definition, and each document has one.
use Rattle.std.proofs.Common.{◌≡◌, ℕ, List, [], ◌∷◌, Some, Result, Ok, Err, refl, sym, ap, ◌∙◌, subst}
use Rattle.script_engine.specs.Codes.{ScriptCodes}
use Rattle.script_engine.specs.Laws.{ProgramsEnd, ProgramsEndOnce, CodesCountOnce, ListedCodesCount}
use Rattle.job_file.specs.Answers.{job_view}
use Rattle.job_file.specs.declared.context.JobContext.TheVariants as c
use Rattle.search_ctx.specs.declared.line.SearchKind.TheVariants as k
use Rattle.document_replies.specs.Starts.{Start, Fault}
use Rattle.document_replies.specs.declared.job.DocumentJob.{DocumentJob}
use Rattle.document_replies.specs.declared.search.SearchContext.{SearchContext}
use Rattle.document_replies.specs.Jobs.{by_start}
use Rattle.document_replies.specs.Replies.{Ended}
use Rattle.document_replies.specs.Searches.{Documents, HasArguments, documents_of}
use Rattle.document_replies.proofs.Arguments.{bound_takes, start_takes}
use Rattle.job_commands.specs.Contexts.{documents_in}
use Rattle.job_commands.specs.Documents.{IsDocumentJob, limited}
use Rattle.job_commands.specs.Listing.{AreCodesOf}
use Rattle.job_commands.specs.Preparing.{AreJobScripts, EndsAsItsProgram, codes_of, with_programs}
use Rattle.job_commands.specs.Running.{EndsOver}
use Rattle.job_commands.specs.Scripts.{JobPrograms, Prepared}
use Rattle.job_commands.specs.declared.preparing.PreparedJob.{PreparedJob}
use Rattle.job_commands.specs.declared.script.LimitedScript.{LimitedScript}
use Rattle.job_commands.proofs.Jobs.{HasProgram}
use Rattle.job_commands.proofs.Replies.{ends_over, over_once, over_some}
use Rattle.job_commands.proofs.Typed.{field_takes}
use Rattle.job_commands.specs.declared.answer.Answer.{Answer}
use Rattle.job_commands.specs.declared.tally.Tally.{Tally}
use Rattle.job_commands.specs.Answers.{answer_of, no_answer, IsAnswer, IsAnswerTo, IsAnswerOf, AreAnswers, start_over}
use Rattle.job_commands.specs.GeneratedEnds.{GivesAnswers}
use Rattle.job_commands.specs.Generator.{document_of, numbers_behind}
use Rattle.job_commands.specs.Generated.{IsTally}

-- ---- lists of answers

are_map : (P Q : ℕ → Answer → Type 0) → ((x : ℕ) (answer : Answer) → P x answer → Q x answer) → (xs : List ℕ) (answers : List Answer) → AreAnswers P xs answers → AreAnswers Q xs answers
are_map P Q to [] [] are = tt
are_map P Q to (x ∷ xs) (answer ∷ answers) are = (to x answer are.0, are_map P Q to xs answers are.1)
are_map P Q to [] (answer ∷ answers) are = absurd are
are_map P Q to (x ∷ xs) [] are = absurd are

pub are_some : (P : ℕ → Answer → Type 0) → ((x : ℕ) → (answer : Answer) × P x answer) → (xs : List ℕ) → (answers : List Answer) × AreAnswers P xs answers
are_some P some [] = ([], tt)
are_some P some (x ∷ xs) = let one = some x in let rest = are_some P some xs in (one.0 ∷ rest.0, (one.1, rest.1))

pub are_once : (P : ℕ → Answer → Type 0) → ((x : ℕ) (a b : Answer) → P x a → P x b → a ≡ b) → (xs : List ℕ) (first answers : List Answer) → AreAnswers P xs first → AreAnswers P xs answers → first ≡ answers
are_once P once [] [] [] a b = refl
are_once P once [] [] (answer ∷ answers) a b = absurd b
are_once P once [] (answer ∷ first) answers a b = absurd a
are_once P once (x ∷ xs) [] answers a b = absurd a
are_once P once (x ∷ xs) (answer ∷ first) [] a b = absurd b
are_once P once (x ∷ xs) (answer ∷ first) (other ∷ answers) a b =
    ap (λ (r : Answer). r ∷ first) (once x answer other a.0 b.0) ∙ ap (λ (l : List Answer). other ∷ l) (are_once P once xs first answers a.1 b.1)

pub tally_map : (P Q : ℕ → Answer → Type 0) → ((x : ℕ) (answer : Answer) → P x answer → Q x answer) → (count : ℕ) (t : Tally) → IsTally P count t → IsTally Q count t
tally_map P Q to count t (answers, are, is) = (answers, are_map P Q to (numbers_behind count 0) answers are, is)

-- ---- one answer

-- a run over a document has the arguments of the kind
pub over_takes : (documents : Documents) (x : ℕ) (start : Start) → start_over documents x ≡ Ok start → HasArguments documents.kind start.args
over_takes documents x start is =
    start_takes documents.kind start (start_over documents x) (bound_takes documents.kind documents.fields documents.params documents.room (Some (document_of x))) is

answer_to : (Code Means : Start → Ended → Type 0) (bound : Result Start Fault) (answer : Answer) → ((start : Start) → bound ≡ Ok start → (ran : Ended) → Code start ran → Means start ran)
    → IsAnswerTo Code bound answer → IsAnswerTo Means bound answer
answer_to Code Means (Err wrong) answer to is = is
answer_to Code Means (Ok start) answer to (ran, ends, is) = (ran, to start refl ran ends, is)

pub answers_mean : (job : PreparedJob) (programs : JobPrograms) → AreJobScripts job programs → job.found.job.context ≡ c.Field → (x : ℕ) (answer : Answer) → GivesAnswers job x answer
    → IsAnswerOf (with_programs job programs) (codes_of job.scripts) x answer
answers_mean job programs scripts of x answer gives =
    let documents = documents_in k.Field (job_view job.found.job) in
    answer_to (by_start (EndsAsItsProgram (limited job))) (EndsOver (with_programs job programs) (codes_of job.scripts)) (start_over documents x) answer
    (λ start bound ran ends.
    ends_over job programs scripts start ran (field_takes job.found.job.context programs.first.key start.args of (over_takes documents x start bound)) ends) gives

-- the answers of what replies to the documents are those of its job
pub tally_so : (context : SearchContext) (job : PreparedJob) (d : DocumentJob SearchContext LimitedScript) → IsDocumentJob context job d
    → documents_of context ≡ documents_in k.Field (job_view job.found.job) → (count : ℕ) (t : Tally) → IsTally (IsAnswer (documents_of d.context) (by_start (EndsAsItsProgram d.script))) count t → IsTally (GivesAnswers job) count t
tally_so context job d is documents count t h =
    subst (λ (x : Documents). IsTally (IsAnswer x (by_start (EndsAsItsProgram (limited job)))) count t) (ap documents_of is.0 ∙ documents)
    (subst (λ (s : LimitedScript). IsTally (IsAnswer (documents_of d.context) (by_start (EndsAsItsProgram s))) count t) is.2 h)

module _ (ends : ProgramsEndOnce) (counts : CodesCountOnce) (p : Prepared) (codes : List ScriptCodes) where
  to_once : (bound : Result Start Fault) (a b : Answer) → IsAnswerTo (EndsOver p codes) bound a → IsAnswerTo (EndsOver p codes) bound b → a ≡ b
  to_once (Err wrong) a b h k = h ∙ sym k
  to_once (Ok start) a b (ran, ended, is) (other, ended', at) = is ∙ ap answer_of (over_once ends counts p codes start ran other ended ended') ∙ sym at

  pub answer_once : (x : ℕ) (a b : Answer) → IsAnswerOf p codes x a → IsAnswerOf p codes x b → a ≡ b
  answer_once x = to_once (start_over (documents_in k.Field p.under.job) x)

module _ (ends : ProgramsEnd) (counted : ListedCodesCount) (p : Prepared) (codes : List ScriptCodes) (of : p.under.job.context ≡ c.Field) (has : HasProgram p) (are : AreCodesOf p codes) where
  to_some : (bound : Result Start Fault) → ((start : Start) → bound ≡ Ok start → HasArguments k.Field start.args) → (answer : Answer) × IsAnswerTo (EndsOver p codes) bound answer
  to_some (Err wrong) all = (no_answer, refl)
  to_some (Ok start) all =
      let ran = over_some ends counted p has codes are start (field_takes p.under.job.context p.programs.first.key start.args of (all start refl)) in
      (answer_of ran.0, (ran.0, ran.1, refl))

  pub answer_some : (x : ℕ) → (answer : Answer) × IsAnswerOf p codes x answer
  answer_some x = to_some (start_over (documents_in k.Field p.under.job) x) (λ start bound. over_takes (documents_in k.Field p.under.job) x start bound)
