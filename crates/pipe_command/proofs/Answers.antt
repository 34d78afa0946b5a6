-- What the scripts of the code answer is what is meant, each script has one answer to each document, and so there is one reply to each line.
use Rattle.std.proofs.Common.{◌≡◌, ℕ, zero, suc, Bool, true, false, List, [], ◌∷◌, ◌&&◌, Result, Ok, Err, map, refl, sym, ap, ◌∙◌, subst, if◌then◌else◌}
use Rattle.std.specs.Prelude.{slice_get}
use Rattle.std.proofs.Math.Path.{fun_ext}
use Rattle.serde_json.specs.Data.{Data}
use Rattle.serde_json.specs.View.{view}
use Rattle.object_heap.specs.Store.{Store}
use Rattle.object_values.specs.declared.value.Value.{Value}
use Rattle.job_commands.specs.Agreeing.{types_in}
use Rattle.job_commands.specs.Codes.{Counts, ScriptCodes, script_codes}
use Rattle.job_commands.specs.Laws.{ProgramsEnd, ProgramsEndOnce, CodesCountOnce, ListedCodesCount}
use Rattle.job_commands.specs.Programs.{IsProgramOf}
use Rattle.job_commands.specs.EngineRunning.{end_seen}
use Rattle.job_commands.specs.Seen.{limits_of as machine_limits}
use Rattle.job_commands.specs.SourceMeaningPrograms.{variable_of}
use Rattle.job_commands.specs.Types.{HaveAll}
use Rattle.job_commands.specs.machine_declared.configuration.Limits.{Limits}
use Rattle.job_file.specs.Values.{has_whole_numbers}
use Rattle.job_file.specs.declared.context.JobContext.{JobContext}
use Rattle.job_file.specs.declared.context.JobContext.TheVariants as c
use Rattle.document_replies.specs.Jobs.{by_start}
use Rattle.document_replies.specs.Replies.{Ended}
use Rattle.document_replies.specs.Starts.{Start, Fault, field, number_outside}
use Rattle.document_replies.specs.write_ctx_declared.keys.WriteKind.{WriteKind}
use Rattle.document_replies.proofs.Changing.{StartHasCtx}
use Rattle.write_ctx.specs.Keys.{is_line}
use Rattle.write_ctx.specs.Lines.{bound_document, started}
use Rattle.job_loading.specs.Allow.{AllowList}
use Rattle.job_loading.specs.Loading.{JobUnder}
use Rattle.job_loading.specs.Seen.{read_view}
use Rattle.pipe_job.specs.Code.{AnswersAt, AnswersIn as CodeAnswersIn, Mean, TakeAll}
use Rattle.pipe_job.specs.Documents.{edited_by, judged_by, line_of_doc}
use Rattle.pipe_job.specs.PipeDocuments.{DocData}
use Rattle.pipe_job.specs.Replies.{Answer, IsAnswerTo, answer_of, meaning_of, wrong_answer}
use Rattle.pipe_job.specs.declared.answers.PipedScript.{PipedScript}
use Rattle.pipe_job.specs.ingest_pipe_declared.scripts.PipeScript.{PipeScript}
use Rattle.job_commands.specs.Contexts.{types_of}
use Rattle.job_commands.specs.Listing.{AreEachCodes, AreScriptCodes}
use Rattle.job_commands.specs.Preparing.{EndsAsItsProgram, TakesThem}
use Rattle.job_commands.specs.Running.{EndsBeside, world_in}
use Rattle.job_commands.specs.Scripts.{JobProgram}
use Rattle.job_commands.specs.declared.script.LimitedScript.{LimitedScript}
use Rattle.job_commands.proofs.Jobs.{AreRead}
use Rattle.job_commands.proofs.Replies.{beside_once, beside_some, end_back, objects_back, reached_back}
use Rattle.job_commands.proofs.Typed.{pipe_takes}
use Rattle.pipe_command.specs.Answering.{AllAnswer, AnswersBy, AnswersIn, alone, kind_of}
use Rattle.pipe_command.specs.Pipelines.{Piped}
use Rattle.pipe_command.specs.Preparing.{ArePiped, IsPiped, codes_of, limits_of}
use Rattle.pipe_command.specs.declared.reading.ReadPipe.{ReadPipe}

-- ---- arguments

started_has : (kind : WriteKind) (params : Data) (room : ℕ) (line : Data) → StartHasCtx (Ok (started kind params room line))
started_has kind params room line = (_, _, refl)

document_has : (kind : WriteKind) (params : Data) (room : ℕ) (line : Data) → StartHasCtx (bound_document kind params room line)
document_has kind params room line = by (has_whole_numbers line && has_whole_numbers params) (is_line kind line) where
  by : (whole right : Bool) → StartHasCtx (if whole then (if right then Ok (started kind params room line) else Err field) else Err number_outside)
  by true true = started_has kind params room line
  by true false = tt
  by false right = tt

-- the arguments of a start are of the types of a pipeline's scripts
abbrev HaveTypes : JobContext → List ℕ → List Value → Type 0
HaveTypes context path args = HaveAll (types_in (map variable_of (types_of context path).variables)) args

start_takes : (context : JobContext) (path : List ℕ) (kind : WriteKind) (params : Data) (room : ℕ) (line : Data) (start : Start) → context ≡ c.Pipe → bound_document kind params room line ≡ Ok start
    → HaveTypes context path start.args
start_takes context path kind params room line start pipe is =
    subst (λ (x : JobContext). HaveTypes x path start.args) (sym pipe) (pipe_takes path start.args (subst StartHasCtx is (document_has kind params room line)))

abbrev Takes : LimitedScript → List Value → Type 0
Takes s args = TakesThem s args

abbrev Ends : LimitedScript → Store → List Value → Ended → Type 0
Ends s store args ran = EndsAsItsProgram s store args ran

module _ (read : ReadPipe) (pipe : read.found.job.context ≡ c.Pipe) where
  abbrev room : ℕ
  room = read.found.job.limits.room

  abbrev under : JobUnder
  under = read_view read.found

  one_takes : (script : PipeScript) (program : JobProgram) (x : PipedScript LimitedScript) → IsPiped read script program x → (doc : DocData) (start : Start)
      → bound_document x.kind (view x.params.json) room (line_of_doc doc) ≡ Ok start → TakesThem x.script start.args
  one_takes script program x is doc start bound =
      (is.stands.rows, is.stands.takes start.args (start_takes read.found.job.context program.key x.kind (view x.params.json) room (line_of_doc doc) start pipe bound))

  -- each script takes the arguments of every start
  pub all_take : (scripts : List PipeScript) (programs : List JobProgram) (xs : List (PipedScript LimitedScript)) → ArePiped read scripts programs xs → TakeAll Takes xs room
  all_take [] [] [] are place = tt
  all_take [] [] (x ∷ xs) are place = absurd are
  all_take [] (program ∷ programs) xs are place = absurd are
  all_take (script ∷ scripts) [] xs are place = absurd are
  all_take (script ∷ scripts) (program ∷ programs) [] are place = absurd are
  all_take (script ∷ scripts) (program ∷ programs) (x ∷ xs) are zero = one_takes script program x are.0
  all_take (script ∷ scripts) (program ∷ programs) (x ∷ xs) are (suc place) = all_take scripts programs xs are.1 place

  -- ---- answers of the code

  -- a run of the code leaves what the program's leaves
  ends_so : (script : PipeScript) (program : JobProgram) (x : PipedScript LimitedScript) → IsPiped read script program x → (start : Start) (ran : Ended)
      → HaveTypes read.found.job.context program.key start.args → EndsAsItsProgram x.script start.store start.args ran → EndsBeside (alone under program) (script_codes x.script.script) start ran
  ends_so script program x is start ran has before =
      let limited : LimitedScript = record { script = x.script.script; limits = limits_of read } in
      let same : x.script ≡ limited = ap (λ (l : Limits). record { script = x.script.script; limits = l }) is.limits in
      let ends : EndsAsItsProgram limited start.store start.args ran = subst (λ (s : LimitedScript). EndsAsItsProgram s start.store start.args ran) same before in
      let of = is.stands.of in
      let out = ends.leaves under.allow (types_of read.found.job.context program.key) program.program of has in
      record {
        ended = end_seen ran.end out.0;
        runs = out.1;
        counts =
            subst (λ (a : AllowList). Counts (script_codes x.script.script) (machine_limits (limits_of read) a) start.args (world_in (alone under program) start.store) ran.steps) of.allowed
            ends.counts;
        end = end_back ran.end out.0;
        objects = out.2 ∙ objects_back ran.end out.0;
        reached = out.3 ∙ reached_back ran.end out.0;
      }

  to_meaning : (kind : WriteKind) (Code Means : Start → Ended → Type 0) (bound : Result Start Fault) (answer : Answer) → ((start : Start) → bound ≡ Ok start → (ran : Ended) → Code start ran → Means start ran)
      → IsAnswerTo kind Code bound answer → IsAnswerTo kind Means bound answer
  to_meaning kind Code Means (Err wrong) answer to is = is
  to_meaning kind Code Means (Ok start) answer to (ran, ends, is) = (ran, to start refl ran ends, is)

  one_answers : (script : PipeScript) (program : JobProgram) (x : PipedScript LimitedScript) → IsPiped read script program x → (doc : DocData) (answer : Answer)
      → IsAnswerTo x.kind (by_start (Ends x.script)) (bound_document x.kind (view x.params.json) room (line_of_doc doc)) answer → AnswersBy under script program (script_codes x.script.script) doc answer
  one_answers script program x is doc answer h =
      subst (λ (k : WriteKind). IsAnswerTo k (EndsBeside (alone under program) (script_codes x.script.script)) (bound_document k script.params room (line_of_doc doc)) answer) is.kind
      (subst (λ (d : Data). IsAnswerTo x.kind (EndsBeside (alone under program) (script_codes x.script.script)) (bound_document x.kind d room (line_of_doc doc)) answer) is.params
      (to_meaning x.kind (by_start (Ends x.script)) (EndsBeside (alone under program) (script_codes x.script.script)) (bound_document x.kind (view x.params.json) room (line_of_doc doc)) answer
      (λ start bound ran ends.
      ends_so script program x is start ran (start_takes read.found.job.context program.key x.kind (view x.params.json) room (line_of_doc doc) start pipe bound) ends) h))

  all_answer : (scripts : List PipeScript) (programs : List JobProgram) (xs : List (PipedScript LimitedScript)) → ArePiped read scripts programs xs → (place : ℕ) (doc : DocData) (answer : Answer)
      → CodeAnswersIn Ends (slice_get xs place) room doc answer → AnswersIn under scripts programs (codes_of xs) place doc answer
  all_answer [] [] [] are place doc answer h = h
  all_answer [] [] (x ∷ xs) are place doc answer h = absurd are
  all_answer [] (program ∷ programs) xs are place doc answer h = absurd are
  all_answer (script ∷ scripts) [] xs are place doc answer h = absurd are
  all_answer (script ∷ scripts) (program ∷ programs) [] are place doc answer h = absurd are
  all_answer (script ∷ scripts) (program ∷ programs) (x ∷ xs) are zero doc answer h = one_answers script program x are.0 doc answer h
  all_answer (script ∷ scripts) (program ∷ programs) (x ∷ xs) are (suc place) doc answer h = all_answer scripts programs xs are.1 place doc answer h

-- ---- there is one answer

module _ (ends : ProgramsEndOnce) (counts : CodesCountOnce) (under : JobUnder) where
  to_once : (kind : WriteKind) (program : JobProgram) (codes : ScriptCodes) (bound : Result Start Fault) (a b : Answer) → IsAnswerTo kind (EndsBeside (alone under program) codes) bound a
      → IsAnswerTo kind (EndsBeside (alone under program) codes) bound b → a ≡ b
  to_once kind program codes (Err wrong) a b h k = h ∙ sym k
  to_once kind program codes (Ok start) a b (ran, ended, is) (other, ended', at) =
      is ∙ ap (answer_of kind start) (beside_once ends counts (alone under program) codes start ran other ended ended') ∙ sym at

  pub answer_once : (scripts : List PipeScript) (programs : List JobProgram) (codes : List ScriptCodes) (place : ℕ) (doc : DocData) (a b : Answer)
      → AnswersIn under scripts programs codes place doc a → AnswersIn under scripts programs codes place doc b → a ≡ b
  answer_once [] programs codes place doc a b h k = h ∙ sym k
  answer_once (script ∷ scripts) [] codes place doc a b h k = h ∙ sym k
  answer_once (script ∷ scripts) (program ∷ programs) [] place doc a b h k = h ∙ sym k
  answer_once (script ∷ scripts) (program ∷ programs) (one ∷ codes) zero doc a b h k =
      to_once (kind_of script.path) program one (bound_document (kind_of script.path) script.params under.job.limits.room (line_of_doc doc)) a b h k
  answer_once (script ∷ scripts) (program ∷ programs) (one ∷ codes) (suc place) doc a b h k = answer_once scripts programs codes place doc a b h k

module _ (ends : ProgramsEndOnce) (counts : CodesCountOnce) (p : Piped) (codes : List ScriptCodes) where
  -- so all answers are the same
  pub answers_once : (a b : ℕ → DocData → Answer) → AllAnswer p codes a → AllAnswer p codes b → a ≡ b
  answers_once a b h k =
      fun_ext (λ place. fun_ext (λ doc. answer_once ends counts p.of.under p.of.pipeline.scripts p.programs codes place doc (a place doc) (b place doc) (h place doc) (k place doc)))

-- what scripts mean by the answers that are meant, those of the code mean
module _ (ends : ProgramsEndOnce) (counts : CodesCountOnce) (read : ReadPipe) (pipe : read.found.job.context ≡ c.Pipe) (programs : List JobProgram) (xs : List (PipedScript LimitedScript))
    (are : ArePiped read read.pipeline.scripts programs xs) (answers : ℕ → DocData → Answer)
    (all : (place : ℕ) (doc : DocData) → AnswersIn (read_view read.found) read.pipeline.scripts programs (codes_of xs) place doc (answers place doc)) where
  same : (place : ℕ) (doc : DocData) (answer : Answer) → AnswersAt Ends xs read.found.job.limits.room place doc answer → answers place doc ≡ answer
  same place doc answer h =
      answer_once ends counts (read_view read.found) read.pipeline.scripts programs (codes_of xs) place doc (answers place doc) answer (all place doc)
      (all_answer read pipe read.pipeline.scripts programs xs are place doc answer h)

  pub code_means : Mean Ends xs read.found.job.limits.room (meaning_of answers)
  code_means = record {
    tested = λ place doc answer h. ap (λ (a : Answer). judged_by a.reply) (same place doc answer h);
    changed = λ place doc answer h. ap (λ (a : Answer). edited_by a.reply) (same place doc answer h);
    cost = λ place doc answer h. ap (λ (a : Answer). a.steps) (same place doc answer h);
  }

-- ---- .. and there is some

module _ (ends : ProgramsEnd) (counted : ListedCodesCount) (under : JobUnder) (pipe : under.job.context ≡ c.Pipe) where
  to_some : (kind : WriteKind) (program : JobProgram) (codes : ScriptCodes) (bound : Result Start Fault) → ((text : List ℕ) × IsProgramOf under.allow (types_of under.job.context program.key) text (Ok program.program))
      → AreScriptCodes under program codes → ((start : Start) → bound ≡ Ok start → HaveTypes under.job.context program.key start.args)
      → (answer : Answer) × IsAnswerTo kind (EndsBeside (alone under program) codes) bound answer
  to_some kind program codes (Err wrong) is listed has = (wrong_answer wrong, refl)
  to_some kind program codes (Ok start) is listed has =
      let ran = beside_some ends counted (alone under program) is codes listed.script start (has start refl) in
      (answer_of kind start ran.0, (ran.0, ran.1, refl))

  pub answer_some : (scripts : List PipeScript) (programs : List JobProgram) (codes : List ScriptCodes) → AreRead under programs → AreEachCodes under programs codes → (place : ℕ) (doc : DocData)
      → (answer : Answer) × AnswersIn under scripts programs codes place doc answer
  answer_some [] programs codes is are place doc = (wrong_answer field, refl)
  answer_some (script ∷ scripts) [] codes is are place doc = (wrong_answer field, refl)
  answer_some (script ∷ scripts) (program ∷ programs) [] is are place doc = (wrong_answer field, refl)
  answer_some (script ∷ scripts) (program ∷ programs) (one ∷ codes) is are zero doc =
      to_some (kind_of script.path) program one (bound_document (kind_of script.path) script.params under.job.limits.room (line_of_doc doc)) is.0 are.0
      (λ start bound. start_takes under.job.context program.key (kind_of script.path) script.params under.job.limits.room (line_of_doc doc) start pipe bound)
  answer_some (script ∷ scripts) (program ∷ programs) (one ∷ codes) is are (suc place) doc = answer_some scripts programs codes is.1 are.1 place doc
