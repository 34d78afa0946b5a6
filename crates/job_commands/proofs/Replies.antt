-- The replies of the code are those of the definition, and each line has one.
use Rattle.std.proofs.Common.{◌≡◌, ℕ, Bool, true, false, List, [], ◌∷◌, Some, Result, Ok, Err, map, refl, sym, ap, ◌∙◌, subst}
use Rattle.object_values.specs.declared.object.Object.{Object}
use Rattle.object_heap.specs.declared.outcome.End.{End}
use Rattle.object_heap.specs.declared.outcome.End.TheVariants as o
use Rattle.object_heap.specs.declared.outcome.Which.{Which}
use Rattle.object_heap.specs.declared.outcome.Which.TheVariants as which
use Rattle.script_engine.specs.World.{World}
use Rattle.job_loading.specs.Allow.{AllowList}
use Rattle.script_engine.specs.machine_declared.configuration.Limits.{Limits}
use Rattle.script_engine.specs.Seen.{limit_of, limits_of}
use Rattle.outer_io.specs.Lines.{InputLine, Within, Beyond, Nothing}
use Rattle.script_engine.specs.Codes.{Counts, IsListed, ScriptCodes, empty_program, script_codes}
use Rattle.script_engine.specs.Agreeing.{types_in}
use Rattle.script_engine.specs.Laws.{ProgramsEnd, ProgramsEndOnce, CodesCountOnce, ListedCodesCount}
use Rattle.script_engine.specs.Running.{end_seen}
use Rattle.script_engine.specs.SourceMeaningPrograms.{variable_of}
use Rattle.script_engine.specs.Types.{HaveAll}
use Rattle.script_engine.specs.typing_rules_declared.header.ContextTypes.{ContextTypes}
use Rattle.job_file.specs.Answers.{job_view}
use Rattle.document_replies.specs.Starts.{Start, Fault}
use Rattle.document_replies.specs.LineRunReplies.{Reply, no_reply}
use Rattle.job_loading.specs.Refusals.{line_error}
use Rattle.job_loading.specs.job_replies_declared.line_fault.LineFault.TheVariants as fault
use Rattle.document_replies.specs.Jobs.{by_start}
use Rattle.document_replies.specs.Replies.{Context, Ended, is_blank, as_line, reply_to_run, fault_of, IsReply, IsReplyTo, IsReplyUnless}
use Rattle.job_loading.specs.Seen.{read_view}
use Rattle.job_commands.specs.Contexts.{context_in, types_of}
use Rattle.job_commands.specs.Documents.{limited, GivesReplies}
use Rattle.job_commands.specs.Listing.{AreCodesOf}
use Rattle.job_commands.specs.Preparing.{AreJobScripts, EndsAsItsProgram, codes_of, with_programs}
use Rattle.job_commands.specs.Running.{limits_in, world_in, which_of, end_of, objects_of, reached_of, EndsBeside, EndsOver, IsReplyOf}
use Rattle.job_commands.specs.Scripts.{JobPrograms, Prepared}
use Rattle.job_commands.specs.declared.preparing.PreparedJob.{PreparedJob}
use Rattle.job_commands.proofs.Jobs.{HasProgram}
use Rattle.job_commands.proofs.Typed.{row_context, starts_take}

-- ---- the code's replies

which_back : (w : Which) → w ≡ which_of (limit_of w)
which_back which.Loop = refl
which_back which.Depth = refl
which_back which.Ticks = refl
which_back which.Room = refl

-- an end of the code as that of a run
pub end_back : (end : End) (w : World) → end ≡ end_of (end_seen end w)
end_back (o.Value value) w = refl
end_back (o.Thrown id place) w = refl
end_back (o.Limit limit place) w = ap (λ (x : Which). o.Limit x place) (which_back limit)

pub objects_back : (end : End) (w : World) → w.store.objects ≡ objects_of (end_seen end w)
objects_back (o.Value value) w = refl
objects_back (o.Thrown id place) w = refl
objects_back (o.Limit limit place) w = refl

pub reached_back : (end : End) (w : World) → w.reached ≡ reached_of (end_seen end w)
reached_back (o.Value value) w = refl
reached_back (o.Thrown id place) w = refl
reached_back (o.Limit limit place) w = refl

-- a run of the code leaves what the program's leaves
pub ends_over : (job : PreparedJob) (programs : JobPrograms) → AreJobScripts job programs → (start : Start) (ran : Ended)
    → HaveAll (types_in (map variable_of (types_of job.found.job.context programs.first.key).variables)) start.args → by_start (EndsAsItsProgram (limited job)) start ran
    → EndsOver (with_programs job programs) (codes_of job.scripts) start ran
ends_over job programs scripts start ran has ends =
    let is = scripts.0.of in
    let out = ends.leaves (read_view job.found).allow (types_of job.found.job.context programs.first.key) programs.first.program is has in
    record {
      ended = end_seen ran.end out.0;
      runs = out.1;
      counts =
          subst (λ (a : AllowList). Counts (script_codes job.scripts.first) (limits_of (limited job).limits a) start.args (world_in (with_programs job programs) start.store) ran.steps) is.allowed
          ends.counts;
      end = end_back ran.end out.0;
      objects = out.2 ∙ objects_back ran.end out.0;
      reached = out.3 ∙ reached_back ran.end out.0;
    }

-- what is wrong with a line, or what its run leaves
reply_to : (allow : AllowList) (context : Context) (Code Means : Start → Ended → Type 0) (bound : Result Start Fault) (reply : Reply)
    → ((start : Start) → bound ≡ Ok start → (ran : Ended) → Code start ran → Means start ran) → IsReplyTo allow context Code bound reply → IsReplyTo allow context Means bound reply
reply_to allow context Code Means (Err wrong) reply to is = is
reply_to allow context Code Means (Ok start) reply to (ran, ends, is) = (ran, to start refl ran ends, is)

reply_unless : (blank : Bool) (allow : AllowList) (context : Context) (Code Means : Start → Ended → Type 0) (line : List ℕ) (reply : Reply)
    → ((start : Start) → context.start line ≡ Ok start → (ran : Ended) → Code start ran → Means start ran) → IsReplyUnless blank allow context Code line reply
    → IsReplyUnless blank allow context Means line reply
reply_unless true allow context Code Means line reply to is = is
reply_unless false allow context Code Means line reply to is = reply_to allow context Code Means (context.start line) reply to is

module _ (job : PreparedJob) (programs : JobPrograms) (context : Context) (scripts : AreJobScripts job programs) (over : context_in (job_view job.found.job) ≡ Some context) where
  -- under the list of the job
  listed_reply : (line : InputLine) (reply : Reply) → IsReply (read_view job.found).allow context (by_start (EndsAsItsProgram (limited job))) line reply
      → IsReplyOf context (with_programs job programs) (codes_of job.scripts) line reply
  listed_reply (Within line) reply gives =
      reply_unless (is_blank line) (read_view job.found).allow context (by_start (EndsAsItsProgram (limited job))) (EndsOver (with_programs job programs) (codes_of job.scripts)) line reply
      (λ start bound ran ends. ends_over job programs scripts start ran (starts_take (job_view job.found.job) programs.first.key context over line start bound) ends) gives
  listed_reply Beyond reply gives = gives
  listed_reply Nothing reply gives = gives

  pub gives_reply : (line : InputLine) (reply : Reply) → GivesReplies context job line reply → IsReplyOf context (with_programs job programs) (codes_of job.scripts) line reply
  gives_reply line reply gives =
      listed_reply line reply (subst (λ (a : AllowList). IsReply a context (by_start (EndsAsItsProgram (limited job))) line reply) scripts.0.of.allowed gives)

-- ---- each line has one reply

same_ended : (a b : Ended) → a.end ≡ b.end → a.objects ≡ b.objects → a.reached ≡ b.reached → a.steps ≡ b.steps → a ≡ b
same_ended a b end objects reached steps =
    ap (λ (x : End). record { end = x; objects = a.objects; reached = a.reached; steps = a.steps }) end
    ∙ ap (λ (l : List Object). record { end = b.end; objects = l; reached = a.reached; steps = a.steps }) objects
    ∙ ap (λ (l : List ℕ). record { end = b.end; objects = b.objects; reached = l; steps = a.steps }) reached
    ∙ ap (λ (n : ℕ). record { end = b.end; objects = b.objects; reached = b.reached; steps = n }) steps

module _ (ends : ProgramsEndOnce) (counts : CodesCountOnce) where
  pub beside_once : (p : Prepared) (codes : ScriptCodes) (start : Start) (a b : Ended) → EndsBeside p codes start a → EndsBeside p codes start b → a ≡ b
  beside_once p codes start a b h k =
      let same : h.ended ≡ k.ended = ends p.programs.first.program empty_program (limits_in p) start.args (world_in p start.store) h.ended k.ended h.runs k.runs in
      same_ended a b (h.end ∙ ap end_of same ∙ sym k.end) (h.objects ∙ ap objects_of same ∙ sym k.objects) (h.reached ∙ ap reached_of same ∙ sym k.reached)
      (counts codes (limits_in p) start.args (world_in p start.store) a.steps b.steps h.counts k.counts)

  pub over_once : (p : Prepared) (codes : List ScriptCodes) (start : Start) (a b : Ended) → EndsOver p codes start a → EndsOver p codes start b → a ≡ b
  over_once p [] start a b h k = absurd h
  over_once p (codes ∷ more) start a b h k = beside_once p codes start a b h k

  module _ (p : Prepared) (codes : List ScriptCodes) (context : Context) where
    to_once : (bound : Result Start Fault) (a b : Reply) → IsReplyTo p.under.allow context (EndsOver p codes) bound a → IsReplyTo p.under.allow context (EndsOver p codes) bound b → a ≡ b
    to_once (Err wrong) a b h k = h ∙ sym k
    to_once (Ok start) a b (ran, ended, is) (other, ended', at) = is ∙ ap (reply_to_run p.under.allow context start) (over_once p codes start ran other ended ended') ∙ sym at

    unless_once : (blank : Bool) (line : List ℕ) (a b : Reply) → IsReplyUnless blank p.under.allow context (EndsOver p codes) line a
        → IsReplyUnless blank p.under.allow context (EndsOver p codes) line b → a ≡ b
    unless_once true line a b h k = h ∙ sym k
    unless_once false line a b h k = to_once (context.start line) a b h k

    pub reply_once : (line : InputLine) (a b : Reply) → IsReplyOf context p codes line a → IsReplyOf context p codes line b → a ≡ b
    reply_once (Within line) a b h k = unless_once (is_blank line) line a b h k
    reply_once Beyond a b h k = h ∙ sym k
    reply_once Nothing a b h k = h ∙ sym k

-- ---- .. and each line has some

-- the limits as the machine takes them
abbrev machine_limits : Prepared → Limits
machine_limits p = record { loops = p.under.job.limits.loops; depth = p.under.job.limits.depth; ticks = p.under.job.limits.ticks }

module _ (ends : ProgramsEnd) (counted : ListedCodesCount) (p : Prepared) (has : HasProgram p) where
  -- the types of the variables of its first script
  abbrev types : ContextTypes
  types = types_of p.under.job.context p.programs.first.key

  pub beside_some : (codes : ScriptCodes) → IsListed p.under.allow types p.programs.first.program empty_program codes → (start : Start)
      → HaveAll (types_in (map variable_of types.variables)) start.args → (ran : Ended) × EndsBeside p codes start ran
  beside_some codes listed start all =
      let end =
      ends p.under.allow types has.0 p.programs.first.program (row_context p.under.job.context p.programs.first.key) has.1 (limits_in p) refl start.args all (world_in p start.store) in
      let count = counted p.under.allow types p.programs.first.program empty_program codes listed (machine_limits p) start.store start.args all in (
        record { end = end_of end.0; objects = objects_of end.0; reached = reached_of end.0; steps = count.0 },
        record { ended = end.0; runs = end.1; counts = count.1; end = refl; objects = refl; reached = refl },
      )

  pub over_some : (codes : List ScriptCodes) → AreCodesOf p codes → (start : Start) → HaveAll (types_in (map variable_of types.variables)) start.args → (ran : Ended) × EndsOver p codes start ran
  over_some [] are start all = absurd are
  over_some (codes ∷ more) are start all = beside_some codes are.0.script start all

module _ (ends : ProgramsEnd) (counted : ListedCodesCount) (context : Context) (p : Prepared) (codes : List ScriptCodes) (of : context_in p.under.job ≡ Some context) (has : HasProgram p)
    (are : AreCodesOf p codes) where
  to_some : (bound : Result Start Fault) → ((start : Start) → bound ≡ Ok start → HaveAll (types_in (map variable_of (types_of p.under.job.context p.programs.first.key).variables)) start.args)
      → (reply : Reply) × IsReplyTo p.under.allow context (EndsOver p codes) bound reply
  to_some (Err wrong) all = (as_line (line_error (fault_of wrong)), refl)
  to_some (Ok start) all = let ran = over_some ends counted p has codes are start (all start refl) in (reply_to_run p.under.allow context start ran.0, (ran.0, ran.1, refl))

  unless_some : (blank : Bool) (line : List ℕ) → (reply : Reply) × IsReplyUnless blank p.under.allow context (EndsOver p codes) line reply
  unless_some true line = (no_reply, refl)
  unless_some false line = to_some (context.start line) (λ start bound. starts_take p.under.job p.programs.first.key context of line start bound)

  pub reply_some : (line : InputLine) → (reply : Reply) × IsReplyOf context p codes line reply
  reply_some (Within line) = unless_some (is_blank line) line
  reply_some Beyond = (as_line (line_error fault.Long), refl)
  reply_some Nothing = (no_reply, refl)
