-- The scripts that are compiled are those of the pipeline's programs.
use Rattle.std.proofs.Common.{◌≡◌, ℕ, ◌+◌, ◌<◌, ◌≤◌, List, [], ◌∷◌, ◌++◌, Option, IfSome, Result, Ok, Err, drop, get_or, length, append-nil, append_assoc, refl, sym, ap, ◌∙◌, subst}
use Rattle.std.proofs.lemmas.List.{drop_all}
use Rattle.serde_json.specs.View.{view}
use Rattle.job_commands.specs.script_engine_declared.compiling.Script.{Script}
use Rattle.command_parts.specs.declared.stop.Stop.{Stop}
use Rattle.command_parts.specs.Stops.{ComesSo, stop_told}
use Rattle.command_parts.specs.Told.{Told}
use Rattle.job_loading.specs.Loading.{JobUnder}
use Rattle.job_loading.specs.Seen.{read_view}
use Rattle.pipe_job.specs.declared.answers.PipedScript.{PipedScript}
use Rattle.pipe_job.specs.ingest_pipe_declared.scripts.PipeScript.{PipeScript}
use Rattle.job_commands.specs.Preparing.{CompilesScript, IsScriptFor, RefusesScripts}
use Rattle.job_commands.specs.Scripts.{ArePrograms, JobProgram, RefusedScript, with_first}
use Rattle.job_commands.specs.declared.script.LimitedScript.{LimitedScript}
use Rattle.job_commands.proofs.Compiled.{AreRefused, IsRefused, behind_all, one_more, behind_none, behind_wrong, if_some}
use Rattle.job_commands.proofs.Listings.{next_item}
use Rattle.pipe_command.specs.Answering.{kind_of}
use Rattle.pipe_command.specs.Pipelines.{PipeUnder, Piped, Pipes, PipesJob, PipesRead, pipe_under, texts_of}
use Rattle.pipe_command.specs.Preparing.{ArePiped, CompilesPipe, IsPiped, PreparesSo, limits_of, pipe_view}
use Rattle.pipe_command.specs.declared.preparing.PreparedPipe.{PreparedPipe}
use Rattle.pipe_command.specs.declared.reading.ReadPipe.{ReadPipe}

append_piped : (read : ReadPipe) (scripts : List PipeScript) (programs : List JobProgram) (xs : List (PipedScript LimitedScript)) (script : PipeScript) (program : JobProgram) (x : PipedScript LimitedScript)
    → ArePiped read scripts programs xs → IsPiped read script program x → ArePiped read (scripts ++ script ∷ []) (programs ++ program ∷ []) (xs ++ x ∷ [])
append_piped read [] [] [] script program x are is = (is, tt)
append_piped read [] [] (other ∷ xs) script program x are is = absurd are
append_piped read [] (other ∷ programs) xs script program x are is = absurd are
append_piped read (other ∷ scripts) [] xs script program x are is = absurd are
append_piped read (other ∷ scripts) (one ∷ programs) [] script program x are is = absurd are
append_piped read (other ∷ scripts) (one ∷ programs) (y ∷ xs) script program x are is = (are.0, append_piped read scripts programs xs script program x are.1 is)

-- The scripts so far are those of the first of the pipeline, and whatever those come to that are left, all come to with these in front.
pub record PipesOn (read : ReadPipe) (all left : List PipeScript) (xs : List (PipedScript LimitedScript)) : Type 0 where
  pub done : List PipeScript
  pub splits : all ≡ done ++ left
  pub programs : List JobProgram
  pub are : ArePiped read done programs xs
  pub onward : (rest : Result (List JobProgram) RefusedScript) → ArePrograms (read_view read.found) (texts_of left) rest → ArePrograms (read_view read.found) (texts_of all) (behind_all programs rest)

pub pipes_first : (read : ReadPipe) (scripts : List PipeScript) (xs : List (PipedScript LimitedScript)) → xs ≡ [] → PipesOn read scripts scripts xs
pipes_first read scripts xs none = subst (PipesOn read scripts scripts) (sym none) (record { done = []; splits = refl; programs = []; are = tt; onward = λ rest are. are })

module _ (read : ReadPipe) (all : List PipeScript) (at : ℕ) (script : PipeScript) (within : at < length all) (item : script ≡ get_or all at script) (xs : List (PipedScript LimitedScript))
    (on : PipesOn read all (drop at all) xs) where
  abbrev under : JobUnder
  under = read_view read.found

  abbrev behind : List PipeScript
  behind = drop (at + 1) all

  parts : drop at all ≡ script ∷ behind
  parts = next_item all at script within item

  onward_from : (answer : Result (List JobProgram) RefusedScript) → ArePrograms under (texts_of (script ∷ behind)) answer → ArePrograms under (texts_of all) (behind_all on.programs answer)
  onward_from answer are = on.onward answer (subst (λ (l : List PipeScript). ArePrograms under (texts_of l) answer) (sym parts) are)

  pub pipes_next : (compiled : Script) (x : PipedScript LimitedScript) (after : List (PipedScript LimitedScript)) → CompilesScript under script.path script.text (Ok compiled)
      → x.script ≡ record { script = compiled; limits = limits_of read } → x.kind ≡ kind_of script.path → view x.params.json ≡ script.params → after ≡ xs ++ x ∷ [] → PipesOn read all behind after
  pipes_next compiled x after (p, is, stands) same kind params added =
      let program : JobProgram = record { key = script.path; program = p } in
      let one : IsPiped read script program x = record {
        stands = subst (λ (s : LimitedScript). IsScriptFor under program s.script) (sym same) stands;
        key = refl;
        limits = ap (λ (s : LimitedScript). s.limits) same;
        kind = kind;
        params = params;
      } in
      subst (PipesOn read all behind) (sym added) (record {
        done = on.done ++ script ∷ [];
        splits = on.splits ∙ ap (λ (l : List PipeScript). on.done ++ l) parts ∙ sym (append_assoc on.done (script ∷ []) behind);
        programs = on.programs ++ program ∷ [];
        are = append_piped read on.done on.programs xs script program x on.are one;
        onward = λ rest are.
            subst (ArePrograms under (texts_of all)) (sym (one_more on.programs program rest)) (onward_from (with_first program rest) (Ok p, is, (rest, are, refl)));
      })

  pub pipes_not : (stop : Stop) → CompilesScript under script.path script.text (Err stop) → RefusesScripts under (texts_of all) stop
  pipes_not stop h = if_some (stop_told stop) (IsRefused under script.path script.text) (AreRefused under (texts_of all)) from_one h where
    from_one : (told : Told) → IsRefused under script.path script.text told → AreRefused under (texts_of all) told
    from_one told (wrong, is, same) =
        let refused : RefusedScript = record { key = script.path; refusal = wrong } in
        (refused, subst (ArePrograms under (texts_of all)) (behind_wrong on.programs refused) (onward_from (Err refused) (Err wrong, is, refl)), same)

pub pipes_all : (read : ReadPipe) (all : List PipeScript) (at : ℕ) (xs : List (PipedScript LimitedScript)) → length all ≤ at → PipesOn read all (drop at all) xs → CompilesPipe read all (Ok xs)
pipes_all read all at xs past on =
    let none : drop at all ≡ [] = drop_all at all past in
    let whole : all ≡ on.done = on.splits ∙ ap (λ (l : List PipeScript). on.done ++ l) none ∙ append-nil on.done in
    let left : ArePrograms (read_view read.found) (texts_of (drop at all)) (Ok []) = subst (λ (l : List PipeScript). ArePrograms (read_view read.found) (texts_of l) (Ok [])) (sym none) refl in (
      on.programs,
      subst (ArePrograms (read_view read.found) (texts_of all)) (behind_none on.programs) (on.onward (Ok []) left),
      subst (λ (l : List PipeScript). ArePiped read l on.programs xs) (sym whole) on.are,
    )

-- ---- the job

-- the job has these scripts
pub read_so : (read : ReadPipe) (job : PreparedPipe) → job.read ≡ read → CompilesPipe read read.pipeline.scripts (Ok job.scripts.items) → PreparesSo (Pipes (pipe_view read)) (Ok job)
read_so read job same h =
    let there : CompilesPipe job.read job.read.pipeline.scripts (Ok job.scripts.items) = subst (λ (r : ReadPipe). CompilesPipe r r.pipeline.scripts (Ok job.scripts.items)) (sym same) h in
    let answer : Result Piped Told = Ok (record { of = pipe_view job.read; programs = there.0 }) in
    (there.0, subst (λ (r : ReadPipe). Pipes (pipe_view r) answer) same (Ok there.0, there.1, refl), there.2)

pub read_not : (read : ReadPipe) (stop : Stop) → RefusesScripts (read_view read.found) (texts_of read.pipeline.scripts) stop → PreparesSo (Pipes (pipe_view read)) (Err stop)
read_not read stop h =
    if_some (stop_told stop) (AreRefused (read_view read.found) (texts_of read.pipeline.scripts)) (λ told. Pipes (pipe_view read) (Err told)) from_wrong h where
      from_wrong : (told : Told) → AreRefused (read_view read.found) (texts_of read.pipeline.scripts) told → Pipes (pipe_view read) (Err told)
      from_wrong told (wrong, are, same) = (Err wrong, are, ap Err same)

pub pipe_stops : (content : List ℕ → Option (List ℕ)) (name : List ℕ) (stop : Stop) → ComesSo pipe_view (Err stop) (pipe_under content name)
    → IfSome (stop_told stop) (λ told. PipesJob content name (Err told))
pipe_stops content name stop h =
    if_some (stop_told stop) (λ told. pipe_under content name ≡ Err told) (λ told. PipesJob content name (Err told))
    (λ told is. subst (λ (r : Result PipeUnder Told). PipesRead r (Err told)) (sym is) refl) h

pub pipe_prepares : (content : List ℕ → Option (List ℕ)) (name : List ℕ) (read : ReadPipe) (result : Result PreparedPipe Stop) → pipe_under content name ≡ Ok (pipe_view read)
    → PreparesSo (Pipes (pipe_view read)) result → PreparesSo (PipesJob content name) result
pipe_prepares content name read result is h = subst (λ (r : Result PipeUnder Told). PreparesSo (PipesRead r) result) (sym is) h
