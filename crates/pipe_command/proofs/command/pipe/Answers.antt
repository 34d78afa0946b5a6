-- What is told of the job is delivered, or of why there is none.
use Rattle.std.proofs.Common.{◌≡◌, ℕ, List, [], Err, ◌⊎◌, inl, ap, subst, sym, refl}
use Rattle.job_commands.specs.Codes.{ScriptCodes}
use Rattle.command_parts.specs.declared.status.Status.{Status}
use Rattle.command_parts.specs.Before.{EndsBefore}
use Rattle.command_parts.specs.Ends.{Outside}
use Rattle.command_parts.specs.Stops.{stop_told}
use Rattle.command_parts.proofs.Delivering.{if_told}
use Rattle.command_parts.proofs.Ends.{ends_stopped, stop_is_delivered}
use Rattle.pipe_command.specs.Pipelines.{PipesJob}
use Rattle.pipe_command.specs.Preparing.{codes_of, with_programs}
use Rattle.pipe_command.specs.Telling.{AreCodesIn, pipe_telling}
use Rattle.pipe_command.proofs.Answers.{all_take}
use Rattle.pipe_command.proofs.Ends.{piped_ended, piped_file, piped_leaves, piped_quiet, piped_usage, prepared_codes, stop_codes}
use Rattle.pipe_command.proofs.Telling.{job_known, pipe_once, prepared_delivers}
use Rattle.pipe_command.proofs.command.pipe.Goals as goal

pub run_prepared-requires : goal.run_prepared-requires
run_prepared-requires g c =
    let t = c.in-Ok.ensures.told in
    let job = c.in-Ok.job in
    record { ready = all_take job.read (job_known t.0 c.args.name.now (with_programs job t.2.0) t.2.1).pipe job.read.pipeline.scripts t.2.0 job.scripts.items t.2.2 }

pub returns-in-Ok : goal.returns-in-Ok
returns-in-Ok g c =
    let t = c.in-Ok.ensures.told in
    let laws = c.script_laws.ensures in
    let codes = c.code_laws.ensures in
    let name = c.args.name.now in
    let job = c.in-Ok.job in
    let r = c.run_prepared.result in
    let left = g.S.Source.left c.args.input.now in
    let left' = g.S.Source.left c.run_prepared.new.input in
    let old = g.K.Sink.held c.args.out.now in
    let new = g.K.Sink.held c.run_prepared.new.out in
    let ends = c.run_prepared.ensures.told in
    let are = prepared_codes codes.listed codes.prelude laws.answered_once t.0 name job t.2.0 t.2.1 t.2.2 in
    record {
      ends = record {
        told = (
          t.0,
          t.1,
          codes_of job.scripts.items,
          inl are,
          prepared_delivers laws.answered_once laws.ends_once codes.once laws.answered laws.ends codes.counted t.0 name job t.2.0 t.2.1 t.2.2 are r left left' old new ends,
        );
        usage = (λ is. piped_usage job r left left' old new ends is, λ misused. absurd misused);
        read = λ is. c.run_prepared.ensures.read is;
        write = λ is. c.run_prepared.ensures.write is;
        file = λ is. absurd (piped_file job r left left' old new ends is);
        well_read = λ not. c.run_prepared.ensures.well_read not;
        written = λ not. c.run_prepared.ensures.written not;
        filed = λ not. c.in-Ok.ensures.cause.quiet (λ failed. cc);
        ended = λ reads done. piped_ended job r left left' old new ends done;
        untouched = λ leaves. absurd (piped_leaves job r left left' old new ends (leaves tt));
        contents = c.prepare.ensures.kept;
        asked = c.prepare.ensures.asked;
        quiet = λ done errors. piped_quiet job r left left' old new ends done errors;
      };
    }

pub returns-in-Err : goal.returns-in-Err
returns-in-Err g c =
    let t = c.in-Err.ensures.told in
    let laws = c.script_laws.ensures in
    let name = c.args.name.now in
    let none : List ScriptCodes = [] in
    let r = c.quiet.result in
    let at = c.quiet.ensures.status in
    let quiet = c.quiet.ensures.quiet in
    let ends = c.end_with.ensures.ends in
    let before : Outside = record { content = g.F.Files.content c.args.files.now; asked = g.F.Files.asked c.args.files.now; file_faults = g.F.Files.faults c.args.files.now; left = g.S.Source.left c.args.input.now; read_faults = g.S.Source.faults c.args.input.now; held = g.K.Sink.held c.args.out.now; write_faults = g.K.Sink.faults c.args.out.now } in
    let after : Outside = record { content = g.F.Files.content c.prepare.new.files; asked = g.F.Files.asked c.prepare.new.files; file_faults = g.F.Files.faults c.prepare.new.files; left = g.S.Source.left c.args.input.now; read_faults = g.S.Source.faults c.args.input.now; held = g.K.Sink.held c.end_with.new.out; write_faults = g.K.Sink.faults c.end_with.new.out } in
    let are =
    subst (λ (x : Status). AreCodesIn t.0 name none ⊎ EndsBefore x before.held after.held) (sym at)
    (stop_codes laws.answered_once t.0 name none c.in-Err.stop c.end_with.result before.held after.held t.2 ends) in
    let is =
    if_told (stop_told c.in-Err.stop) (λ told. PipesJob t.0 name (Err told)) (λ told. (input : List ℕ) → (pipe_telling name).tells t.0 none input told)
    (λ told h input. (Err told, h, refl)) t.2 in
    let told =
    stop_is_delivered (pipe_telling name) before after r c.end_with.result at t.0 t.1 none are
    (λ input a b h k. pipe_once laws.ends_once c.code_laws.ensures.once laws.answered_once t.0 none name input a b h k) c.in-Err.stop quiet is ends in
    record {
      ends = ends_stopped (pipe_telling name) before after (c.args.input.now ≡ c.args.input.now) r c.in-Err.stop c.end_with.result at quiet ends told (λ misused. misused) (λ is. c.end_with.ensures.write is)
          (λ not. c.end_with.ensures.written not) (λ is. c.in-Err.ensures.cause.rose (ap Err is)) (λ not. c.in-Err.ensures.cause.quiet (λ is. not cc)) refl refl c.prepare.ensures.kept
          c.prepare.ensures.asked;
    }
