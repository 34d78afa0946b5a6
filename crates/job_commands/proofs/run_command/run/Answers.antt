-- What is told of the job is delivered, or of why there is none.
use Rattle.std.proofs.Common.{◌≡◌, ℕ, List, [], Err, ◌⊎◌, inl, ap, subst, sym, refl}
use Rattle.script_engine.specs.Codes.{ScriptCodes}
use Rattle.job_file.specs.declared.context.JobCommand.TheVariants as command
use Rattle.command_parts.specs.declared.status.Status.{Status}
use Rattle.command_parts.specs.Before.{EndsBefore}
use Rattle.command_parts.specs.Ends.{Outside}
use Rattle.command_parts.specs.Stops.{stop_told}
use Rattle.command_parts.proofs.Delivering.{if_told}
use Rattle.command_parts.proofs.Ends.{ends_stopped, stop_is_delivered}
use Rattle.job_commands.specs.Listing.{AreCodesIn}
use Rattle.job_commands.specs.Preparing.{codes_of}
use Rattle.job_commands.specs.Scripts.{PreparesJob}
use Rattle.job_commands.specs.Tellings.{run_telling}
use Rattle.job_commands.proofs.Jobs.{prepared_codes, stop_codes}
use Rattle.job_commands.proofs.RunTelling.{prepared_delivers, run_once}
use Rattle.job_commands.proofs.Statuses.{prepared_usage, prepared_ended, prepared_quiet}
use Rattle.job_commands.proofs.run_command.run.Goals as goal

pub returns-in-Ok : goal.returns-in-Ok
returns-in-Ok g c =
    let t = c.in-Ok.ensures.told in
    let laws = c.script_laws.ensures in
    let codes = c.code_laws.ensures in
    let name = c.args.name.now in
    let job = c.in-Ok.job in
    let r = c.run_prepared.result in
    let left = g.S.Source.left c.args.input.now in
    let left' = g.S.Source.left c.run_prepared.new.input in
    let old = g.K.Sink.held c.args.out.now in
    let new = g.K.Sink.held c.run_prepared.new.out in
    let ends = c.run_prepared.ensures.told in
    let are = prepared_codes laws.answered_once command.Run t.0 name codes.listed codes.prelude job t.2.0 t.2.1 t.2.2 in
    record {
      ends = record {
        told = (
          t.0,
          t.1,
          codes_of job.scripts,
          inl are,
          prepared_delivers laws.answered_once laws.ends_once codes.once laws.answered laws.ends codes.counted t.0 name job t.2.0 t.2.1 t.2.2 are r left left' old new ends,
        );
        usage = (λ is. prepared_usage job r left left' old new ends is, λ misused. absurd misused);
        read = λ is. c.run_prepared.ensures.read is;
        write = λ is. c.run_prepared.ensures.write is;
        file = λ is. absurd (c.run_prepared.ensures.quiet is);
        well_read = λ not. c.run_prepared.ensures.well_read not;
        written = λ not. c.run_prepared.ensures.written not;
        filed = λ not. c.in-Ok.ensures.cause.quiet (λ failed. cc);
        ended = λ reads done. prepared_ended job r left left' old new ends done;
        untouched = λ leaves. c.run_prepared.ensures.untouched (leaves tt);
        contents = c.prepare.ensures.kept;
        asked = c.prepare.ensures.asked;
        quiet = λ done errors. prepared_quiet job r left left' old new ends done errors;
      };
    }

pub returns-in-Err : goal.returns-in-Err
returns-in-Err g c =
    let t = c.in-Err.ensures.told in
    let laws = c.script_laws.ensures in
    let name = c.args.name.now in
    let none : List ScriptCodes = [] in
    let r = c.quiet.result in
    let at = c.quiet.ensures.status in
    let quiet = c.quiet.ensures.quiet in
    let ends = c.end_with.ensures.ends in
    let before : Outside = record { content = g.F.Files.content c.args.files.now; asked = g.F.Files.asked c.args.files.now; file_faults = g.F.Files.faults c.args.files.now; left = g.S.Source.left c.args.input.now; read_faults = g.S.Source.faults c.args.input.now; held = g.K.Sink.held c.args.out.now; write_faults = g.K.Sink.faults c.args.out.now } in
    let after : Outside = record { content = g.F.Files.content c.prepare.new.files; asked = g.F.Files.asked c.prepare.new.files; file_faults = g.F.Files.faults c.prepare.new.files; left = g.S.Source.left c.args.input.now; read_faults = g.S.Source.faults c.args.input.now; held = g.K.Sink.held c.end_with.new.out; write_faults = g.K.Sink.faults c.end_with.new.out } in
    let are =
    subst (λ (x : Status). AreCodesIn command.Run t.0 name none ⊎ EndsBefore x before.held after.held) (sym at)
    (stop_codes laws.answered_once command.Run t.0 name none c.in-Err.stop c.end_with.result before.held after.held t.2 ends) in
    let is =
    if_told (stop_told c.in-Err.stop) (λ told. PreparesJob command.Run t.0 name (Err told)) (λ told. (input : List ℕ) → (run_telling name).tells t.0 none input told)
    (λ told h input. (Err told, h, refl)) t.2 in
    let told =
    stop_is_delivered (run_telling name) before after r c.end_with.result at t.0 t.1 none are
    (λ input a b h k. run_once laws.ends_once c.code_laws.ensures.once laws.answered_once t.0 none name input a b h k) c.in-Err.stop quiet is ends in
    record {
      ends = ends_stopped (run_telling name) before after (c.args.input.now ≡ c.args.input.now) r c.in-Err.stop c.end_with.result at quiet ends told (λ misused. misused) (λ is. c.end_with.ensures.write is)
          (λ not. c.end_with.ensures.written not) (λ is. c.in-Err.ensures.cause.rose (ap Err is)) (λ not. c.in-Err.ensures.cause.quiet (λ is. not cc)) refl refl c.prepare.ensures.kept
          c.prepare.ensures.asked;
    }
