-- What is told of the job is delivered.
use Rattle.std.proofs.Common.{ℕ, List, Ok, Err, inl, ap, sym, ◌∙◌, refl}
use Rattle.job_file.specs.declared.context.JobCommand.TheVariants as command
use Rattle.command_parts.specs.Ends.{NoInput, of_files}
use Rattle.command_parts.proofs.Delivering.{if_told}
use Rattle.command_parts.proofs.Ends.{ends_accepted, ends_stopped, stop_is_delivered, told_is_delivered, writes_end}
use Rattle.command_parts.proofs.Reporting.{uncounted_reports}
use Rattle.command_parts.specs.Stops.{stop_told}
use Rattle.job_commands.specs.Checking.{accepts_told}
use Rattle.job_commands.specs.Preparing.{with_programs}
use Rattle.job_commands.specs.Scripts.{PreparesJob}
use Rattle.job_commands.specs.Tellings.{check_telling}
use Rattle.job_commands.proofs.Telling.{check_once}
use Rattle.job_commands.proofs.check_command.check.Goals as goal

pub returns-in-Ok : goal.returns-in-Ok
returns-in-Ok g c =
    let t = c.in-Ok.ensures.told in
    let name = c.args.name.now in
    let r = c.quiet.result in
    let at = c.quiet.ensures.status in
    let before = of_files (g.F.Files.content c.args.files.now) (g.F.Files.asked c.args.files.now) (g.F.Files.faults c.args.files.now) (g.K.Sink.held c.args.out.now) (g.K.Sink.faults c.args.out.now) in
    let after = of_files (g.F.Files.content c.prepare.new.files) (g.F.Files.asked c.prepare.new.files) (g.F.Files.faults c.prepare.new.files) (g.K.Sink.held c.accept.new.out) (g.K.Sink.faults c.accept.new.out) in
    let told =
    told_is_delivered (check_telling name) before after r c.accept.result at t.0 t.1 tt (inl tt) (λ input a b h k. check_once c.script_laws.ensures.answered_once t.0 name a b h k) accepts_told tt
    (λ input. (Ok (with_programs c.in-Ok._job t.2.0), t.2.1, refl)) (uncounted_reports accepts_told r c.quiet.ensures.quiet refl refl) c.accept.ensures.writes in
    record {
      ends = ends_accepted (check_telling name) before after NoInput r (λ reads. reads) (λ misused. misused) told (writes_end accepts_told r c.accept.result before.held after.held at refl c.accept.ensures.writes)
          (λ is. c.accept.ensures.write (sym at ∙ is)) (λ not. c.accept.ensures.written (λ is. not (at ∙ is))) (c.in-Ok.ensures.cause.quiet (λ failed. cc)) refl tt c.prepare.ensures.kept
          c.prepare.ensures.asked (λ done. c.quiet.ensures.quiet);
    }

pub returns-in-Err : goal.returns-in-Err
returns-in-Err g c =
    let t = c.in-Err.ensures.told in
    let name = c.args.name.now in
    let r = c.quiet-in-Err.result in
    let at = c.quiet-in-Err.ensures.status in
    let quiet = c.quiet-in-Err.ensures.quiet in
    let ends = c.end_with.ensures.ends in
    let before = of_files (g.F.Files.content c.args.files.now) (g.F.Files.asked c.args.files.now) (g.F.Files.faults c.args.files.now) (g.K.Sink.held c.args.out.now) (g.K.Sink.faults c.args.out.now) in
    let after = of_files (g.F.Files.content c.prepare.new.files) (g.F.Files.asked c.prepare.new.files) (g.F.Files.faults c.prepare.new.files) (g.K.Sink.held c.end_with.new.out) (g.K.Sink.faults c.end_with.new.out) in
    let is =
    if_told (stop_told c.in-Err.stop) (λ told. PreparesJob command.Check t.0 name (Err told)) (λ told. (input : List ℕ) → (check_telling name).tells t.0 tt input told)
    (λ told h input. (Err told, h, refl)) t.2 in
    let told =
    stop_is_delivered (check_telling name) before after r c.end_with.result at t.0 t.1 tt (inl tt) (λ input a b h k. check_once c.script_laws.ensures.answered_once t.0 name a b h k) c.in-Err.stop quiet is ends in
    record {
      ends = ends_stopped (check_telling name) before after NoInput r c.in-Err.stop c.end_with.result at quiet ends told (λ misused. misused) (λ is. c.end_with.ensures.write is) (λ not. c.end_with.ensures.written not)
          (λ is. c.in-Err.ensures.cause.rose (ap Err is)) (λ not. c.in-Err.ensures.cause.quiet (λ is. not cc)) refl tt c.prepare.ensures.kept c.prepare.ensures.asked;
    }
