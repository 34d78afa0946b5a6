-- What is told of the job is delivered.
use Rattle.std.proofs.Common.{ℕ, List, [], Ok, Err, ◌⊎◌, inl, ap, subst, sym, ◌∙◌, refl}
use Rattle.script_engine.specs.Codes.{ScriptCodes}
use Rattle.job_file.specs.declared.context.JobCommand.TheVariants as command
use Rattle.command_parts.specs.declared.status.Status.{Status}
use Rattle.command_parts.specs.Before.{EndsBefore}
use Rattle.command_parts.specs.Ends.{NoInput, of_files}
use Rattle.command_parts.specs.Stops.{stop_told}
use Rattle.command_parts.proofs.Delivering.{if_told}
use Rattle.command_parts.proofs.Ends.{ends_accepted, ends_stopped, stop_is_delivered, told_is_delivered, writes_end}
use Rattle.command_parts.proofs.Reporting.{uncounted_reports}
use Rattle.job_commands.specs.Listing.{AreCodesIn, listing_told}
use Rattle.job_commands.specs.Preparing.{with_programs, codes_of}
use Rattle.job_commands.specs.Scripts.{PreparesJob}
use Rattle.job_commands.specs.Tellings.{list_telling}
use Rattle.job_commands.proofs.Jobs.{prepared_codes, stop_codes}
use Rattle.job_commands.proofs.Telling.{list_once}
use Rattle.job_commands.proofs.list_command.list.Goals as goal

pub returns-in-Ok : goal.returns-in-Ok
returns-in-Ok g c =
    let t = c.in-Ok.ensures.told in
    let texts = c.script_laws.ensures.answered_once in
    let name = c.args.name.now in
    let job = c.in-Ok.job in
    let codes = codes_of job.scripts in
    let listing = listing_told job.found.job.prelude codes in
    let r = c.quiet.result in
    let at = c.quiet.ensures.status in
    let before = of_files (g.F.Files.content c.args.files.now) (g.F.Files.asked c.args.files.now) (g.F.Files.faults c.args.files.now) (g.K.Sink.held c.args.out.now) (g.K.Sink.faults c.args.out.now) in
    let after = of_files (g.F.Files.content c.prepare.new.files) (g.F.Files.asked c.prepare.new.files) (g.F.Files.faults c.prepare.new.files) (g.K.Sink.held c.write_listing.new.out) (g.K.Sink.faults c.write_listing.new.out) in
    let are = prepared_codes texts command.List t.0 name c.code_laws.ensures.listed c.code_laws.ensures.prelude job t.2.0 t.2.1 t.2.2 in
    let told =
    told_is_delivered (list_telling name) before after r c.write_listing.result at t.0 t.1 codes (inl are) (λ input a b h k. list_once texts t.0 codes name a b h k) listing tt
    (λ input. (Ok (with_programs job t.2.0), t.2.1, refl)) (uncounted_reports listing r c.quiet.ensures.quiet refl refl) c.write_listing.ensures.writes in
    record {
      ends = ends_accepted (list_telling name) before after NoInput r (λ reads. reads) (λ misused. misused) told (writes_end listing r c.write_listing.result before.held after.held at refl c.write_listing.ensures.writes)
          (λ is. c.write_listing.ensures.write (sym at ∙ is)) (λ not. c.write_listing.ensures.written (λ is. not (at ∙ is))) (c.in-Ok.ensures.cause.quiet (λ failed. cc)) refl tt c.prepare.ensures.kept
          c.prepare.ensures.asked (λ done. c.quiet.ensures.quiet);
    }

pub returns-in-Err : goal.returns-in-Err
returns-in-Err g c =
    let t = c.in-Err.ensures.told in
    let texts = c.script_laws.ensures.answered_once in
    let name = c.args.name.now in
    let none : List ScriptCodes = [] in
    let r = c.quiet-in-Err.result in
    let at = c.quiet-in-Err.ensures.status in
    let quiet = c.quiet-in-Err.ensures.quiet in
    let ends = c.end_with.ensures.ends in
    let before = of_files (g.F.Files.content c.args.files.now) (g.F.Files.asked c.args.files.now) (g.F.Files.faults c.args.files.now) (g.K.Sink.held c.args.out.now) (g.K.Sink.faults c.args.out.now) in
    let after = of_files (g.F.Files.content c.prepare.new.files) (g.F.Files.asked c.prepare.new.files) (g.F.Files.faults c.prepare.new.files) (g.K.Sink.held c.end_with.new.out) (g.K.Sink.faults c.end_with.new.out) in
    let are =
    subst (λ (x : Status). AreCodesIn command.List t.0 name none ⊎ EndsBefore x before.held after.held) (sym at)
    (stop_codes texts command.List t.0 name none c.in-Err.stop c.end_with.result before.held after.held t.2 ends) in
    let is =
    if_told (stop_told c.in-Err.stop) (λ told. PreparesJob command.List t.0 name (Err told)) (λ told. (input : List ℕ) → (list_telling name).tells t.0 none input told)
    (λ told h input. (Err told, h, refl)) t.2 in
    let told =
    stop_is_delivered (list_telling name) before after r c.end_with.result at t.0 t.1 none are (λ input a b h k. list_once texts t.0 none name a b h k) c.in-Err.stop quiet is ends in
    record {
      ends = ends_stopped (list_telling name) before after NoInput r c.in-Err.stop c.end_with.result at quiet ends told (λ misused. misused) (λ is. c.end_with.ensures.write is) (λ not. c.end_with.ensures.written not)
          (λ is. c.in-Err.ensures.cause.rose (ap Err is)) (λ not. c.in-Err.ensures.cause.quiet (λ is. not cc)) refl tt c.prepare.ensures.kept c.prepare.ensures.asked;
    }
