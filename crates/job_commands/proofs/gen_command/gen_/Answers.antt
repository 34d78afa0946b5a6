-- What is told of the documents is delivered.
use Rattle.std.proofs.Common.{ℕ, List, [], None, Err, ◌⊎◌, sym, subst, refl}
use Rattle.script_engine.specs.Codes.{ScriptCodes}
use Rattle.command_parts.specs.declared.status.Status.{Status}
use Rattle.command_parts.specs.Before.{EndsBefore}
use Rattle.command_parts.specs.Ends.{NoInput, of_sink}
use Rattle.command_parts.specs.Stops.{stop_told}
use Rattle.command_parts.proofs.Asking.{asks_always, asks_none}
use Rattle.command_parts.proofs.Delivering.{if_told, some_content}
use Rattle.command_parts.proofs.Ends.{ends_accepted, ends_stopped, stop_is_delivered}
use Rattle.job_commands.specs.FixedJob.{fixed_under}
use Rattle.job_commands.specs.Generated.{AreFixedCodes}
use Rattle.job_commands.specs.Scripts.{Prepares}
use Rattle.job_commands.specs.Tellings.{gen_telling}
use Rattle.job_commands.proofs.FixedJobs.{fixed_field}
use Rattle.job_commands.proofs.GeneratedEnds.{fixed_delivers}
use Rattle.job_commands.proofs.GeneratedTelling.{gen_once}
use Rattle.job_commands.proofs.Jobs.{fixed_codes, fixed_stop_codes}
use Rattle.job_commands.proofs.gen_command.gen_.Goals as goal

pub returns-in-Ok : goal.returns-in-Ok
returns-in-Ok g c =
    let job = c.in-Ok.job in
    let t = c.in-Ok.ensures.told in
    let laws = c.script_laws.ensures in
    let codes = c.code_laws.ensures in
    let r = c.run_fixed.result in
    let before = of_sink (g.K.Sink.held c.args.out.now) (g.K.Sink.faults c.args.out.now) in
    let after = of_sink (g.K.Sink.held c.run_fixed.new.out) (g.K.Sink.faults c.run_fixed.new.out) in
    let some = some_content None in
    let are = fixed_codes laws.answered_once codes.listed codes.prelude job t.0 t.1 t.2 in
    let told =
    fixed_delivers laws.answered_once laws.ends_once codes.once c.args.count r before after some.0 some.1 job t.0 t.1 t.2 (fixed_field job.found c.in-Ok.ensures.job) are c.run_fixed.ensures.told in
    record {
      ends = ends_accepted (gen_telling c.args.count) before after NoInput r (λ reads. reads) (λ misused. misused) told c.run_fixed.ensures.ends (λ is. c.run_fixed.ensures.write is)
          (λ not. c.run_fixed.ensures.written not) refl refl tt refl (asks_always None [] [] (λ content. []) (λ content. asks_none [] [])) (λ done. c.run_fixed.ensures.quiet done);
    }

pub returns-in-Err : goal.returns-in-Err
returns-in-Err g c =
    let t = c.in-Err.ensures.told in
    let laws = c.script_laws.ensures in
    let count = c.args.count in
    let none : List ScriptCodes = [] in
    let r = c.quiet.result in
    let at = c.quiet.ensures.status in
    let quiet = c.quiet.ensures.quiet in
    let ends = c.end_with.ensures.ends in
    let before = of_sink (g.K.Sink.held c.args.out.now) (g.K.Sink.faults c.args.out.now) in
    let after = of_sink (g.K.Sink.held c.end_with.new.out) (g.K.Sink.faults c.end_with.new.out) in
    let some = some_content None in
    let are =
    subst (λ (x : Status). AreFixedCodes none ⊎ EndsBefore x before.held after.held) (sym at)
    (fixed_stop_codes laws.answered_once none c.in-Err.stop c.end_with.result before.held after.held t ends) in
    let is =
    if_told (stop_told c.in-Err.stop) (λ told. Prepares fixed_under (Err told)) (λ told. (input : List ℕ) → (gen_telling count).tells some.0 none input told) (λ told h input. (Err told, h, refl)) t in
    let told =
    stop_is_delivered (gen_telling count) before after r c.end_with.result at some.0 some.1 none are
    (λ input a b h k. gen_once laws.answered_once laws.ends_once c.code_laws.ensures.once none count a b h k) c.in-Err.stop quiet is ends in
    record {
      ends = ends_stopped (gen_telling count) before after NoInput r c.in-Err.stop c.end_with.result at quiet ends told (λ misused. misused) (λ is. c.end_with.ensures.write is)
          (λ not. c.end_with.ensures.written not) (λ is. absurd (c.in-Err.ensures.quiet is)) (λ not. refl) refl tt refl (asks_always None [] [] (λ content. []) (λ content. asks_none [] []));
    }
