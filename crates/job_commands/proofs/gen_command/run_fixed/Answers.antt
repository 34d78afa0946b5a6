-- The summary is that of the answers.
use Rattle.std.proofs.Common.{inr, sym, subst}
use Rattle.command_parts.specs.declared.status.Status.{Status}
use Rattle.command_parts.specs.Writing.{Writes}
use Rattle.job_commands.specs.Generated.{summary_told}
use Rattle.job_commands.specs.Preparing.{codes_of}
use Rattle.job_commands.proofs.Answering.{tally_so}
use Rattle.job_commands.proofs.GeneratedEnds.{fixed_ready}
use Rattle.job_commands.proofs.gen_command.run_fixed.Goals as goal

pub tally_of-requires : goal.tally_of-requires
tally_of-requires g c =
    fixed_ready c.in-Ok-search_context.context c.args.job c.document_job-documents.result c.document_job-documents.ensures c.in-Ok-search_context.ensures c.requires.field c.requires.ready

pub returns-clause-told : goal.returns-clause-told
returns-clause-told g c =
    let codes = codes_of c.args.job.scripts in
    let tally = c.in-Ok-tally_of.tally in
    inr (record {
      tally = tally;
      is = tally_so c.in-Ok-search_context.context c.args.job c.document_job-documents.result c.document_job-documents.ensures c.in-Ok-search_context.ensures c.args.count tally c.in-Ok-tally_of.ensures;
      reports = c.report_of.ensures.reports codes c.args.count c.in-Ok.ensures;
      writes =
          subst (λ (t : Status). Writes (summary_told codes c.args.count tally) t (g.K.Sink.held c.args.out.now) (g.K.Sink.held c.write_summary-status.new.out))
          (sym c.report_of.ensures.status) (c.write_summary-status.ensures.writes codes);
    })
