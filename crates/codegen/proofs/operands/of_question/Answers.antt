use Rattle.std.proofs.Common.{sym, ◌∙◌}
use Rattle.source_meaning.specs.Programs.{program_of}
use Rattle.program_typing.specs.Agreeing.{known}
use Rattle.codegen.proofs.Listed.{named_known}
use Rattle.codegen.proofs.Parts.{ask_representation}
use Rattle.codegen.proofs.operands.of_question.Goals as goal

pub returns-clause-fits : goal.returns-clause-fits
returns-clause-fits c = record { by = λ ks many h. (h, sym c.representation_of.ensures ∙ c.in_ok-alike.ensures, c.in_ok-known.ensures) }

pub returns-clause-total : goal.returns-clause-total
returns-clause-total c = record { by = λ allow ofs many x. (ask_representation (known allow (program_of c.args.program.now)) c.args.is.now ofs c.args.of.now x).operands }

pub returns-in_err-alike-clause-total : goal.returns-in_err-alike-clause-total
returns-in_err-alike-clause-total c = record {
  by = λ allow ofs many x. absurd (c.in_err-alike.ensures (c.representation_of.ensures ∙ (ask_representation (known allow (program_of c.args.program.now)) c.args.is.now ofs c.args.of.now x).gives));
}

pub returns-in_err-known-clause-total : goal.returns-in_err-known-clause-total
returns-in_err-known-clause-total c = record {
  by = λ allow ofs many x. absurd (c.in_err-known.ensures (named_known c.args.is.now (ask_representation (known allow (program_of c.args.program.now)) c.args.is.now ofs c.args.of.now x).named));
}
