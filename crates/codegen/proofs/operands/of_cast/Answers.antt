use Rattle.source_meaning.specs.Programs.{program_of}
use Rattle.program_typing.specs.Agreeing.{known}
use Rattle.codegen.proofs.Parts.{cast_fits, cast_lies}
use Rattle.codegen.proofs.operands.of_cast.Goals as goal

pub returns-clause-fits : goal.returns-clause-fits
returns-clause-fits c = record {
  by = λ ks many h. cast_fits (program_of c.args.program.now) c.args.cast c.args.of.now _ _ c.representation_of-gives.ensures c.in_ok-cast_fits.ensures ks h;
}

pub returns-clause-total : goal.returns-clause-total
returns-clause-total c = record {
  by = λ allow ofs many x. (cast_lies (known allow (program_of c.args.program.now)) c.args.cast ofs c.args.of.now _ _ c.cast_takes-given.ensures c.representation_of-gives.ensures x).0;
}

pub returns-in_err-cast_fits-clause-total : goal.returns-in_err-cast_fits-clause-total
returns-in_err-cast_fits-clause-total c = record {
  by = λ allow ofs many x.
      absurd (c.in_err-cast_fits.ensures (cast_lies (known allow (program_of c.args.program.now)) c.args.cast ofs c.args.of.now _ _ c.cast_takes-given.ensures c.representation_of-gives.ensures x).1);
}
