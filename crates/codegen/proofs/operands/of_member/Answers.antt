use Rattle.std.proofs.Common.{◌∙◌}
use Rattle.std.proofs.lemmas.Result.{err_from_is_err_and}
use Rattle.source_meaning.specs.Programs.{program_of}
use Rattle.program_typing.specs.Agreeing.{known}
use Rattle.codegen.proofs.Called.{member_fits, agrees_called, agrees_member, takes_lie}
use Rattle.codegen.proofs.Wanting.{member_fitting}
use Rattle.codegen.proofs.operands.of_member.Goals as goal

pub returns-clause-fits : goal.returns-clause-fits
returns-clause-fits c = record {
  by = λ ks many h.
      member_fitting (program_of c.args.program.now) c.args.kind c.args.named.now ks c.args.of.now
      (member_fits c.args.kind c.args.named.now ks c.args.of.now c.in_ok-member.member.now c.in_ok-member.ensures.found h);
}

pub returns-clause-total : goal.returns-clause-total
returns-clause-total c = record {
  by = λ allow ofs many x.
      let funs = known allow (program_of c.args.program.now) in
      takes_lie funs c.args.kind c.args.named.now ofs c.args.of.now c.in_ok-member.member.now c.in_ok-member.ensures.found.named (agrees_member funs c.args.kind c.args.named.now ofs c.args.of.now x);
}

pub returns-in_err-member-clause-total : goal.returns-in_err-member-clause-total
returns-in_err-member-clause-total c =
    let p = err_from_is_err_and c.from_residual.result c.from_residual.ensures.1 in
    rw p.1 (record {
      by = λ allow ofs many x.
          let funs = known allow (program_of c.args.program.now) in
          let a = agrees_member funs c.args.kind c.args.named.now ofs c.args.of.now x in
          p.2 ∙ c.in_err-member.ensures.total a.member (agrees_called funs c.args.kind c.args.named.now ofs c.args.of.now a);
    })
