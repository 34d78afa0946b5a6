use Rattle.std.proofs.Common.{◌∷◌, [], ◌++◌, ◌∙◌}
use Rattle.std.proofs.lemmas.Result.{err_from_is_err_and}
use Rattle.source_meaning.specs.Programs.{program_of}
use Rattle.program_typing.specs.Agreeing.{known}
use Rattle.allowlist.specs.declared.member.MemberKind.TheVariants as kinds
use Rattle.codegen.proofs.Called.{agrees_named}
use Rattle.codegen.proofs.Wanting.{setter_fits, setter_lies}
use Rattle.codegen.proofs.targets.of_setter.Goals as goal

pub returns-clause-fits : goal.returns-clause-fits
returns-clause-fits c = record {
  by = λ ks h. setter_fits c.args.named.now c.args.of.now c.in_ok-member.member.now _ c.representation_of.ensures c.in_ok-member.ensures.found ks h;
}

pub returns-clause-total : goal.returns-clause-total
returns-clause-total c = record {
  by = λ allow ofs x.
      setter_lies (known allow (program_of c.args.program.now)) c.args.named.now c.args.of.now c.in_ok-member.member.now _ c.representation_of.ensures c.in_ok-member.ensures.found ofs x;
}

pub returns-in_err-member-clause-total : goal.returns-in_err-member-clause-total
returns-in_err-member-clause-total c =
    let p = err_from_is_err_and c.from_residual.result c.from_residual.ensures.1 in
    rw p.1 (record {
      by = λ allow ofs x.
          let funs = known allow (program_of c.args.program.now) in
          p.2 ∙ c.in_err-member.ensures.total x.agrees.member (agrees_named funs kinds.Instance c.args.named.now (ofs ++ c.args.of.now ∷ []) x.given x.agrees);
    })
