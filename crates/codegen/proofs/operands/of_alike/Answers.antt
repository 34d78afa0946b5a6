use Rattle.std.proofs.Common.{sym, ◌∙◌, subst}
use Rattle.source_meaning.specs.Programs.{program_of}
use Rattle.compiler_relation.specs.Stands.{Asks}
use Rattle.codegen.proofs.Fitting.{alike_gives, alike_asks}
use Rattle.codegen.proofs.Wanting.{alike_operands, alike_are}
use Rattle.codegen.proofs.operands.of_alike.Goals as goal

pub returns-clause-fits : goal.returns-clause-fits
returns-clause-fits c =
    alike_operands (program_of c.args.program.now) c.args.operator c.args.of.now c.args.count c.operator_takes.result c.operator_takes.ensures c.in_ok-takes_alike.ensures
    (sym c.representation_of.ensures ∙ c.in_ok-alike.ensures ∙ c.operator_gives.ensures) c.in_ok-asks.ensures

pub returns-clause-total : goal.returns-clause-total
returns-clause-total c = λ a. alike_are (program_of c.args.program.now) c.args.operator c.args.of.now c.args.count c.operator_takes.result c.operator_takes.ensures a

pub returns-in_err-takes_alike-clause-total : goal.returns-in_err-takes_alike-clause-total
returns-in_err-takes_alike-clause-total c = λ a. absurd (c.in_err-takes_alike.ensures a)

pub returns-in_err-alike-clause-total : goal.returns-in_err-alike-clause-total
returns-in_err-alike-clause-total c = λ a. record {
  by = λ allow ofs many x. absurd (c.in_err-alike.ensures (c.representation_of.ensures ∙ alike_gives c.args.operator a ofs c.args.of.now x ∙ sym c.operator_gives.ensures));
}

pub returns-in_err-asks-clause-total : goal.returns-in_err-asks-clause-total
returns-in_err-asks-clause-total c = λ a. record {
  by = λ allow ofs many x. absurd (c.in_err-asks.ensures (subst (Asks c.args.operator c.args.of.now) many (alike_asks c.args.operator a ofs c.args.of.now x)));
}
