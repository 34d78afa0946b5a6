use Rattle.std.proofs.Common.{map, sym, ap, ◌∙◌, subst}
use Rattle.source_meaning.specs.Programs.{program_of}
use Rattle.pl_types.specs.Texts.{is_known}
use Rattle.compiler_relation.specs.Representation.{representation_of}
use Rattle.compiler_relation.specs.Stands.{AllRepresented}
use Rattle.codegen.proofs.Fitting.{array_lies}
use Rattle.codegen.proofs.Wanting.{array_operands}
use Rattle.codegen.proofs.operands.of_array.Goals as goal

pub returns-clause-fits : goal.returns-clause-fits
returns-clause-fits c =
    array_operands (program_of c.args.program.now) c.args.of.now c.element-element.result.now c.args.count _ c.element-element.ensures c.representation_of-2.ensures
    (sym c.representation_of.ensures ∙ c.in_ok-alike.ensures) c.in_ok-known.ensures c.in_ok-present.ensures

pub returns-clause-total : goal.returns-clause-total
returns-clause-total c = record {
  by = λ allow ofs many x.
      subst (λ k. AllRepresented k (map representation_of ofs)) (sym (c.representation_of-2.ensures ∙ ap representation_of c.element-element.ensures)) (array_lies ofs c.args.of.now x).0;
}

pub returns-in_err-alike-clause-total : goal.returns-in_err-alike-clause-total
returns-in_err-alike-clause-total c = record { by = λ allow ofs many x. absurd (c.in_err-alike.ensures (c.representation_of.ensures ∙ (array_lies ofs c.args.of.now x).1)) }

pub returns-in_err-known-clause-total : goal.returns-in_err-known-clause-total
returns-in_err-known-clause-total c = record {
  by = λ allow ofs many x. absurd (c.in_err-known.ensures (ap is_known c.element-element.ensures ∙ (array_lies ofs c.args.of.now x).2.known));
}

pub returns-in_err-present-clause-total : goal.returns-in_err-present-clause-total
returns-in_err-present-clause-total c = record {
  by = λ allow ofs many x. absurd ((array_lies ofs c.args.of.now x).2.present (sym (ap representation_of c.element-element.ensures) ∙ c.in_err-present.ensures));
}
