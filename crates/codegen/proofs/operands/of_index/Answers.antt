use Rattle.std.proofs.Common.{refl, sym, ◌∙◌}
use Rattle.source_meaning.specs.Programs.{program_of}
use Rattle.codegen.proofs.Wanting.{index_operands, index_are, def_lies}
use Rattle.codegen.proofs.operands.of_index.Goals as goal

pub returns-clause-fits : goal.returns-clause-fits
returns-clause-fits c =
    index_operands (program_of c.args.program.now) c.args.of.now c.args.count _ refl (sym c.representation_of.ensures ∙ c.in_ok-alike.ensures)

pub returns-clause-total : goal.returns-clause-total
returns-clause-total c = index_are (program_of c.args.program.now) c.args.of.now c.args.count _ refl

pub returns-in_err-alike-clause-total : goal.returns-in_err-alike-clause-total
returns-in_err-alike-clause-total c = record { by = λ allow ofs many x. absurd (c.in_err-alike.ensures (c.representation_of.ensures ∙ def_lies c.args.of.now x.1)) }
