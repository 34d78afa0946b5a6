use Rattle.std.proofs.Common.{refl, sym, ◌∙◌}
use Rattle.source_meaning.specs.Programs.{program_of}
use Rattle.codegen.proofs.Wanting.{name_operands, name_are, def_lies}
use Rattle.codegen.proofs.operands.of_name.Goals as goal

pub returns-clause-fits : goal.returns-clause-fits
returns-clause-fits c =
    name_operands (program_of c.args.program.now) c.args.of.now c.args.count _ refl c.args.name.now (sym c.representation_of.ensures ∙ c.in_ok-alike.ensures)

pub returns-clause-total : goal.returns-clause-total
returns-clause-total c = name_are (program_of c.args.program.now) c.args.of.now c.args.count _ refl c.args.name.now

pub returns-in_err-alike-clause-total : goal.returns-in_err-alike-clause-total
returns-in_err-alike-clause-total c = record { by = λ allow ofs many x. absurd (c.in_err-alike.ensures (c.representation_of.ensures ∙ def_lies c.args.of.now x.1)) }
