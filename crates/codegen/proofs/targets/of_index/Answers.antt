use Rattle.std.proofs.Common.{refl, sym, ◌∙◌}
use Rattle.source_meaning.specs.Programs.{program_of}
use Rattle.codegen.proofs.Fitting.{is_boxed}
use Rattle.codegen.proofs.Wanting.{put_index_wanted, put_index_are}
use Rattle.codegen.proofs.targets.of_index.Goals as goal

pub returns-clause-fits : goal.returns-clause-fits
returns-clause-fits c = put_index_wanted (program_of c.args.program.now) c.args.of.now 0 _ refl (sym c.representation_of.ensures ∙ c.in_ok-alike.ensures)

pub returns-clause-total : goal.returns-clause-total
returns-clause-total c = put_index_are (program_of c.args.program.now) c.args.of.now 0 _ refl

pub returns-in_err-alike-clause-total : goal.returns-in_err-alike-clause-total
returns-in_err-alike-clause-total c = record { by = λ allow ofs x. absurd (c.in_err-alike.ensures (c.representation_of.ensures ∙ is_boxed c.args.of.now x.1)) }
