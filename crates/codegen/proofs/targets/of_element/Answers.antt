use Rattle.codegen.proofs.Fitting.{element_lies, named_element}
use Rattle.codegen.proofs.targets.of_element.Goals as goal

pub returns-clause-fits : goal.returns-clause-fits
returns-clause-fits c = record { by = λ ks h. (h, c.in_ok-known.ensures) }

pub returns-clause-total : goal.returns-clause-total
returns-clause-total c = record { by = λ allow ofs x. (element_lies ofs c.args.of.now x).0 }

pub returns-in_err-known-clause-total : goal.returns-in_err-known-clause-total
returns-in_err-known-clause-total c = record { by = λ allow ofs x. absurd (c.in_err-known.ensures (named_element c.args.of.now (element_lies ofs c.args.of.now x).1).known) }
