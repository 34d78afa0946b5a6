use Rattle.codegen.proofs.Fitting.{element_lies, named_element}
use Rattle.codegen.proofs.operands.of_element.Goals as goal

pub returns-clause-fits : goal.returns-clause-fits
returns-clause-fits c = record { by = λ ks many h. (h, record { known = c.in_ok-known.ensures; present = c.in_ok-present.ensures }) }

pub returns-clause-total : goal.returns-clause-total
returns-clause-total c = record { by = λ allow ofs many x. (element_lies ofs c.args.of.now x).0 }

pub returns-in_err-known-clause-total : goal.returns-in_err-known-clause-total
returns-in_err-known-clause-total c = record { by = λ allow ofs many x. absurd (c.in_err-known.ensures (named_element c.args.of.now (element_lies ofs c.args.of.now x).1).known) }

pub returns-in_err-present-clause-total : goal.returns-in_err-present-clause-total
returns-in_err-present-clause-total c = record { by = λ allow ofs many x. absurd ((named_element c.args.of.now (element_lies ofs c.args.of.now x).1).present c.in_err-present.ensures) }
