use Rattle.std.proofs.Common.{sym, ◌∙◌}
use Rattle.codegen.proofs.Parts.{call_fits, function_there, call_gives, call_takes}
use Rattle.codegen.proofs.operands.of_function.Goals as goal

pub returns-clause-fits : goal.returns-clause-fits
returns-clause-fits c = record {
  by = λ ks many h. call_fits c.args.program.now c.args.number c.in-Some.callee.now ks c.args.of.now (sym c.in-Some.ensures) (sym c.representation_of.ensures ∙ c.in_ok-alike.ensures ∙ c.representation_of-2.ensures) h;
}

pub returns-clause-total : goal.returns-clause-total
returns-clause-total c = record { by = λ allow ofs many x. call_takes allow c.args.program.now _ c.in-Some.callee.now ofs c.args.of.now (sym c.in-Some.ensures) x }

pub returns-in_default-clause-total : goal.returns-in_default-clause-total
returns-in_default-clause-total c = record { by = λ allow ofs many x. absurd (function_there c.args.program.now _ _ x.is (sym c.in_default.ensures)) }

pub returns-in_err-alike-clause-total : goal.returns-in_err-alike-clause-total
returns-in_err-alike-clause-total c = record {
  by = λ allow ofs many x. absurd (c.in_err-alike.ensures (c.representation_of.ensures ∙ call_gives allow c.args.program.now _ c.in-Some.callee.now ofs c.args.of.now (sym c.in-Some.ensures) x ∙ sym c.representation_of-2.ensures));
}
