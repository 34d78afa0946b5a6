-- Each stage has one answer, and a program one end.
use Rattle.std.proofs.Common.{subst, sym}
use Rattle.compiled_outcome.specs.Types.{HaveAll}
use Rattle.compiled_outcome.specs.Agreeing.{types_in}
use Rattle.script_engine.proofs.Compiled.{formed_from, variables_from}
use Rattle.script_engine.proofs.Ends.{ends_some, ends_once}
use Rattle.script_engine.proofs.Fitting.{programs_fit}
use Rattle.script_engine.proofs.Texts.{text_once, text_some}
use Rattle.script_engine.proofs.Typed.{programs_are_typed}
use Rattle.script_engine.proofs.laws.script_laws.Goals as goal

pub returns-clause-answered : goal.returns-clause-answered
returns-clause-answered c = text_some c.each_text_has_one_reading.ensures.some c.plain_laws.ensures.answered

pub returns-clause-answered_once : goal.returns-clause-answered_once
returns-clause-answered_once c = text_once c.each_text_has_one_reading.ensures.once c.plain_laws.ensures.unique

pub returns-clause-ends : goal.returns-clause-ends
returns-clause-ends c allow context text p good is limits allowed args have =
    ends_some allow p (formed_from allow context text p good is) limits allowed args (subst (λ xs. HaveAll (types_in xs) args) (sym (variables_from allow context text p is)) have)

pub returns-clause-ends_once : goal.returns-clause-ends_once
returns-clause-ends_once c = ends_once

pub returns-clause-fit : goal.returns-clause-fit
returns-clause-fit c = programs_fit

pub returns-clause-typed : goal.returns-clause-typed
returns-clause-typed c = programs_are_typed
