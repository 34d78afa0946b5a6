use Rattle.std.proofs.Common.{Option, sym, subst}
use Rattle.def_resolve.specs.declared.callee.Callee.{Callee}
use Rattle.function_calls.specs.Applying.{called_on}
use Rattle.function_calls.specs.Coming.{ComesAs}
use Rattle.function_calls.proofs.naming.call_found.Goals as goal

pub returns-in-None : goal.returns-in-None
returns-in-None c =
    let texts = c.args.texts.now in
    let allow = c.args.allow.now in
    let heap = c.args.heap.now in
    let values = c.args.values.now in
    subst (λ (found : Option Callee). ComesAs texts allow heap (called_on texts allow c.args.own.now c.args.text heap c.args.name.now values found) c.not_found.new.heap values c.not_found.result)
    (sym c.in-None.is) (c.not_found.ensures texts allow)
