use Rattle.std.proofs.Common.{◌≡◌, Some, ap, ◌∙◌}
use Rattle.function_calls.specs.declared.aim.Doing.{Doing}
use Rattle.function_calls.specs.declared.aim.Doing.TheVariants as does
use Rattle.function_calls.proofs.Coming.{done_by_none}
use Rattle.function_calls.proofs.naming.call_done.Goals as goal

pub returns-in-Some-Receiver : goal.returns-in-Some-Receiver
returns-in-Some-Receiver c =
    let texts = c.args.texts.now in
    let allow = c.args.allow.now in
    let got : c.args.doing ≡ Some c.in-Some-Receiver.field-0 = c.in-Some-Receiver.is in
    let kind : c.in-Some-Receiver.field-0 ≡ does.Receiver = rw got at c.in-Some-Receiver.field-0-is in
    let is : c.args.doing ≡ Some does.Receiver = got ∙ ap (λ (doing : Doing). Some doing) kind in
    done_by_none texts allow c.args.own.now c.args.text c.args.heap.now c.not_found.new.heap c.args.name.now c.args.values.now c.args.number c.args.doing (Some does.Receiver) is tt c.not_found.result (c.not_found.ensures texts allow)

pub returns-in-None : goal.returns-in-None
returns-in-None c =
    let texts = c.args.texts.now in
    let allow = c.args.allow.now in
    done_by_none texts allow c.args.own.now c.args.text c.args.heap.now c.not_found-in-None.new.heap c.args.name.now c.args.values.now c.args.number c.args.doing _ c.in-None.is tt
    c.not_found-in-None.result (c.not_found-in-None.ensures texts allow)
