use Rattle.std.proofs.Common.{Option, ap, sym}
use Rattle.object_values.specs.declared.object.Object.{Object}
use Rattle.api_list.specs.Taking.{entered_as}
use Rattle.api_list.proofs.entering.enter.Goals as goal

pub returns-in-Ok-None : goal.returns-in-Ok-None
returns-in-Ok-None c =
    let e = rw c.in-Ok-None.field-0-is at c.in-Ok-None.ensures in
    ap (λ (x : Option Object). entered_as c.args.heap.now c.args.list c.args.container x) (sym e)
