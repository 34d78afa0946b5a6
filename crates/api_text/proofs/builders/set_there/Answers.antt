use Rattle.std.proofs.Common.{length, ap, subst}
use Rattle.object_heap.specs.Effects.{Answers}
use Rattle.object_heap.specs.Parts.{units_of}
use Rattle.api_text.specs.Outcomes.{effect}
use Rattle.api_text.proofs.Splicing.{shortened_is}
use Rattle.api_text.proofs.builders.set_there.Goals as goal

pub returns-then-count-before : goal.returns-then-count-before
returns-then-count-before c =
    let store = c.args.heap.now in
    let before = length c.units-before.result.now in
    let same = shortened_is c.args.builder (units_of store.objects c.args.builder) c.args.count before (ap length c.units-before.ensures) c.if-count-before.true in
    subst (λ told. Answers (effect store told) store c.spliced.new.heap c.spliced.result) same c.spliced.ensures
