use Rattle.std.proofs.Common.{◌≡◌, ◌-◌, length, ap, subst, ◌∙◌}
use Rattle.std.specs.Prelude.{replicate}
use Rattle.object_heap.specs.Effects.{Answers}
use Rattle.object_heap.specs.Parts.{units_of}
use Rattle.api_text.specs.Outcomes.{effect}
use Rattle.api_text.proofs.Splicing.{lengthened_is}
use Rattle.api_text.proofs.builders.lengthened.Goals as goal

pub returns-in-Ok : goal.returns-in-Ok
returns-in-Ok c =
    let store = c.args.heap.now in
    let before = length c.units-before.result.now in
    let zeros : c.as_slice.result.now ≡ replicate (c.args.count - before) 0 = c.as_slice.ensures.value ∙ c.in-Ok.ensures in
    let same = lengthened_is c.args.builder (units_of store.objects c.args.builder) c.args.count before (ap length c.units-before.ensures) (rw c.units-before.ensures c.requires) in
    subst (λ told. Answers (effect store told) store c.spliced.new.heap c.spliced.result) same (rw zeros at c.spliced.ensures)
