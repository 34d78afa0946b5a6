use Rattle.std.proofs.Common.{ap, sym, ◌∙◌}
use Rattle.std.specs.List.{flat_map}
use Rattle.std.proofs.lemmas.List.{map-id}
use Rattle.std.proofs.lemmas.Iterator.{YieldsList-from_chars}
use Rattle.std.proofs.lemmas.Iterator.Consumers.{YieldsList-end}
use Rattle.pl_units.specs.Utf16.{units, units_of_scalar}
use Rattle.pl_units.proofs.text.encoded.Goals as goal

-- each character was yielded
pub returns : goal.returns
unfolding units
returns c =
    let all = YieldsList-end (YieldsList-from_chars c.args.s.now c.utf8.s cc) c.loop-scalar.yielded _ c.loop-scalar.yielded_by _ _ c.in-None.is c.next.ensures.steps in
    c.loop-scalar.invariant ∙ ap (flat_map units_of_scalar) (sym (map-id c.loop-scalar.yielded) ∙ all.0)
