use Rattle.std.proofs.Common.{sym, ◌∙◌}
use Rattle.machine.proofs.Moving.{reference_moved}
use Rattle.machine.proofs.parts.references_of.Goals as goal

pub words-preserved : goal.words-preserved
words-preserved c = (
  reference_moved _ _ _ _ _ _ _ c.in_ok-push-in-Some-reference_in.ensures.ok (sym c.in-Some-reference_in.ensures) c.in-Some.ensures.top c.words.invariant.0,
  c.pop.ensures.room ∙ c.words.invariant.1,
)
