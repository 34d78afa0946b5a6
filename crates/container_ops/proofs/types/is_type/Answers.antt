use Rattle.std.proofs.Common.{ap, sym, ◌∙◌}
use Rattle.object_heap.specs.Fits.{is_type}
use Rattle.container_ops.proofs.Typed.{base_is, inner_is_type}
use Rattle.container_ops.proofs.types.is_type.Goals as goal

pub levels-preserved : goal.levels-preserved
levels-preserved c = c.levels.invariant ∙ (inner_is_type c.levels.inner.now c.in-Array.elem c.in-Array.is ∙ ap is_type (sym c.get-inner.ensures))

pub returns : goal.returns
returns c = c.base_is_type.ensures ∙ sym (c.levels.invariant ∙ base_is c.levels.inner.now c.in_default.not-Array)
