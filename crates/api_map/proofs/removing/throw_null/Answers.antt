use Rattle.std.proofs.Common.{refl, subst, sym}
use Rattle.container_outcomes.specs.declared.outcome.Outcome.{Outcome}
use Rattle.container_outcomes.specs.Outcomes as spec
use Rattle.container_outcomes.specs.Outcomes.{Tells}
use Rattle.api_map.proofs.removing.throw_null.Goals as goal

pub returns : goal.returns
returns c =
    let told = subst (λ (said : Outcome). Tells spec.null_error said) (sym c.null_error.ensures) refl in
    record { does = c.settle.ensures.does spec.null_error told; memory = c.settle.ensures.memory spec.null_error told }
