use Rattle.std.proofs.Common.{◌≡◌, ℕ, List, subst}
use Rattle.api_text.specs.declared.outcome.Outcome.TheVariants as o
use Rattle.api_text.specs.Outcomes.{Tells}
use Rattle.api_text.proofs.making.of_units.Goals as goal

pub returns-in-Ok : goal.returns-in-Ok
returns-in-Ok c = λ store text h.
    let made : c.in-Ok.units.items ≡ text = rw c.in-Ok.is at h in
    subst (λ (t : List ℕ). Tells store (o.Makes t) c.made_of.result) made (c.made_of.ensures store)
