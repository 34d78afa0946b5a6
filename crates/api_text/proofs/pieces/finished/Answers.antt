use Rattle.std.proofs.Common.{ℕ, List, subst}
use Rattle.api_text.specs.Writing.{Made}
use Rattle.api_text.proofs.pieces.finished.Goals as goal

pub returns-in-Ok : goal.returns-in-Ok
returns-in-Ok c = subst (λ (t : List ℕ). Made c.args.room t c.kept.result) c.in-Ok.ensures.ok (c.kept.ensures c.args.room)
