use Rattle.typing_soundness.proofs.Kept.{typing_keeps_types}
use Rattle.typing_soundness.proofs.laws.typed_programs_keep_types.Goals as goal

pub returns : goal.returns
returns c = record { each = typing_keeps_types }
