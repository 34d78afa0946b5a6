use Rattle.typing_soundness.proofs.Functions.{typing_is_sound, typing_reaches}
use Rattle.typing_soundness.proofs.laws.typed_programs_are_well_formed.Goals as goal

pub returns : goal.returns
returns c = record { formed = typing_is_sound; reached = typing_reaches }
