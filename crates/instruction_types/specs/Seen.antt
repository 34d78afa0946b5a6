-- What is told of an instruction, without where it lies in memory.
use Rattle.std.specs.Prelude.{List, [], ◌∷◌, ◌++◌, reverse, replicate}
use Rattle.pl_code.specs.declared.kinds.Slot.{Slot}
use Rattle.pl_code.specs.declared.kinds.Slot.TheVariants.{R}
use Rattle.instruction_types.specs.declared.action.Takes.{Takes}
use Rattle.instruction_types.specs.declared.action.Takes.TheVariants as takes
use Rattle.instruction_types.specs.declared.action.Action.{Action}
use Rattle.instruction_types.specs.declared.action.Action.TheVariants as action
use Rattle.instruction_types.specs.Members.{argument_kinds}
use Rattle.instruction_types.specs.Effects.{Effect, Exchanges, Copies, Empties, result_kinds}

-- the kinds that are taken, from the top down
unfoldable pub seen_takes : Takes → List Slot
seen_takes takes.Nothing = []
seen_takes (takes.One a) = a ∷ []
seen_takes (takes.Two a b) = a ∷ b ∷ []
seen_takes (takes.Three a b c) = a ∷ b ∷ c ∷ []
seen_takes (takes.Copies n a) = replicate n a
seen_takes (takes.Params params) = reverse params.now
seen_takes (takes.Arguments params) = argument_kinds params.now
seen_takes (takes.Received params) = argument_kinds params.now ++ R ∷ []

unfoldable pub seen_action : Action → Effect
seen_action (action.Exchanges t gives) = Exchanges (seen_takes t) (result_kinds gives)
seen_action (action.Copies c) = Copies c
seen_action action.Empties = Empties
