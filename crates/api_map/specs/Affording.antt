-- What comes of what may make a long message.
use Rattle.std.specs.Prelude.{◌≡◌}
use Rattle.object_heap.specs.Effects.{NoRoom}
use Rattle.object_heap.specs.Store.{Store}
use Rattle.container_outcomes.specs.declared.outcome.Outcome.{Outcome}
use Rattle.container_outcomes.specs.Outcomes.{Tells, effect}
use Rattle.api_map.specs.declared.affording.Afforded.{Afforded}
use Rattle.api_map.specs.declared.affording.Afforded.TheVariants as afforded

-- What a function says is the outcome, where a message is made only if there is room for it: it may say that there is none where that
-- is the effect of the outcome
abbrev pub Affords : Store → Outcome → Afforded → Type 0
Affords store told (afforded.Told outcome) = Tells told outcome
Affords store told afforded.NoRoom = effect store told ≡ NoRoom
