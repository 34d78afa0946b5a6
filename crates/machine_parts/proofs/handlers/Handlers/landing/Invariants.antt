use Rattle.std.proofs.Common.{◌≡◌, ◌-◌, find, length}
use Rattle.std.specs.Prelude.{drop}
use Rattle.machine_parts.specs.Handlers.{catches}
use Rattle.machine_parts.specs.Worlds.{world_of}
use Rattle.machine_parts.proofs.handlers.Handlers.landing.Given as goal

-- none of those that were passed catches
abbrev pub invariant-traps : goal.invariant-traps
invariant-traps l = find (catches l.fn.line l.fn.id (world_of l.fn.world)) l.fn.self ≡ find (catches l.fn.line l.fn.id (world_of l.fn.world)) (drop l.place l.fn.self)

abbrev pub decreases-traps : goal.decreases-traps
decreases-traps l = length l.fn.self - l.place
