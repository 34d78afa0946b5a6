use Rattle.std.proofs.Common.{◌≡◌, length, take}
use Rattle.std.specs.Vec.{vec_capacity}
use Rattle.machine_parts.proofs.frames.cut.Given as goal

-- words were dropped from behind, and there is as much room as before
abbrev pub invariant-words : goal.invariant-words
invariant-words l = (take l.fn.count l.words.items ≡ take l.fn.count l.initial.words.items) × (vec_capacity l.words ≡ vec_capacity l.initial.words)

abbrev pub decreases-words : goal.decreases-words
decreases-words l = length l.words.items
