use Rattle.std.proofs.Common.{◌≡◌, ◌++◌, map, take}
use Rattle.std.specs.Vec.{vec_capacity}
use Rattle.code_meaning.specs.Words.{start_of}
use Rattle.machine_parts.proofs.frames.put_starts.Given as goal

-- those of the slots so far stand behind, and there is as much room as before
abbrev pub invariant-loop-slot : goal.invariant-loop-slot
invariant-loop-slot l = (l.words.items ≡ l.initial.words.items ++ map start_of (take l.slot-index l.slots)) × (vec_capacity l.words ≡ vec_capacity l.initial.words)
