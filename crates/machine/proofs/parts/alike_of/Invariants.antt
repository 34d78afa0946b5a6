use Rattle.std.proofs.Common.{◌≡◌, length}
use Rattle.code_meaning.specs.Members.{taken_alike}
use Rattle.machine.specs.Members.{behind}
use Rattle.machine.proofs.parts.alike_of.Given as goal

-- those that are still to be moved come behind those that were
abbrev pub invariant-words : goal.invariant-words
invariant-words l = (behind l.values (taken_alike l.fn.of l.words.items) ≡ taken_alike l.fn.of l.initial.words.items) × (l.words.room ≡ l.initial.words.room)

abbrev pub decreases-words : goal.decreases-words
decreases-words l = length l.words.items
