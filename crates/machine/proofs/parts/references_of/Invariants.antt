use Rattle.std.proofs.Common.{◌≡◌, length}
use Rattle.code_meaning.specs.Members.{references_in}
use Rattle.machine.specs.Members.{behind}
use Rattle.machine.proofs.parts.references_of.Given as goal

-- those that are still to be moved come behind those that were
abbrev pub invariant-words : goal.invariant-words
invariant-words l = (behind l.values (references_in l.words.items) ≡ references_in l.initial.words.items) × (l.words.room ≡ l.initial.words.room)

abbrev pub decreases-words : goal.decreases-words
decreases-words l = length l.words.items
