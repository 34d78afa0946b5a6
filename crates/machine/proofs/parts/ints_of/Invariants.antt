use Rattle.std.proofs.Common.{◌≡◌, length}
use Rattle.code_meaning.specs.Members.{ints_in}
use Rattle.machine.specs.Members.{behind_ints}
use Rattle.machine.proofs.parts.ints_of.Given as goal

-- those that are still to be moved come behind those that were
abbrev pub invariant-words : goal.invariant-words
invariant-words l = (behind_ints l.numbers (ints_in l.words.items) ≡ ints_in l.initial.words.items) × (l.words.room ≡ l.initial.words.room)

abbrev pub decreases-words : goal.decreases-words
decreases-words l = length l.words.items
