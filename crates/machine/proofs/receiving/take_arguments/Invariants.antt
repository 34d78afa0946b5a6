use Rattle.std.proofs.Common.{◌≡◌, ◌+◌, length}
use Rattle.code_meaning.specs.Members.{taken_all}
use Rattle.machine.specs.Members.{behind}
use Rattle.machine.proofs.receiving.take_arguments.Given as goal

-- the arguments that are still to be taken come behind those that were, and there is as much room as before
abbrev pub invariant-params : goal.invariant-params
invariant-params l = (behind l.initial.values.items (taken_all l.params l.initial.words.items) ≡ behind l.values.items (taken_all l.rest l.words.items))
    × (length l.values.items + length l.words.items ≡ length l.initial.values.items + length l.initial.words.items)
    × (l.words.room ≡ l.initial.words.room) × (l.values.room ≡ l.initial.values.room)

abbrev pub decreases-params : goal.decreases-params
decreases-params l = length l.rest
