use Rattle.std.proofs.Common.{◌≡◌, ◌-◌, ◌+◌, ◌≤◌, length}
use Rattle.code_meaning.specs.Machine.{take_words}
use Rattle.machine_parts.specs.Frames.{with_stack}
use Rattle.machine.proofs.members.take_words.Given as goal

-- the words that are still to be taken come on top of those that were, and nothing else changes
abbrev pub invariant-words : goal.invariant-words
invariant-words l =
    (take_words (l.count - l.place) l.frames.top.stack l.taken.items ≡ take_words l.count l.initial.frames.top.stack l.initial.taken.items)
    × (l.frames.top ≡ with_stack l.initial.frames.top l.frames.top.stack) × (l.frames.below ≡ l.initial.frames.below)
    × (length l.taken.items ≡ length l.initial.taken.items + l.place) × (l.taken.room ≡ l.initial.taken.room)
    × (l.frames.count ≤ l.initial.frames.count) × (l.frames.words ≡ l.initial.frames.words) × (l.frames.depth ≡ l.initial.frames.depth)
