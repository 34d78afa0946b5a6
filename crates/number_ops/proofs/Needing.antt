-- What makes a text or an exception may want memory.
use Rattle.std.proofs.Common.{ℕ, List}
use Rattle.value_walks.specs.Texts.{Text, Wrote, TooDeep, TooLarge}
use Rattle.number_ops.specs.declared.outcome.Outcome.{Outcome}
use Rattle.number_ops.specs.Operators.{followed_by}
use Rattle.number_ops.specs.Outcomes.{NeedsMemory, says}

-- what is done with the text of a walk, and the exceptions of a walk
pub walk_needs : (walk : Text) (next : List ℕ → Outcome) → ((text : List ℕ) → NeedsMemory (next text)) → NeedsMemory (followed_by walk next)
unfolding says
walk_needs (Wrote text visits) next h = h text
walk_needs TooDeep next h = tt
walk_needs TooLarge next h = tt
