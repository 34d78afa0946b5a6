-- What is made as long as there is room for it.
use Rattle.std.specs.Prelude.{◌≡◌, ℕ, ◌+◌, ◌<◌, ◌≤◌, List, length, map, Result, Ok, Err}
use Rattle.object_values.specs.declared.value.Value.TheVariants as v
use Rattle.api_text.specs.declared.writing.Stop.{Stop}
use Rattle.api_text.specs.declared.writing.Stop.TheVariants.{NoRoom, NoMemory}
use Rattle.api_text.specs.declared.writing.Texts.{Texts}
use Rattle.value_walks.specs.declared.outputs.Output.{Output}
use Rattle.value_walks.specs.declared.outputs.Output.TheVariants.{Kept, Over}
use Rattle.api_text.specs.declared.outcome.Outcome.{Outcome}
use Rattle.api_text.specs.declared.outcome.Outcome.TheVariants as outcome
use Rattle.api_text.specs.Making.{cost_of}

-- why so many units are not written: there is no room for a text of so many, which costs 1 more, or there was no memory
abbrev pub Stops : ℕ → ℕ → Stop → Type 0
Stops room count NoRoom = room ≤ count
Stops room count NoMemory = Unit {0}

-- what is said of a text that is made, or of why it is not
abbrev pub Made : ℕ → List ℕ → Result (List ℕ) Stop → Type 0
Made room text (Ok made) = text ≡ made
Made room text (Err stop) = Stops room (length text) stop

-- why texts for an array are not made, which cost the array's weight and their own
abbrev pub StopsTexts : ℕ → List (List ℕ) → Stop → Type 0
StopsTexts room texts NoRoom = room ≤ cost_of texts + length texts
StopsTexts room texts NoMemory = Unit {0}

abbrev pub MadeTexts : ℕ → List (List ℕ) → Result Texts Stop → Type 0
MadeTexts room texts (Ok made) = (made.items ≡ map v.Str texts) × (made.cost ≡ cost_of texts)
MadeTexts room texts (Err stop) = StopsTexts room texts stop

-- why one text more is not made, which costs its units, its 1 and its place in the array
abbrev pub StopsOne : ℕ → List ℕ → Stop → Type 0
StopsOne spare text NoRoom = spare < length text + 2
StopsOne spare text NoMemory = Unit {0}

-- what comes of what was written to an output
abbrev pub told_of : Output → Outcome
told_of (Kept units room) = outcome.Makes units
told_of Over = outcome.NoRoom
