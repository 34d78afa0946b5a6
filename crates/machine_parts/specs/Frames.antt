-- Frames that lie one on the other in one list of words.
use Rattle.std.specs.Prelude.{Option, Some, None, ◌++◌, map, ◌≡◌, Bool, true, false, ℕ, suc, ◌+◌, ◌^◌, ◌≤◌, ◌<◌, List, [], ◌∷◌, reverse, take, drop}
use Rattle.code_meaning.specs.declared.word.Word.{Word}
use Rattle.pl_code.specs.declared.kinds.Slot.{Slot}
use Rattle.code_meaning.specs.Machine.{Frame}
use Rattle.code_meaning.specs.Words.{start_of}
use Rattle.machine_parts.specs.declared.frames.Held.{Held}

-- The newest frame of words: its locals, and behind them its operands, of which the last is the top
abbrev pub own : Held → List Word → Frame
own h words =
    record { text = h.text; fun = h.fun; line = h.line; locals = take h.locals (drop h.base words); stack = reverse (drop (h.base + h.locals) words); turns = h.turns; due = [] }

-- some frames, from the newest on down
abbrev pub lie : List Held → List Word → List Frame
lie [] words = []
lie (h ∷ hs) words = own h words ∷ lie hs (take h.base words)

-- their places are within so many words, and the lowest begins with the first of them
abbrev pub Within : List Held → ℕ → Type 0
Within [] n = n ≡ 0
Within (h ∷ hs) n = (h.base + h.locals ≤ n) × Within hs h.base

-- each of them waits at a line behind which there is a number for the next one
abbrev pub Wait : List Held → Type 0
Wait [] = Unit {0}
Wait (h ∷ hs) = (suc h.line < 2 ^ 64) × Wait hs

-- the newest frame and those below it, how many words there are, and for how many words and frames below there is memory
pub record Laid : Type 0 where
  pub top : Frame
  pub below : List Frame
  pub count : ℕ
  pub words : ℕ
  pub depth : ℕ

abbrev pub with_stack : Frame → List Word → Frame
with_stack f stack = record { text = f.text; fun = f.fun; line = f.line; locals = f.locals; stack = stack; turns = f.turns; due = f.due }

-- All stays but the operands of the newest frame.
abbrev pub OnlyStack : Laid → Laid → Type 0
OnlyStack old new = (new.top ≡ with_stack old.top new.top.stack) × (new.below ≡ old.below) × (new.words ≡ old.words) × (new.depth ≡ old.depth)

abbrev pub with_words : Frame → List Word → List Word → Frame
with_words f locals stack = record { text = f.text; fun = f.fun; line = f.line; locals = locals; stack = stack; turns = f.turns; due = f.due }

abbrev pub at_line : Frame → ℕ → Frame
at_line f line = record { text = f.text; fun = f.fun; line = line; locals = f.locals; stack = f.stack; turns = f.turns; due = f.due }

abbrev pub with_turns : Frame → ℕ → Frame
with_turns f turns = record { text = f.text; fun = f.fun; line = f.line; locals = f.locals; stack = f.stack; turns = turns; due = f.due }

-- The newest frame is dropped, if there is one below it
abbrev pub Leaves : Frame → List Frame → Frame → List Frame → Bool → Type 0
Leaves top below new left true = below ≡ new ∷ left
Leaves top below new left false = (below ≡ []) × (new ≡ top) × (left ≡ [])

-- The newest frame is dropped, if there is one below it, which gets a word and goes on; else nothing changes
abbrev pub GivesBack : Word → Frame → List Frame → Frame → List Frame → Bool → Type 0
GivesBack word top below new left true = (f : Frame) × (below ≡ f ∷ left) × (new ≡ at_line (with_stack f (word ∷ f.stack)) (suc f.line))
GivesBack word top below new left false = (new ≡ top) × (left ≡ below)

-- A new frame of a function: these words were taken off the stack of the one below it, and are its first locals
abbrev pub Enters : Option (List Word × List Word) → ℕ → List Slot → Frame → List Frame → Frame → List Frame → Type 0
Enters None fun slots old below new left = ⊥
Enters (Some p) fun slots old below new left =
    (new ≡ record { text = old.text; fun = fun; line = 0; locals = p.0 ++ map start_of slots; stack = []; turns = 0; due = [] }) × (left ≡ with_stack old p.1 ∷ below)
