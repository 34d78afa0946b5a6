-- A frame that is entered.
use Rattle.std.proofs.Common.{ℕ, List, [], ◌∷◌, ◌++◌, ◌≡◌, map, Option, Some, None, ap, sym, ◌∙◌}
use Rattle.pl_code.specs.declared.kinds.Slot.{Slot}
use Rattle.run_state.specs.World.{World}
use Rattle.code_meaning.specs.declared.word.Word.{Word}
use Rattle.code_meaning.specs.Words.{start_of}
use Rattle.code_meaning.specs.Machine.{Frame, Next, Goes, on_words}
use Rattle.machine_parts.specs.Frames.{Enters, with_stack}

abbrev pub entering : ℕ → List Slot → Frame → List Frame → World → List Word → List Word → Next
entering fun slots old below w args stack =
    Goes (record { top = record { text = old.text; fun = fun; line = 0; locals = args ++ map start_of slots; stack = []; turns = 0; due = [] }; below = with_stack old stack ∷ below; world = w })

pub entered : (o : Option (List Word × List Word)) (fun : ℕ) (slots : List Slot) (old : Frame) (below : List Frame) (new : Frame) (left : List Frame) (w : World) → Enters o fun slots old below new left
    → on_words o (entering fun slots old below w) ≡ Goes (record { top = new; below = left; world = w })
entered None fun slots old below new left w h = absurd h
entered (Some p) fun slots old below new left w h =
    ap (λ (f : Frame). Goes (record { top = f; below = with_stack old p.1 ∷ below; world = w })) (sym h.0) ∙ ap (λ (fs : List Frame). Goes (record { top = new; below = fs; world = w })) (sym h.1)
