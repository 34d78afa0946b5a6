-- Words that are taken off the newest frame.
use Rattle.std.proofs.Common.{◌≡◌, ℕ, suc, ◌+◌, ◌-◌, ◌<◌, List, [], ◌∷◌, Option, Some, None, sym, ap, ◌∙◌, arith}
use Rattle.code_meaning.specs.declared.word.Word.{Word}
use Rattle.code_meaning.specs.Machine.{Frame, Next, Stuck, take_words, on_words}
use Rattle.machine.specs.declared.configuration.Configuration.{Configuration}
use Rattle.machine.specs.declared.configuration.Step.{Step}
use Rattle.machine_parts.specs.Frames.{Laid, with_stack}
use Rattle.machine.specs.Rows.{beside}
use Rattle.machine.specs.Seen.{Comes}
use Rattle.machine.proofs.Calling.{as_well}
use Rattle.machine.proofs.Rows.{restored}

one_left : (n i : ℕ) → i < n → n - i ≡ suc (n - (i + 1))
one_left n i h = omega arith

pub one_more : (n i : ℕ) (stack rest taken : List Word) (word : Word) (o : Option (List Word × List Word)) → i < n → stack ≡ word ∷ rest
    → take_words (n - i) stack taken ≡ o → take_words (n - (i + 1)) rest (word ∷ taken) ≡ o
one_more n i stack rest taken word o h e is =
    sym (ap (λ m. take_words m (word ∷ rest) taken) (one_left n i h)) ∙ ap (λ s. take_words (n - i) s taken) (sym e) ∙ is

-- a frame whose words were taken off twice
pub twice : (old middle new : Laid) → middle.top ≡ with_stack old.top middle.top.stack → new.top ≡ with_stack middle.top new.top.stack → new.top ≡ with_stack old.top new.top.stack
twice old middle new e h = h ∙ ap (λ (f : Frame). with_stack f new.top.stack) e

-- a row of the words that were taken
pub from_words : (n : ℕ) (old new : Laid) (words : List Word) → beside new.top.stack (Some words) ≡ take_words n old.top.stack [] → new.top ≡ with_stack old.top new.top.stack → new.below ≡ old.below
    → (next : List Word → Frame → List Frame → List Word → Next) (said : Step) (c : Configuration) → Comes (next words (with_stack new.top old.top.stack) new.below new.top.stack) said c
    → Comes (on_words (take_words n old.top.stack []) (λ words stack. next words old.top old.below stack)) said c
from_words n old new words e top below next said c h =
    as_well _ _ said c
    (ap (λ o. on_words o (λ words stack. next words old.top old.below stack)) (sym e) ∙ ap (λ f. next words f old.below new.top.stack) (sym (restored old new top))
    ∙ ap (λ fs. next words (with_stack new.top old.top.stack) fs new.top.stack) (sym below))
    h

-- there are too few
pub too_few : (n : ℕ) (old : Laid) → None ≡ take_words n old.top.stack [] → (next : List Word → Frame → List Frame → List Word → Next)
    → on_words (take_words n old.top.stack []) (λ words stack. next words old.top old.below stack) ≡ Stuck
too_few n old e next = ap (λ o. on_words o (λ words stack. next words old.top old.below stack)) (sym e)
