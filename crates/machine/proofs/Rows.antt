-- Rows that do not fit what lies on the stack.
use Rattle.std.proofs.Common.{◌≡◌, ℤ, List, [], ◌∷◌, Some, None, refl, ap, sym, ◌∙◌}
use Rattle.object_values.specs.declared.value.Value.{Value}
use Rattle.number_ops.specs.arithmetic_declared.operator.Op.{Op}
use Rattle.code_meaning.specs.declared.word.Word.{Word}
use Rattle.code_meaning.specs.declared.word.Word.TheVariants.{I, J, R}
use Rattle.code_meaning.specs.Words.{NoRow, one_int, two_ints, one_long, two_longs, long_and_int}
use Rattle.code_meaning.specs.Machine.{Frame, Next, Stuck, on_top, on_int, on_long, on_reference}
use Rattle.machine.specs.declared.configuration.Configuration.{Configuration}
use Rattle.machine.specs.declared.configuration.Step.{Step}
use Rattle.machine_parts.specs.Frames.{Laid, with_stack}
use Rattle.machine.specs.Seen.{int_of, long_of, Comes}
use Rattle.machine.proofs.Calling.{as_well}
use Rattle.code_meaning.specs.Members.{reference_in}
use Rattle.machine.specs.Rows.{on_pair, on_place, on_references, on_three, on_triple}

pub no_int : (stack : List Word) (row : ℤ → List Word → Next) → int_of stack ≡ None → on_top stack (λ word rest. on_int word (λ a. row a rest)) ≡ Stuck
no_int [] row e = refl
no_int (I a ∷ stack) row e = cc
no_int (J a ∷ stack) row e = refl
no_int (R a ∷ stack) row e = refl

pub no_long : (stack : List Word) (row : ℤ → List Word → Next) → long_of stack ≡ None → on_top stack (λ word rest. on_long word (λ a. row a rest)) ≡ Stuck
no_long [] row e = refl
no_long (I a ∷ stack) row e = refl
no_long (J a ∷ stack) row e = cc
no_long (R a ∷ stack) row e = refl

pub not_one_int : (o : Op) (stack : List Word) → int_of stack ≡ None → one_int o stack ≡ NoRow
not_one_int o [] e = refl
not_one_int o (I a ∷ stack) e = cc
not_one_int o (J a ∷ stack) e = refl
not_one_int o (R a ∷ stack) e = refl

pub not_two_ints : (o : Op) (stack : List Word) → int_of stack ≡ None → two_ints o stack ≡ NoRow
not_two_ints o [] e = refl
not_two_ints o (I a ∷ stack) e = cc
not_two_ints o (J a ∷ stack) e = refl
not_two_ints o (R a ∷ stack) e = refl

pub one_of_two_ints : (o : Op) (b : ℤ) (stack : List Word) → int_of stack ≡ None → two_ints o (I b ∷ stack) ≡ NoRow
one_of_two_ints o b [] e = refl
one_of_two_ints o b (I a ∷ stack) e = cc
one_of_two_ints o b (J a ∷ stack) e = refl
one_of_two_ints o b (R a ∷ stack) e = refl

pub not_one_long : (o : Op) (stack : List Word) → long_of stack ≡ None → one_long o stack ≡ NoRow
not_one_long o [] e = refl
not_one_long o (I a ∷ stack) e = refl
not_one_long o (J a ∷ stack) e = cc
not_one_long o (R a ∷ stack) e = refl

pub not_two_longs : (o : Op) (stack : List Word) → long_of stack ≡ None → two_longs o stack ≡ NoRow
not_two_longs o [] e = refl
not_two_longs o (I a ∷ stack) e = refl
not_two_longs o (J a ∷ stack) e = cc
not_two_longs o (R a ∷ stack) e = refl

pub one_of_two_longs : (o : Op) (b : ℤ) (stack : List Word) → long_of stack ≡ None → two_longs o (J b ∷ stack) ≡ NoRow
one_of_two_longs o b [] e = refl
one_of_two_longs o b (I a ∷ stack) e = refl
one_of_two_longs o b (J a ∷ stack) e = cc
one_of_two_longs o b (R a ∷ stack) e = refl

pub no_shift : (o : Op) (stack : List Word) → int_of stack ≡ None → long_and_int o stack ≡ NoRow
no_shift o [] e = refl
no_shift o (I a ∷ stack) e = cc
no_shift o (J a ∷ stack) e = refl
no_shift o (R a ∷ stack) e = refl

pub half_shift : (o : Op) (b : ℤ) (stack : List Word) → long_of stack ≡ None → long_and_int o (I b ∷ stack) ≡ NoRow
half_shift o b [] e = refl
half_shift o b (I a ∷ stack) e = refl
half_shift o b (J a ∷ stack) e = cc
half_shift o b (R a ∷ stack) e = refl

-- ---- what lies on the top

pub of_reference : (word : Word) (value : Value) → word ≡ R value → (next : Value → Next) → on_reference word next ≡ next value
of_reference word value e next = ap (λ w. on_reference w next) e

-- two references
pub of_pair : (stack rest left : List Word) (upper lower : Word) → stack ≡ upper ∷ rest → rest ≡ lower ∷ left → (next : Value → Value → List Word → Next)
    → on_pair stack next ≡ on_references lower upper (λ a b. next a b left)
of_pair stack rest left upper lower e h next =
    ap (λ s. on_pair s next) e ∙ ap (λ s. on_reference upper (λ b. on_top s (λ lower stack. on_reference lower (λ a. next a b stack)))) h

-- ---- words taken off the newest frame

pub restored : (old new : Laid) → new.top ≡ with_stack old.top new.top.stack → with_stack new.top old.top.stack ≡ old.top
restored old new e = ap (λ (f : Frame). with_stack f old.top.stack) e

pub from_top : (old new : Laid) (word : Word) → old.top.stack ≡ word ∷ new.top.stack → new.top ≡ with_stack old.top new.top.stack → new.below ≡ old.below
    → (next : Word → Frame → List Frame → List Word → Next) (said : Step) (c : Configuration) → Comes (next word (with_stack new.top old.top.stack) new.below new.top.stack) said c
    → Comes (on_top old.top.stack (λ word stack. next word old.top old.below stack)) said c
from_top old new word e top below next said c h =
    as_well _ _ said c
    (ap (λ s. on_top s (λ word stack. next word old.top old.below stack)) e ∙ ap (λ f. next word f old.below new.top.stack) (sym (restored old new top))
    ∙ ap (λ fs. next word (with_stack new.top old.top.stack) fs new.top.stack) (sym below))
    h

pub from_pair : (old middle new : Laid) (upper lower : Word) → old.top.stack ≡ upper ∷ middle.top.stack → middle.top.stack ≡ lower ∷ new.top.stack
    → middle.top ≡ with_stack old.top middle.top.stack → new.top ≡ with_stack middle.top new.top.stack → middle.below ≡ old.below → new.below ≡ middle.below
    → (next : Value → Value → Frame → List Frame → List Word → Next) (said : Step) (c : Configuration)
    → Comes (on_references lower upper (λ a b. next a b (with_stack new.top old.top.stack) new.below new.top.stack)) said c
    → Comes (on_pair old.top.stack (λ a b stack. next a b old.top old.below stack)) said c
from_pair old middle new upper lower e h over top between below next said c is =
    as_well _ _ said c
    (of_pair old.top.stack middle.top.stack new.top.stack upper lower e h (λ a b stack. next a b old.top old.below stack)
    ∙ ap (λ f. on_references lower upper (λ a b. next a b f old.below new.top.stack)) (sym (ap (λ (f : Frame). with_stack f old.top.stack) (top ∙ ap (λ (f : Frame). with_stack f new.top.stack) over)))
    ∙ ap (λ fs. on_references lower upper (λ a b. next a b (with_stack new.top old.top.stack) fs new.top.stack)) (sym (below ∙ between)))
    is

-- three references, the upper one last
pub from_triple : (old third_off second_off new : Laid) (first second third : Word) → old.top.stack ≡ third ∷ third_off.top.stack → third_off.top.stack ≡ second ∷ second_off.top.stack → second_off.top.stack ≡ first ∷ new.top.stack
    → third_off.top ≡ with_stack old.top third_off.top.stack → second_off.top ≡ with_stack third_off.top second_off.top.stack → new.top ≡ with_stack second_off.top new.top.stack
    → third_off.below ≡ old.below → second_off.below ≡ third_off.below → new.below ≡ second_off.below
    → (next : Value → Value → Value → Frame → List Frame → List Word → Next) (said : Step) (c : Configuration)
    → Comes (on_three first second third (λ a b c. next a b c (with_stack new.top old.top.stack) new.below new.top.stack)) said c
    → Comes (on_triple old.top.stack (λ a b c stack. next a b c old.top old.below stack)) said c
from_triple old third_off second_off new first second third e h k top between over below below_then below_last next said c is =
    as_well _ _ said c
    (ap (λ s. on_triple s (λ a b c stack. next a b c old.top old.below stack)) e
    ∙ ap (λ s. on_reference third (λ c. on_top s (λ second rest. on_reference second (λ b. on_top rest (λ first stack. on_reference first (λ a. next a b c old.top old.below stack)))))) h
    ∙ ap (λ s. on_reference third (λ c. on_reference second (λ b. on_top s (λ first stack. on_reference first (λ a. next a b c old.top old.below stack))))) k
    ∙ ap (λ f. on_three first second third (λ a b c. next a b c f old.below new.top.stack)) (sym (ap (λ (f : Frame). with_stack f old.top.stack) over ∙ ap (λ (f : Frame). with_stack f old.top.stack) between ∙ ap (λ (f : Frame). with_stack f old.top.stack) top))
    ∙ ap (λ fs. on_three first second third (λ a b c. next a b c (with_stack new.top old.top.stack) fs new.top.stack)) (sym (below_last ∙ below_then ∙ below)))
    is

-- an index, and an array below it
pub from_place : (old middle new : Laid) (at : ℤ) (lower : Word) → old.top.stack ≡ I at ∷ middle.top.stack → middle.top.stack ≡ lower ∷ new.top.stack
    → middle.top ≡ with_stack old.top middle.top.stack → new.top ≡ with_stack middle.top new.top.stack → middle.below ≡ old.below → new.below ≡ middle.below
    → (next : ℤ → Value → Frame → List Frame → List Word → Next) (said : Step) (c : Configuration)
    → Comes (on_reference lower (λ array. next at array (with_stack new.top old.top.stack) new.below new.top.stack)) said c
    → Comes (on_place old.top.stack (λ at array stack. next at array old.top old.below stack)) said c
from_place old middle new at lower e h top over below between next said c is =
    as_well _ _ said c
    (ap (λ s. on_place s (λ at array stack. next at array old.top old.below stack)) e
    ∙ ap (λ s. on_top s (λ lower stack. on_reference lower (λ array. next at array old.top old.below stack))) h
    ∙ ap (λ f. on_reference lower (λ array. next at array f old.below new.top.stack)) (sym (ap (λ (f : Frame). with_stack f old.top.stack) over ∙ ap (λ (f : Frame). with_stack f old.top.stack) top))
    ∙ ap (λ fs. on_reference lower (λ array. next at array (with_stack new.top old.top.stack) fs new.top.stack)) (sym (between ∙ below)))
    is

pub no_place : (stack : List Word) (next : ℤ → Value → List Word → Next) → int_of stack ≡ None → on_place stack next ≡ Stuck
no_place stack next e = no_int stack (λ at rest. on_top rest (λ lower stack. on_reference lower (λ array. next at array stack))) e

pub half_place : (stack : List Word) (at : ℤ) (next : ℤ → Value → List Word → Next) → stack ≡ I at ∷ [] → on_place stack next ≡ Stuck
half_place stack at next e = ap (λ s. on_place s next) e

-- a word that is moved as a reference, or is none
pub is_reference : (word : Word) (value : Value) → reference_in word ≡ Some value → (next : Value → Next) → on_reference word next ≡ next value
is_reference (I a) value e next = absurd (cc)
is_reference (J a) value e next = absurd (cc)
is_reference (R other) value e next = ap next (cc)

pub no_reference : (word : Word) → reference_in word ≡ None → (next : Value → Next) → on_reference word next ≡ Stuck
no_reference (I a) e next = refl
no_reference (J a) e next = refl
no_reference (R value) e next = absurd (cc)
