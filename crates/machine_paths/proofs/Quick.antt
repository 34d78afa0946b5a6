-- What lies on the top of a stack, for the fast path.
use Rattle.std.proofs.Common.{◌≡◌, ℤ, Bool, true, false, ◌<◌, ◌≤◌, List, [], ◌∷◌, length, Option, Some, refl, ap, sym, ◌∙◌, arith}
use Rattle.std.specs.Prelude.{drop, slice_get}
use Rattle.arithmetic.specs.declared.operator.Op.{Op}
use Rattle.arithmetic.specs.declared.operator.Num.TheVariants as n
use Rattle.arithmetic.specs.Operators.{of_type}
use Rattle.std.specs.Int.{w32, w64}
use Rattle.pl_code.specs.declared.kinds.Plain.TheVariants as plain
use Rattle.code_meaning.specs.declared.word.Word.{Word}
use Rattle.code_meaning.specs.declared.word.Word.TheVariants.{I, J}
use Rattle.code_meaning.specs.Words.{two_ints, two_longs, Calculates}
use Rattle.pl_code.specs.declared.code.FunCode.{FunCode}
use Rattle.pl_code.specs.declared.code.Instruction.{Instruction}
use Rattle.run_state.specs.World.{Limits}
use Rattle.code_meaning.specs.Machine.{Codes, Config, Frame, Goes, Next, act, acts, code_in, copied, function_of, lines_of, on_stack, on_top, step}
use Rattle.machine_parts.specs.Frames.{Laid}
use Rattle.machine_paths.specs.Fast.{Does, Keeps}

pub of_upper : (stack : List Word) (word : Word) (row : Word → List Word → Next) → Some word ≡ slice_get stack 0 → on_top stack row ≡ row word (drop 1 stack)
of_upper [] word row e = absurd (cc)
of_upper (z ∷ stack) word row e = ap (λ w. row w stack) (cc)

pub of_popped : (stack : List Word) (word : Word) (row : List Word → Next) → Some word ≡ slice_get stack 0 → on_stack (copied plain.Pop stack) row ≡ row (drop 1 stack)
of_popped [] word row e = absurd (cc)
of_popped (z ∷ stack) word row e = refl

pub upper_two : (stack : List Word) (upper lower : Word) → Some upper ≡ slice_get stack 0 → Some lower ≡ slice_get stack 1 → stack ≡ upper ∷ lower ∷ drop 2 stack
upper_two [] upper lower e h = absurd (cc)
upper_two (z ∷ []) upper lower e h = absurd (cc)
upper_two (z ∷ y ∷ stack) upper lower e h = ap (λ w. w ∷ y ∷ stack) (cc) ∙ ap (λ w. upper ∷ w ∷ stack) (cc)

pub of_two_ints : (o : Op) (stack rest : List Word) (a b : ℤ) → stack ≡ I b ∷ I a ∷ rest → two_ints o stack ≡ Calculates (of_type n.Int w32 o a b) rest
of_two_ints o stack rest a b e = ap (two_ints o) e

pub of_two_longs : (o : Op) (stack rest : List Word) (a b : ℤ) → stack ≡ J b ∷ J a ∷ rest → two_longs o stack ≡ Calculates (of_type n.Long w64 o a b) rest
of_two_longs o stack rest a b e = ap (two_longs o) e

pub one_is_left : (stack left : List Word) → left ≡ drop 1 stack → 2 ≤ length stack → 0 < length left
one_is_left [] left e h = absurd (omega arith)
one_is_left (z ∷ stack) left e h = omega (arith, ap length e)

pub both_left : (stack left : List Word) → left ≡ drop 1 stack → drop 1 left ≡ drop 2 stack
both_left [] left e = ap (drop 1) e
both_left (z ∷ stack) left e = ap (drop 1) e

-- it is put there once more
pub upper_twice : (stack : List Word) (word : Word) (row : List Word → Next) → Some word ≡ slice_get stack 0 → on_stack (copied plain.Dup stack) row ≡ row (word ∷ stack)
upper_twice [] word row e = absurd (cc)
upper_twice (z ∷ stack) word row e = ap (λ w. row (w ∷ z ∷ stack)) (cc)

pub of_top : (stack rest : List Word) (word : Word) → stack ≡ word ∷ rest → (next : Word → List Word → Next) → on_top stack next ≡ next word rest
of_top stack rest word e next = ap (λ s. on_top s next) e

-- ---- what was done

pub as_does : (first second : Next) (old new : Config) (done : Bool) → first ≡ second → Does second old new done → Does first old new done
as_does first second old new true e h = e ∙ h
as_does first second old new false e h = h

pub was_done : (next : Next) (old new : Config) (done : Bool) → done ≡ true → Does next old new done → next ≡ Goes new
was_done next old new true e h = h
was_done next old new false e h = absurd (cc)

pub not_done : (next : Next) (old new : Config) (done : Bool) → done ≡ false → Does next old new done → new ≡ old
not_done next old new true e h = absurd (cc)
not_done next old new false e h = h

pub same_function : (codes : Codes) (old new : Frame) (given : Option FunCode) → new.text ≡ old.text → new.fun ≡ old.fun → function_of codes old ≡ given → function_of codes new ≡ given
same_function codes old new given text fun e = ap (λ t. slice_get (code_in codes t) new.fun) text ∙ ap (λ n. slice_get (code_in codes old.text) n) fun ∙ e

pub kept_on : (a b c : Laid) → Keeps a b → Keeps b c → Keeps a c
kept_on a b c h g = (g.0 ∙ h.0, g.1 ∙ h.1, g.2 ∙ h.2, g.3 ∙ h.3)

pub stepped : (codes : Codes) (limits : Limits) (c d : Config) (f : FunCode) (instruction : Instruction) (done : Bool) → function_of codes c.top ≡ Some f → Some instruction ≡ slice_get f.lines c.top.line
    → Does (act codes limits instruction c.top c.below c.world) c d done → Does (step codes limits c) c d done
stepped codes limits c d f instruction done e is h =
    as_does _ _ c d done
    (ap (λ g. acts codes limits (slice_get (lines_of codes limits g) c.top.line) c.top c.below c.world) e ∙ ap (λ (o : Option Instruction). acts codes limits o c.top c.below c.world) (sym is)) h
