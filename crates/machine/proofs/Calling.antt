-- Calls.
use Rattle.std.proofs.Common.{◌≡◌, ℕ, zero, suc, ◌≤◌, List, [], ◌∷◌, length, Some, refl, sym, ap, ◌∙◌, subst, arith}
use Rattle.pl_code.specs.declared.code.FunCode.{FunCode}
use Rattle.run_state.specs.World.{World, Limit, Limits, Limited, not_told, Counted, Passes}
use Rattle.code_meaning.specs.declared.word.Word.{Word}
use Rattle.code_meaning.specs.Machine.{Frame, Next, Ends, take_words, on_words, on_enter, Codes}
use Rattle.machine.specs.declared.configuration.Configuration.{Configuration}
use Rattle.machine.specs.declared.configuration.Step.{Step}
use Rattle.machine.specs.Seen.{Comes}

-- what comes of what is the same
pub as_well : (a b : Next) (said : Step) (c : Configuration) → a ≡ b → Comes b said c → Comes a said c
as_well a b said c e h = subst (λ n. Comes n said c) (sym e) h

-- so many words are there
there : (n : ℕ) (stack taken : List Word) → n ≤ length stack → (p : List Word × List Word) × (take_words n stack taken ≡ Some p)
there zero stack taken h = ((taken, stack), refl)
there (suc n) [] taken h = absurd (omega arith)
there (suc n) (word ∷ stack) taken h = there n stack (word ∷ taken) (omega arith)

-- a call that passes a limit
pub limited : (codes : Codes) (limits : Limits) (n k : ℕ) (g : FunCode) (f : Frame) (below : List Frame) (w new : World) (counted : Counted) (limit : Limit) → n ≤ length f.stack → counted ≡ Passes limit new
    → on_words (take_words n f.stack []) (λ args stack. on_enter codes limits counted f.text k g [] f below w args stack) ≡ Ends (Limited limit not_told new)
limited codes limits n k g f below w new counted limit h e =
    let all = there n f.stack [] h in
    ap (λ o. on_words o (λ args stack. on_enter codes limits counted f.text k g [] f below w args stack)) all.1
    ∙ ap (λ c. on_enter codes limits c f.text k g [] f below w all.0.0 all.0.1) e
