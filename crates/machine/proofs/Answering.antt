-- What operations on the heap come to in a run.
use Rattle.std.proofs.Common.{◌≡◌, ℕ, suc, List, ◌∷◌, Some, None, refl, sym, ap, ◌∙◌}
use Rattle.object_values.specs.declared.value.Value.{Value}
use Rattle.object_values.specs.declared.value.Value.TheVariants as v
use Rattle.object_heap.specs.Effects.{Effect, Gives, Throws, NoRoom}
use Rattle.object_heap.specs.Store.{Store}
use Rattle.run_state.specs.World.{World, Limits, Limited, Room, not_told, with_store, Given, Raised, Full, acts_in}
use Rattle.code_meaning.specs.declared.word.Word.{Word}
use Rattle.code_meaning.specs.declared.word.Word.TheVariants.{R}
use Rattle.code_meaning.specs.Words.{unboxed}
use Rattle.machine.specs.Rows.{bare}
use Rattle.code_meaning.specs.Machine.{Frame, Ends, Stuck, to_line, on_done, on_outcome, on_thrown, unwind, Codes}

acts_given : (w : World) (value : Value) (store : Store) → acts_in w (Gives value store) ≡ Given value (with_store w store)
unfolding acts_in
acts_given w value store = refl

acts_raised : (w : World) (id : ℕ) (store : Store) → acts_in w (Throws id store) ≡ Raised id (with_store w store)
unfolding acts_in
acts_raised w id store = refl

acts_full : (w : World) → acts_in w NoRoom ≡ Full
unfolding acts_in
acts_full w = refl

pub bare_word : (value : Value) (word : Word) → bare value ≡ Some word → unboxed value ≡ word
bare_word v.Null word e = cc
bare_word (v.Bool a) word e = cc
bare_word (v.Byte a) word e = cc
bare_word (v.Short a) word e = cc
bare_word (v.Char a) word e = cc
bare_word (v.Int a) word e = cc
bare_word (v.Long a) word e = cc
bare_word (v.Str a) word e = cc
bare_word (v.Ref a) word e = cc

pub not_bare : (value : Value) → bare value ≡ None → unboxed value ≡ R value
not_bare v.Null e = refl
not_bare (v.Bool a) e = cc
not_bare (v.Byte a) e = cc
not_bare (v.Short a) e = cc
not_bare (v.Char a) e = cc
not_bare (v.Int a) e = cc
not_bare (v.Long a) e = cc
not_bare (v.Str a) e = refl
not_bare (v.Ref a) e = refl

module _ (codes : Codes) (limits : Limits) (word : Value → Word) (f : Frame) (below : List Frame) (w : World) (stack : List Word) (effect : Effect) where
  pub gave : (old : World) (value : Value) (store : Store) (on_top : Word) → effect ≡ Gives value store → on_top ≡ word value
      → on_outcome codes limits (acts_in w effect) word f below old stack ≡ to_line f below (with_store w store) (suc f.line) (on_top ∷ stack)
  gave old value store on_top e is =
      ap (λ e. on_outcome codes limits (acts_in w e) word f below old stack) e
      ∙ ap (λ o. on_outcome codes limits o word f below old stack) (acts_given w value store)
      ∙ ap (λ x. to_line f below (with_store w store) (suc f.line) (x ∷ stack)) (sym is)

  pub threw : (old : World) (id : ℕ) (store : Store) → effect ≡ Throws id store
      → on_outcome codes limits (acts_in w effect) word f below old stack ≡ unwind codes (f ∷ below) id not_told (with_store w store)
  threw old id store e = ap (λ e. on_outcome codes limits (acts_in w e) word f below old stack) e ∙ ap (λ o. on_outcome codes limits o word f below old stack) (acts_raised w id store)

  pub filled : (old : World) → effect ≡ NoRoom → on_outcome codes limits (acts_in w effect) word f below old stack ≡ Ends (Limited Room not_told old)
  filled old e = ap (λ e. on_outcome codes limits (acts_in w e) word f below old stack) e ∙ ap (λ o. on_outcome codes limits o word f below old stack) (acts_full w)

-- what is thrown
module _ (codes : Codes) (limits : Limits) (f : Frame) (below : List Frame) (w : World) (effect : Effect) where
  pub gave_none : (old : World) (value : Value) (store : Store) → effect ≡ Gives value store → on_thrown codes limits (acts_in w effect) f below old ≡ Stuck
  gave_none old value store e = ap (λ e. on_thrown codes limits (acts_in w e) f below old) e ∙ ap (λ o. on_thrown codes limits o f below old) (acts_given w value store)

  pub threw_on : (old : World) (id : ℕ) (store : Store) → effect ≡ Throws id store → on_thrown codes limits (acts_in w effect) f below old ≡ unwind codes (f ∷ below) id not_told (with_store w store)
  threw_on old id store e = ap (λ e. on_thrown codes limits (acts_in w e) f below old) e ∙ ap (λ o. on_thrown codes limits o f below old) (acts_raised w id store)

  pub filled_on : (old : World) → effect ≡ NoRoom → on_thrown codes limits (acts_in w effect) f below old ≡ Ends (Limited Room not_told old)
  filled_on old e = ap (λ e. on_thrown codes limits (acts_in w e) f below old) e ∙ ap (λ o. on_thrown codes limits o f below old) (acts_full w)

-- what is given and dropped
module _ (codes : Codes) (limits : Limits) (f : Frame) (below : List Frame) (w : World) (stack : List Word) (effect : Effect) where
  pub dropped : (old : World) (value : Value) (store : Store) → effect ≡ Gives value store → on_done codes limits (acts_in w effect) f below old stack ≡ to_line f below (with_store w store) (suc f.line) stack
  dropped old value store e = ap (λ e. on_done codes limits (acts_in w e) f below old stack) e ∙ ap (λ o. on_done codes limits o f below old stack) (acts_given w value store)

  pub dropped_threw : (old : World) (id : ℕ) (store : Store) → effect ≡ Throws id store → on_done codes limits (acts_in w effect) f below old stack ≡ unwind codes (f ∷ below) id not_told (with_store w store)
  dropped_threw old id store e = ap (λ e. on_done codes limits (acts_in w e) f below old stack) e ∙ ap (λ o. on_done codes limits o f below old stack) (acts_raised w id store)

  pub dropped_filled : (old : World) → effect ≡ NoRoom → on_done codes limits (acts_in w effect) f below old stack ≡ Ends (Limited Room not_told old)
  dropped_filled old e = ap (λ e. on_done codes limits (acts_in w e) f below old stack) e ∙ ap (λ o. on_done codes limits o f below old stack) (acts_full w)
