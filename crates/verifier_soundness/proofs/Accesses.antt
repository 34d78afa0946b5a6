-- Reads, writes and calls whose receiver's class is found when the code runs: a member that is called is one of the list and is built, its
-- tick is paid, and what it gives is a reference, or is dropped.
use Rattle.std.proofs.Common.{◌≡◌, ℕ, true, List, ◌∷◌, Option, Some, None, ◌∙◌}
use Rattle.std.specs.Prelude.{is_some, ◌||◌}
use Rattle.std.proofs.lemmas.Bool.{false≢true}
use Rattle.object_values.specs.declared.value.Value.{Value}
use Rattle.number_ops.specs.Effects.{Effect}
use Rattle.pl_code.specs.declared.kinds.Slot.TheVariants as slot
use Rattle.pl_code.specs.declared.code.FunCode.{FunCode}
use Rattle.pl_code.specs.declared.code.Instruction.{Instruction}
use Rattle.instruction_types.specs.declared.flow.Flow.TheVariants as flow
use Rattle.instruction_types.specs.Effects.{flow_of}
use Rattle.member_calls.specs.Members.{does, is_built, is_of_host}
use Rattle.member_calls.proofs.Doing.{built_act}
use Rattle.code_meaning.specs.Access.{Access, Calls, Acts}
use Rattle.code_meaning.specs.DefAccessLaws.{IsConfined}
use Rattle.run_state.specs.World.{World, Limits, Counted, Counts, Passes, allowed_in, pay_member}
use Rattle.code_meaning.specs.declared.word.Word.{Word}
use Rattle.code_meaning.specs.declared.word.Word.TheVariants.{R}
use Rattle.code_meaning.specs.Machine.{Codes, Frame, on_access, on_found, on_found_paid, on_put, on_put_paid, on_write}
use Rattle.verifier_soundness.specs.Fits.{AreWellShaped, kinds_of}
use Rattle.verifier_soundness.proofs.Lowering.{left_at}
use Rattle.verifier_soundness.proofs.Moves.{Moves, Here, StandsAt}
use Rattle.verifier_soundness.proofs.References.{whole_is}
use Rattle.verifier_soundness.proofs.Throwing.{done_moves, effect_moves}
use Rattle.verifier_soundness.proofs.Calls.{MemberPaid, fewer_ticks, member_is_paid, sooner}

module _ (codes : Codes) (limits : Limits) (well : AreWellShaped codes limits) (function : FunCode) (f : Frame) (below : List Frame) (i : Instruction) (s : StandsAt codes limits function f i) (goes : flow_of i ≡ flow.GoesOn) where
  does_something : (number : ℕ) (arguments : List Value) (w : World) → is_built number ≡ true → is_some (does limits.ground.host number arguments w.store) ≡ true
  does_something number arguments w built = built_act limits.ground.host number arguments w.store ∙ (λ i. built i || is_of_host number)

  paid_here : (w w' : World) → Here codes limits function f below w → MemberPaid codes limits w (Counts w') → Here codes limits function f below w'
  paid_here w w' here paid = record { fits = here.fits; belows = here.belows; within = here.within; reached = paid.1 }

  -- ---- what is read or called

  found_moves : (w : World) → Here codes limits function f below w → (stack : List Word) (o : Option Effect) → is_some o ≡ true → slot.R ∷ kinds_of stack ≡ s.left
      → Moves codes limits (left_at codes limits f below w) (on_found codes limits o f below w stack)
  found_moves w here stack None some kinds = absurd (false≢true some)
  found_moves w here stack (Some e) some kinds = effect_moves codes limits well function f below w i s here R slot.R stack e goes kinds (whole_is e)

  found_paid_moves : (w : World) → Here codes limits function f below w → (number : ℕ) (arguments : List Value) (stack : List Word) → is_built number ≡ true → slot.R ∷ kinds_of stack ≡ s.left
      → (c : Counted) → MemberPaid codes limits w c → Moves codes limits (left_at codes limits f below w) (on_found_paid codes limits c number arguments f below stack)
  found_paid_moves w here number arguments stack built kinds (Passes limit w') paid = paid
  found_paid_moves w here number arguments stack built kinds (Counts w') paid =
      sooner codes limits (left_at codes limits f below w') (left_at codes limits f below w) (on_found codes limits (does limits.ground.host number arguments w'.store) f below w' stack)
      (fewer_ticks codes limits f below w w' paid.0)
      (found_moves w' (paid_here w w' here paid) stack (does limits.ground.host number arguments w'.store) (does_something number arguments w' built) kinds)

  pub access_moves : (w : World) → Here codes limits function f below w → (stack : List Word) (a : Access) → IsConfined (allowed_in limits f.text) a → slot.R ∷ kinds_of stack ≡ s.left
      → Moves codes limits (left_at codes limits f below w) (on_access codes limits a f below w stack)
  access_moves w here stack (Calls number arguments) confined kinds =
      found_paid_moves w here number arguments stack confined.1 kinds (pay_member f.text number w) (member_is_paid codes limits f.text number w confined.0 here.reached)
  access_moves w here stack (Acts e) confined kinds = effect_moves codes limits well function f below w i s here R slot.R stack e goes kinds (whole_is e)

  -- ---- what is written

  put_moves : (w : World) → Here codes limits function f below w → (stack : List Word) (o : Option Effect) → is_some o ≡ true → kinds_of stack ≡ s.left
      → Moves codes limits (left_at codes limits f below w) (on_put codes limits o f below w stack)
  put_moves w here stack None some kinds = absurd (false≢true some)
  put_moves w here stack (Some e) some kinds = done_moves codes limits well function f below w i s here stack e goes kinds

  put_paid_moves : (w : World) → Here codes limits function f below w → (number : ℕ) (arguments : List Value) (stack : List Word) → is_built number ≡ true → kinds_of stack ≡ s.left
      → (c : Counted) → MemberPaid codes limits w c → Moves codes limits (left_at codes limits f below w) (on_put_paid codes limits c number arguments f below stack)
  put_paid_moves w here number arguments stack built kinds (Passes limit w') paid = paid
  put_paid_moves w here number arguments stack built kinds (Counts w') paid =
      sooner codes limits (left_at codes limits f below w') (left_at codes limits f below w) (on_put codes limits (does limits.ground.host number arguments w'.store) f below w' stack)
      (fewer_ticks codes limits f below w w' paid.0)
      (put_moves w' (paid_here w w' here paid) stack (does limits.ground.host number arguments w'.store) (does_something number arguments w' built) kinds)

  pub write_moves : (w : World) → Here codes limits function f below w → (stack : List Word) (a : Access) → IsConfined (allowed_in limits f.text) a → kinds_of stack ≡ s.left
      → Moves codes limits (left_at codes limits f below w) (on_write codes limits a f below w stack)
  write_moves w here stack (Calls number arguments) confined kinds =
      put_paid_moves w here number arguments stack confined.1 kinds (pay_member f.text number w) (member_is_paid codes limits f.text number w confined.0 here.reached)
  write_moves w here stack (Acts e) confined kinds = done_moves codes limits well function f below w i s here stack e goes kinds
