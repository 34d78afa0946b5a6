-- Where exceptions go on.
use Rattle.std.proofs.Common.{◌≡◌, ℕ, ◌&&◌, Bool, true, false, cond, find, map, List, [], ◌∷◌, Option, Some, None, nat_le, nat_lt, if◌then◌else◌, refl, sym, ap, ◌∙◌}
use Rattle.pl_types.specs.Names.{class_of_full}
use Rattle.pl_code.specs.declared.code.Trap.{Trap}
use Rattle.pl_code.specs.declared.code.FunCode.{FunCode}
use Rattle.run_state.specs.World.{Arose, World}
use Rattle.code_meaning.specs.Machine.{Frame, Next, Handlers, traps_at, traps_of, is_instance, lands, unwind, Codes, function_of}
use Rattle.machine_parts.specs.declared.handlers.LinkedTrap.{LinkedTrap}
use Rattle.machine_parts.specs.Handlers.{catches, line_of, linked}
use Rattle.machine.specs.Rows.{landing, landed}

abbrev lands_in : Handlers → Frame → List Frame → ℕ → Arose → World → Next → Next
lands_in hs f below id place w further = lands hs f.text f.fun f.locals f.turns f.due below id place w further

module _ (line : ℕ) (f : Frame) (below : List Frame) (id : ℕ) (place : Arose) (w : World) (further : Next) where
  abbrev goes_at : ℕ → Next
  goes_at at = landed (Some at) f below id w further

  is_tried : (is : Bool) (t : LinkedTrap) (ts : List Trap) (hs : Handlers)
      → lands_in hs f below id place w further ≡ landed (line_of (find (catches line id w) (map linked ts))) f below id w further
      → (if is then goes_at t.at else lands_in hs f below id place w further) ≡ landed (line_of (cond is (Some t) (find (catches line id w) (map linked ts)))) f below id w further
  is_tried true t ts hs e = refl
  is_tried false t ts hs e = e

  is_within : (within : Bool) (t : Trap) (ts : List Trap)
      → lands_in (traps_at ts line) f below id place w further ≡ landed (line_of (find (catches line id w) (map linked ts))) f below id w further
      → lands_in (if within then record { class = class_of_full t.class; at = t.at } ∷ traps_at ts line else traps_at ts line) f below id place w further
      ≡ landed (line_of (cond (within && is_instance (class_of_full t.class) id w) (Some (linked t)) (find (catches line id w) (map linked ts)))) f below id w further
  is_within true t ts e = is_tried (is_instance (class_of_full t.class) id w) (linked t) ts (traps_at ts line) e
  is_within false t ts e = e

  pub lands_at : (ts : List Trap) → lands_in (traps_at ts line) f below id place w further ≡ landed (line_of (find (catches line id w) (map linked ts))) f below id w further
  lands_at [] = refl
  lands_at (t ∷ ts) = is_within (nat_le t.from line && nat_lt line t.to) t ts (lands_at ts)

  pub lands_here : (g : Option FunCode) → lands_in (traps_of g line) f below id place w further ≡ landed (landing g line id w) f below id w further
  lands_here None = refl
  lands_here (Some g) = lands_at g.traps

-- an exception in a frame goes on where a trap catches it, or in the frames below
pub unwinds : (codes : Codes) (f : Frame) (fs : List Frame) (id : ℕ) (place : Arose) (w : World)
    → unwind codes (f ∷ fs) id place w ≡ landed (landing (function_of codes f) f.line id w) f fs id w (unwind codes fs id place w)
unwinds codes f fs id place w = lands_here f.line f fs id place w (unwind codes fs id place w) (function_of codes f)

module _ (codes : Codes) (f : Frame) (fs : List Frame) (id : ℕ) (place : Arose) (w : World) (from : Next) (is : from ≡ unwind codes (f ∷ fs) id place w) where
  -- it goes on here
  pub goes_on_here : (line : ℕ) → Some line ≡ landing (function_of codes f) f.line id w → from ≡ landed (Some line) f fs id w (unwind codes fs id place w)
  goes_on_here line h = is ∙ unwinds codes f fs id place w ∙ ap (λ o. landed o f fs id w (unwind codes fs id place w)) (sym h)

  -- it goes on in the frames below
  pub goes_on_below : None ≡ landing (function_of codes f) f.line id w → from ≡ unwind codes fs id place w
  goes_on_below h = is ∙ unwinds codes f fs id place w ∙ ap (λ o. landed o f fs id w (unwind codes fs id place w)) (sym h)
