-- What is counted leaves the store.
use Rattle.std.proofs.Common.{◌≡◌, ℕ, ◌-◌, ◌||◌, Bool, true, false, refl}
use Rattle.std.specs.Prelude.{nat_lt, not, if◌then◌else◌}
use Rattle.object_values.specs.declared.object.Owner.{Owner}
use Rattle.object_values.specs.declared.object.Owner.TheVariants.{Script, Prelude}
use Rattle.run_state.specs.World.{World, Limits, Loop, Depth, Ticks, Counted, Counts, Passes, pay_tick, take_turn, goes_deeper, enter, reach, reaches, pay_member}

abbrev pub SameStore : World → Counted → Type 0
SameStore w (Passes limit w') = w'.store ≡ w.store
SameStore w (Counts w') = w'.store ≡ w.store

pub tick_keeps : (w : World) → SameStore w (pay_tick w)
unfolding pay_tick
tick_keeps w = by_test (nat_lt 0 w.ticks) where
  by_test : (t : Bool) → SameStore w (if t then Counts (record { store = w.store; ticks = w.ticks - 1; reached = w.reached }) else Passes Ticks w)
  by_test true = refl
  by_test false = refl

pub turn_keeps : (limits : Limits) (limited : Bool) (turns : ℕ) (w : World) → SameStore w (take_turn limits limited turns w)
unfolding take_turn
turn_keeps limits limited turns w = by_test (not limited || nat_lt turns limits.loop) where
  by_test : (t : Bool) → SameStore w (if t then pay_tick w else Passes Loop w)
  by_test true = tick_keeps w
  by_test false = refl

deeper_keeps : (limits : Limits) (depth : ℕ) (w : World) (c : Counted) → SameStore w c → SameStore w (goes_deeper c limits depth)
unfolding goes_deeper
deeper_keeps limits depth w (Passes limit w') p = p
deeper_keeps limits depth w (Counts w') p = by_test (nat_lt depth limits.depth) where
  by_test : (t : Bool) → SameStore w (if t then Counts w' else Passes Depth w')
  by_test true = p
  by_test false = p

pub call_keeps : (limits : Limits) (depth : ℕ) (w : World) → SameStore w (enter limits depth w)
unfolding enter
call_keeps limits depth w = deeper_keeps limits depth w (pay_tick w) (tick_keeps w)

reach_keeps : (number : ℕ) (w : World) (c : Counted) → SameStore w c → SameStore w (reaches number c)
unfolding reaches reach
reach_keeps number w (Passes limit w') p = p
reach_keeps number w (Counts w') p = p

pub member_keeps : (text : Owner) (number : ℕ) (w : World) → SameStore w (pay_member text number w)
unfolding pay_member
member_keeps Script number w = reach_keeps number w (pay_tick w) (tick_keeps w)
member_keeps Prelude number w = tick_keeps w
