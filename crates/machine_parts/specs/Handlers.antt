-- Traps whose classes were found, and what an index of them may leave out.
use Rattle.std.specs.Prelude.{◌≡◌, ◌≤◌, ◌<◌, ◌+◌, ◌*◌, ◌&&◌, ℕ, suc, Bool, false, List, map, Option, Some, None, nat_le, nat_lt, slice_get}
use Rattle.pl_types.specs.Names.{class_of_full}
use Rattle.pl_code.specs.declared.code.Trap.{Trap}
use Rattle.pl_code.specs.declared.code.FunCode.{FunCode}
use Rattle.run_state.specs.World.{World}
use Rattle.code_meaning.specs.Machine.{is_instance}
use Rattle.machine_parts.specs.declared.handlers.LinkedTrap.{LinkedTrap}

abbrev pub linked : Trap → LinkedTrap
linked t = record { from = t.from; to = t.to; at = t.at; class = class_of_full t.class }

abbrev pub linked_traps : FunCode → List LinkedTrap
linked_traps f = map linked f.traps

-- the traps of each function
abbrev pub handlers_in : List FunCode → List (List LinkedTrap)
handlers_in functions = map linked_traps functions

-- a trap is over a line
abbrev pub covers : ℕ → LinkedTrap → Bool
covers line t = nat_le t.from line && nat_lt line t.to

-- and catches an exception there
abbrev pub catches : ℕ → ℕ → World → LinkedTrap → Bool
catches line id w t = covers line t && is_instance t.class id w

abbrev pub line_of : Option LinkedTrap → Option ℕ
line_of None = None
line_of (Some t) = Some t.at

-- a trap has one of the lines from a line on, before another
abbrev pub meets : ℕ → ℕ → LinkedTrap → Bool
meets from to t = nat_lt t.from to && nat_lt from t.to

-- none of the traps from a place on, before another, has one of these lines
abbrev pub NoneMeets : List LinkedTrap → ℕ → ℕ → ℕ → ℕ → Type 0
NoneMeets traps start end from to = (place : ℕ) (t : LinkedTrap) → start ≤ place → place < end → slice_get traps place ≡ Some t → meets from to t ≡ false

-- no trap before the place of a block has one of its lines
abbrev pub AreFirst : List LinkedTrap → List ℕ → Type 0
AreFirst traps firsts = (block first : ℕ) → slice_get firsts block ≡ Some first → NoneMeets traps 0 first (block * 64) (block * 64 + 64)

-- a place behind another, and no trap between has a line in common with the one there
abbrev pub IsNext : List LinkedTrap → ℕ → ℕ → Type 0
IsNext traps place next = (place < next) × ((t : LinkedTrap) → slice_get traps place ≡ Some t → NoneMeets traps (suc place) next t.from t.to)

abbrev pub AreNext : List LinkedTrap → List ℕ → Type 0
AreNext traps nexts = (place next : ℕ) → slice_get nexts place ≡ Some next → IsNext traps place next
