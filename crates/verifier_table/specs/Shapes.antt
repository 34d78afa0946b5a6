-- The kinds that stand at lines.
use Rattle.std.specs.Prelude.{◌&&◌, Bool, true, false, List, [], ◌∷◌, Option, Some, None, if◌then◌else◌}
use Rattle.pl_code.specs.declared.kinds.Slot.{Slot}
use Rattle.instruction_types.specs.Effects.{same_slots}

abbrev pub same_kinds : List Slot → List Slot → Bool
same_kinds [] [] = true
same_kinds [] (k ∷ ks) = false
same_kinds (j ∷ js) [] = false
same_kinds (j ∷ js) (k ∷ ks) = same_slots j k && same_kinds js ks

-- What leads to a line: nothing, with one list of kinds, or with some that differ.
pub data Meeting : Type 0 where
  Nowhere : Meeting
  Known : (kinds : List Slot) → Meeting
  Torn : Meeting

-- one more that leads there with these kinds
abbrev pub meets : Meeting → List Slot → Meeting
meets Nowhere kinds = Known kinds
meets (Known others) kinds = if same_kinds others kinds then Known others else Torn
meets Torn kinds = Torn

abbrev pub known_of : Meeting → Option (List Slot)
known_of Nowhere = None
known_of (Known kinds) = Some kinds
known_of Torn = None

-- A table: a stack, and what leads to each line. The top stands first.
pub record Table : Type 0 where
  pub stack : List Slot
  pub lines : List Meeting
