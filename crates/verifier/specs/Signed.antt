-- What is found of functions before the pass over their lines.
use Rattle.std.specs.Prelude.{◌≡◌, ℕ, Bool, true, false, List, [], ◌∷◌, None, map, reverse}
use Rattle.pl_code.specs.declared.kinds.Slot.{Slot}
use Rattle.pl_code.specs.declared.code.FunCode.{FunCode}
use Rattle.instruction_types.specs.Effects.{taken}
use Rattle.instruction_types.specs.Faults.{is_value_function}
use Rattle.verifier_table.specs.Windows.{HasWindows}
use Rattle.verifier.specs.declared.signatures.Signatures.{Signatures}

-- the parameters of each function, from the last one on, are cut into these windows
abbrev pub AllCut : List FunCode → List (List ℕ) → Type 0
AllCut [] [] = Unit {0}
AllCut [] (w ∷ windows) = ⊥
AllCut (f ∷ functions) [] = ⊥
AllCut (f ∷ functions) (w ∷ windows) = HasWindows (reverse f.params) w × AllCut functions windows

pub record AreOf (functions : List FunCode) (s : Signatures) : Type 0 where
  pub values : s.values ≡ map is_value_function functions
  pub windows : AllCut functions s.windows

-- Some kinds were taken off, and the others are left to take; or what lies there differs.
abbrev pub Passed : Bool → List Slot → List Slot → List Slot → List Slot → Type 0
Passed true wanted rest old new = taken wanted old ≡ taken rest new
Passed false wanted rest old new = None ≡ taken wanted old
