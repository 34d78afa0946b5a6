-- The types of what goes through the casts that are due.
use Rattle.std.specs.Prelude.{◌≡◌, List, [], ◌∷◌}
use Rattle.pl_types.specs.declared.ty.Ty.{Ty}

-- the casts of what a function of a type gives are from that type
abbrev pub DueOf : Ty → List Ty → Type 0
DueOf of [] = Unit {0}
DueOf of (from ∷ tos) = from ≡ of

abbrev pub last_type : Ty → List Ty → Ty
last_type of [] = of
last_type of (to ∷ tos) = last_type to tos

-- the type of what comes of them
abbrev pub due_type : Ty → List Ty → Ty
due_type of [] = of
due_type of (from ∷ tos) = last_type from tos
