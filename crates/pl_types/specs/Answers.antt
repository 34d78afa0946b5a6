-- What a stage that reads a script has answered.
use Rattle.std.specs.Prelude.{Result, Ok, Err}
use Rattle.pl_types.specs.declared.refusal.Refusal.{Refusal}
use Rattle.pl_types.specs.declared.refusal.Fail.{Fail}
use Rattle.pl_types.specs.declared.refusal.Fail.TheVariants.{Refused, NoMemory}

-- P holds of the answer, with what it gives seen by a view. Want of memory is free.
abbrev pub Answers : {X Y : Type 0} → (X → Y) → Result X Fail → (Result Y Refusal → Type 0) → Type 0
Answers view (Ok x) P = P (Ok (view x))
Answers view (Err (Refused refusal)) P = P (Err refusal)
Answers view (Err NoMemory) P = Unit {0}
