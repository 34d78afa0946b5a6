-- A reading by the rows of the grammar alone, in place of one with the conditions on the tokens ahead.
use Rattle.std.proofs.Common.{Result, Ok, Err}
use Rattle.pl_types.specs.declared.refusal.Refusal.{Refusal}
use Rattle.pl_types.specs.declared.refusal.Fail.{Fail}
use Rattle.pl_types.specs.declared.refusal.Fail.TheVariants.{Refused, NoMemory}
use Rattle.pl_types.specs.Answers.{Answers}

pub answers_too : {X Y : Type 0} (view : X → Y) (P Q : Result Y Refusal → Type 0) → ((answer : Result Y Refusal) → P answer → Q answer) → (r : Result X Fail) → Answers view r P → Answers view r Q
answers_too view P Q h (Ok x) is = h (Ok (view x)) is
answers_too view P Q h (Err (Refused refusal)) is = h (Err refusal) is
answers_too view P Q h (Err NoMemory) is = tt
