-- What a function that goes on with an item ensures.
use Rattle.std.specs.Prelude.{◌≡◌, Bool, true, false, Option, Some, None, Result, Ok, Err}
use Rattle.pl_types.specs.declared.refusal.Fail.{Fail}
use Rattle.pl_types.specs.declared.refusal.Fail.TheVariants.{Refused, NoMemory}
use Rattle.typing_rules.specs.Doing.{Answer}

-- what is left comes to the same, or a rule is broken, unless memory fails
abbrev pub Goes : {U : Type 0} → Answer → Result U Fail → Answer → Type 0
Goes o (Ok u) new = o ≡ new
Goes o (Err (Refused r)) new = o ≡ Err r
Goes o (Err NoMemory) new = Unit {0}

-- whether something is there
abbrev pub is_there : {A : Type 0} → Option A → Bool
is_there None = false
is_there (Some x) = true

-- nothing is left of a list
abbrev pub none_left : {A : Type 0} → Option A → Bool
none_left None = true
none_left (Some x) = false
