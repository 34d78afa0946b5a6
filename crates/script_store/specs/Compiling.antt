-- What a compiler answers.
use Rattle.std.specs.Prelude.{◌≡◌, ℕ, ◌+◌, ◌-◌, ◌^◌, min, Option, Some, None, Result, Ok, Err, IsOk, IsOkAnd}
use Rattle.pl_types.specs.declared.refusal.Refusal.{Refusal}
use Rattle.pl_types.specs.declared.refusal.Fail.{Fail}
use Rattle.pl_types.specs.declared.refusal.Fail.TheVariants.{Refused, NoMemory}

-- A count that rises by one, and stands still at its last value.
abbrev pub counted : ℕ → ℕ
counted n = min (n + 1) (2 ^ 64 - 1)

-- A compiler gives what `means` a source that is accepted, and refuses another as the reading says. Want of memory is free.
abbrev pub Compiles : {Out Meaning : Type 0} → (Out → Meaning → Type 0) → Result Meaning Refusal → Result Out Fail → Type 0
Compiles means reading (Ok out) = IsOkAnd reading (means out)
Compiles means reading (Err (Refused refusal)) = reading ≡ Err refusal
Compiles means reading (Err NoMemory) = Unit {0}

-- What is accepted has a meaning, and what is refused is refused as the reading says. Want of memory is free.
abbrev pub Accepts : {T Meaning : Type 0} → Result Meaning Refusal → Result T Fail → Type 0
Accepts reading (Ok x) = IsOk reading
Accepts reading (Err (Refused refusal)) = reading ≡ Err refusal
Accepts reading (Err NoMemory) = Unit {0}

-- The answer tells of this fault, or of none. Want of memory is free.
abbrev pub Faults : {T : Type 0} → Option Refusal → Result T Fail → Type 0
Faults fault (Ok x) = fault ≡ None
Faults fault (Err (Refused refusal)) = fault ≡ Some refusal
Faults fault (Err NoMemory) = Unit {0}

-- P holds unless memory ran out.
abbrev pub WithMemory : {T : Type 0} → Result T Fail → Type 0 → Type 0
WithMemory (Ok x) P = P
WithMemory (Err (Refused refusal)) P = P
WithMemory (Err NoMemory) P = Unit {0}
