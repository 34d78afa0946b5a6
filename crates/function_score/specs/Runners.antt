-- What runners of filters and scripts answer, and what is answered for a whole line.
use Rattle.std.specs.Prelude.{◌≡◌, true, ℕ, ℤ, pos, List, [], ◌∷◌, Option, Result, Ok, Err, is_some, option_map, option_and_then, slice_get}
use Rattle.function_score.specs.declared.error.RunErr.{RunErr}
use Rattle.function_score.specs.declared.error.RunErr.TheVariants as run
use Rattle.function_score.specs.declared.error.ScoreErr.{ScoreErr}
use Rattle.function_score.specs.declared.error.ScoreErr.TheVariants as score
use Rattle.function_score.specs.Lines.{Call, Line, Told}

-- the function with this number has a filter
abbrev pub HasFilter : {E : Type 0} → Line E → ℕ → Type 0
HasFilter line number = is_some (option_and_then (λ function. function.filter) (slice_get line.functions number)) ≡ true

-- the function with this number has a script
abbrev pub HasScript : {E : Type 0} → Line E → ℕ → Type 0
HasScript line number = is_some (option_and_then (λ function. function.script) (slice_get line.functions number)) ≡ true

-- The answer of an evaluation is what was to be told. Want of memory is free.
abbrev pub IsTold : {X E : Type 0} → Result X (RunErr E) → Result X E → Type 0
IsTold (Ok x) meaning = meaning ≡ Ok x
IsTold (Err (run.Failed error)) meaning = meaning ≡ Err error
IsTold (Err run.NoMemory) meaning = Unit {0}

-- numbers not below 0, as the code has them
abbrev pub with_sign : {E : Type 0} → Result ℕ E → Result ℤ E
with_sign (Ok n) = Ok (pos n)
with_sign (Err error) = Err error

abbrev pub with_signs : {E : Type 0} → Result (Option ℕ) E → Result (Option ℤ) E
with_signs (Ok n) = Ok (option_map pos n)
with_signs (Err error) = Err error

-- A fact that holds of the runner unless it found no memory.
abbrev pub UnlessMemory : {X E : Type 0} → Result X (RunErr E) → Type 0 → Type 0
UnlessMemory (Ok x) P = P
UnlessMemory (Err (run.Failed error)) P = P
UnlessMemory (Err run.NoMemory) P = Unit {0}

-- ---- a whole line

-- These calls, one behind the other, led from one runner to another.
abbrev pub Asked : {S : Type 0} → (S → Call → S → Type 0) → List Call → S → S → Type 0
Asked asks [] old new = new ≡ old
Asked {S} asks (call ∷ calls) old new = (next : S) × asks old call next × Asked asks calls next new

-- The answer for a line is what was to be told. Want of memory is free.
abbrev pub IsScored : {E : Type 0} → Result ℤ (ScoreErr E) → Told ℕ E → Type 0
IsScored (Ok score) meaning = with_sign meaning ≡ Ok score
IsScored (Err (score.At number error)) meaning = meaning ≡ Err (number, error)
IsScored (Err score.NoMemory) meaning = Unit {0}

abbrev pub UnlessNoMemory : {X E : Type 0} → Result X (ScoreErr E) → Type 0 → Type 0
UnlessNoMemory (Ok x) P = P
UnlessNoMemory (Err (score.At number error)) P = P
UnlessNoMemory (Err score.NoMemory) P = Unit {0}
