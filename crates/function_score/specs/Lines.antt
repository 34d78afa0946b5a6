-- The score of a line by its functions.
use Rattle.std.specs.Prelude.{ℕ, ◌+◌, ◌++◌, Bool, true, false, List, [], ◌∷◌, Option, Some, None, Result, Ok, Err, not, unwrap_or, if◌then◌else◌}
use Rattle.function_score.specs.declared.modes.ScoreMode.{ScoreMode}
use Rattle.function_score.specs.declared.modes.ScoreMode.TheVariants as score
use Rattle.function_score.specs.declared.modes.BoostMode.{BoostMode}
use Rattle.function_score.specs.Functions.{FunctionData}
use Rattle.function_score.specs.Scores.{weighed, combined, boosted}

-- A line before its functions: what the filter and what the script of the function with a number give over it, or why
-- that ends the line. A script that gives a number below 0 ends it.
pub record Line (E : Type 0) : Type 0 where
  pub functions : List FunctionData
  pub matches : ℕ → Result Bool E
  pub gives : ℕ → Result ℕ E

-- ---- one function

-- a function with no filter matches
abbrev pub matched : {E : Type 0} → Line E → ℕ → Option (List ℕ) → Result Bool E
matched line number None = Ok true
matched line number (Some filter) = line.matches number

-- a function with no script gives 1
abbrev pub given : {E : Type 0} → Line E → ℕ → Option (List ℕ) → Result ℕ E
given line number None = Ok 1
given line number (Some script) = line.gives number

-- what a function gives, times its weight, and times 1 where it has none
abbrev pub value_with : {E : Type 0} → Option ℕ → Result ℕ E → Result (Option ℕ) E
value_with weight (Ok value) = Ok (Some (weighed value (unwrap_or weight 1)))
value_with weight (Err error) = Err error

-- where it matches, the value is the second; no script is run where it does not
abbrev pub value_if : {E : Type 0} → Result Bool E → Result (Option ℕ) E → Result (Option ℕ) E
value_if (Ok true) value = value
value_if (Ok false) value = Ok None
value_if (Err error) value = Err error

-- the value of a function over a line, if it matches
abbrev pub value_on : {E : Type 0} → Line E → ℕ → FunctionData → Result (Option ℕ) E
value_on line number function = value_if (matched line number function.filter) (value_with function.weight (given line number function.script))

-- ---- the functions in their order

-- an error is told with the number of its function
abbrev pub Told : Type 0 → Type 0 → Type 0
Told X E = Result X (ℕ × E)

-- whether the first function that matches is the last one that is evaluated
abbrev pub ends_at_match : ScoreMode → Bool
ends_at_match score.First = true
ends_at_match score.Multiply = false
ends_at_match score.Sum = false
ends_at_match score.Max = false
ends_at_match score.Min = false

-- whether the functions behind one with this value are evaluated
abbrev pub goes_on : {E : Type 0} → ScoreMode → Result (Option ℕ) E → Bool
goes_on mode (Ok None) = true
goes_on mode (Ok (Some value)) = not (ends_at_match mode)
goes_on mode (Err error) = false

abbrev pub before : {E : Type 0} → ℕ → Told (List ℕ) E → Told (List ℕ) E
before value (Ok values) = Ok (value ∷ values)
before value (Err told) = Err told

-- the value of the function with a number, before those behind it
abbrev pub values_at : {E : Type 0} → ScoreMode → ℕ → Result (Option ℕ) E → Told (List ℕ) E → Told (List ℕ) E
values_at mode number (Err error) behind = Err (number, error)
values_at mode number (Ok None) behind = behind
values_at mode number (Ok (Some value)) behind = if ends_at_match mode then Ok (value ∷ []) else before value behind

-- the values of the functions that match, from the one with this number on, or the first error
abbrev pub values_from : {E : Type 0} → ScoreMode → Line E → ℕ → List FunctionData → Told (List ℕ) E
values_from mode line number [] = Ok []
values_from mode line number (function ∷ functions) = values_at mode number (value_on line number function) (values_from mode line (number + 1) functions)

-- ---- the score

abbrev pub told_map : {X Y E : Type 0} → (X → Y) → Told X E → Told Y E
told_map f (Ok x) = Ok (f x)
told_map f (Err told) = Err told

-- the values of the functions that match, combined
abbrev pub value_of_functions : {E : Type 0} → ScoreMode → Line E → Told ℕ E
value_of_functions mode line = told_map (combined mode) (values_from mode line 0 line.functions)

-- The score that a line is given by its functions and that it had, or the first error with the number of its function.
unfoldable pub score_of : {E : Type 0} → ScoreMode → BoostMode → ℕ → Line E → Told ℕ E
score_of mode boost score line = told_map (boosted boost score) (value_of_functions mode line)

-- ---- what is evaluated

-- a filter or a script of the function with a number
pub data Call : Type 0 where
  filter : ℕ → Call
  script : ℕ → Call

abbrev pub calls_if : {X : Type 0} → Option X → Call → List Call
calls_if None call = []
calls_if (Some x) call = call ∷ []

-- a script is run where its function matches
abbrev pub script_calls : {E : Type 0} → Result Bool E → ℕ → FunctionData → List Call
script_calls (Ok true) number function = calls_if function.script (script number)
script_calls (Ok false) number function = []
script_calls (Err error) number function = []

-- the filter first
abbrev pub calls_on : {E : Type 0} → Line E → ℕ → FunctionData → List Call
calls_on line number function = calls_if function.filter (filter number) ++ script_calls (matched line number function.filter) number function

-- what is evaluated of the functions from the one with this number on, in order
abbrev pub calls_from : {E : Type 0} → ScoreMode → Line E → ℕ → List FunctionData → List Call
calls_from mode line number [] = []
calls_from mode line number (function ∷ functions) =
    calls_on line number function ++ (if goes_on mode (value_on line number function) then calls_from mode line (number + 1) functions else [])

-- what is evaluated of a line: nothing behind an error, and with the mode `first` nothing behind a match
unfoldable pub calls_of : {E : Type 0} → ScoreMode → Line E → List Call
calls_of mode line = calls_from mode line 0 line.functions
