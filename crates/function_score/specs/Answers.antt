-- Functions of the code as plain data, and what reading them has answered.
use Rattle.std.specs.Prelude.{◌≡◌, List, Result, Ok, Err, map, option_map, string_bytes}
use Rattle.job_file.specs.Limits.{natural}
use Rattle.function_score.specs.declared.function.ScoreFun.{ScoreFun}
use Rattle.function_score.specs.declared.error.FunErr.{FunErr}
use Rattle.function_score.specs.declared.error.FunErr.TheVariants as e
use Rattle.function_score.specs.declared.reading.Wrong.{Wrong}
use Rattle.function_score.specs.declared.reading.Wrong.TheVariants as w
use Rattle.function_score.specs.Functions.{Fault, FunctionData, Reading, at_key, whole}

-- a function as plain data; its weight is not below 0
abbrev pub function_view : ScoreFun → FunctionData
function_view function = record {
  filter = option_map string_bytes function.filter;
  script = option_map string_bytes function.script;
  weight = option_map natural function.weight;
}

abbrev pub functions_view : List ScoreFun → List FunctionData
functions_view functions = map function_view functions

abbrev pub fault_view : Wrong → Fault
fault_view w.Whole = whole
fault_view (w.Key key) = at_key key.now

-- The answer is what was to be read. Want of memory is free.
abbrev pub IsRead : Result (List FunctionData) FunErr → Reading → Type 0
IsRead (Ok functions) reading = reading ≡ Ok functions
IsRead (Err (e.Bad path)) reading = reading ≡ Err (string_bytes path)
IsRead (Err e.NoMemory) reading = Unit {0}
