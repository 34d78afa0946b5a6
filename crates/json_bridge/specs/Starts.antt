-- With what a run over a line of input starts, or what is wrong with the line.
use Rattle.std.specs.Prelude.{◌≡◌, List, Option, Some, None, Result, Ok, Err}
use Rattle.object_values.specs.declared.value.Value.{Value}
use Rattle.object_heap.specs.Store.{Store}
use Rattle.json_bridge.specs.declared.start.Bound.{Bound}
use Rattle.json_bridge.specs.declared.error.BindErr.{BindErr}
use Rattle.json_bridge.specs.declared.error.BindErr.TheVariants as e

-- what is wrong with a line: it is no JSON, some number is none of 64 bits with a sign, or it breaks a rule of the context
pub data Fault : Type 0 where
  syntax : Fault
  number_outside : Fault
  field : Fault

-- with what a run starts
pub record Start : Type 0 where
  pub store : Store
  pub args : List Value

-- what is there, or a rule of the context is broken
abbrev pub or_field : {A : Type 0} → Option A → Result A Fault
or_field None = Err field
or_field (Some x) = Ok x

-- ---- answers

abbrev pub start_view : Bound → Start
start_view line = record { store = line.heap; args = line.args }

-- The answer is what the definition says. Want of memory is free.
abbrev pub Answered : Result Bound BindErr → Result Start Fault → Type 0
Answered (Ok line) meaning = meaning ≡ Ok (start_view line)
Answered (Err e.Syntax) meaning = meaning ≡ Err syntax
Answered (Err e.Number) meaning = meaning ≡ Err number_outside
Answered (Err e.Field) meaning = meaning ≡ Err field
Answered (Err e.NoMemory) meaning = Unit {0}
