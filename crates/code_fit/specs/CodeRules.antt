-- Which rules code has: what a store may hold in a run of it.
use Rattle.std.specs.Prelude.{List, Option, Some, None, length, slice_get, if◌then◌else◌}
use Rattle.object_heap.specs.Fits.{Lambda, Takes, Rules, Primitives, Fits}
use Rattle.object_heap.specs.Store.{Store}
use Rattle.pl_code.specs.declared.code.FunCode.{FunCode}
use Rattle.instruction_types.specs.Faults.{is_value_function}
use Rattle.code_meaning.specs.Machine.{Codes, code_in}

-- A value calls a function of references that gives one. What the value holds are the first of its parameters.
abbrev pub lambda_of : Option FunCode → Option Lambda
lambda_of None = None
lambda_of (Some f) = if is_value_function f then Some (Takes (length f.params)) else None

-- The rules of the codes of both texts: a lambda is a function of its text by its number, and of the elements of an array those of a
-- primitive type are of it.
abbrev pub rules_of_codes : Codes → Rules
rules_of_codes codes = record { lambda = λ owner number. lambda_of (slice_get (code_in codes owner) number); typed = Primitives }

-- a store fits the codes of a run
abbrev pub FitsCode : Codes → Store → Type 0
FitsCode codes store = Fits (rules_of_codes codes) store.objects
