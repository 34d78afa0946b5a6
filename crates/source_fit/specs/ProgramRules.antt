-- Which rules a program has: what a store may hold in a run of it.
use Rattle.std.specs.Prelude.{List, Option, Some, None, map, length, slice_get}
use Rattle.object_heap.specs.Fits.{Lambda, Captures, Rules, Every, Fits}
use Rattle.object_heap.specs.Store.{Store}
use Rattle.typed_tree.specs.declared.program.FunctionKind.{FunctionKind}
use Rattle.typed_tree.specs.declared.program.FunctionKind.TheVariants as function
use Rattle.source_meaning.specs.Tree.{Variable, Fun, Programs, functions_in}

-- A value calls a lambda, and neither the main script nor a function with a name. It holds what the lambda copies, each of its declared
-- type, and takes the lambda's parameters.
abbrev pub lambda_in : FunctionKind → Fun → Option Lambda
lambda_in function.Lambda fun = Some (Captures (map (λ (x : Variable). x.of) fun.captured) (length fun.params))
lambda_in other fun = None

abbrev pub lambda_of : Option Fun → Option Lambda
lambda_of None = None
lambda_of (Some fun) = lambda_in fun.kind fun

-- The rules of the programs of both texts: a lambda is one of its text by its number, and each element of an array is of its element type.
abbrev pub rules_of : Programs → Rules
rules_of funs = record { lambda = λ owner number. lambda_of (slice_get (functions_in funs owner) number); typed = Every }

-- a store fits the programs of a run
abbrev pub FitsProgram : Programs → Store → Type 0
FitsProgram funs store = Fits (rules_of funs) store.objects
