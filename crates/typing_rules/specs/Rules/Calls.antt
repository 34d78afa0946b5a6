-- Calls of the script's own functions.
use Rattle.std.specs.Prelude.{ℕ, ◌+◌, ◌&&◌, ◌==◌, List, [], ◌∷◌, length, slice_get, position, bytes_eq, Option, Some, None, Ok}
use Rattle.typed_tree.specs.declared.program.Named.{Named}
use Rattle.pl_types.specs.declared.rules.TheConstants.{UNKNOWN_FUNCTION}
use Rattle.typed_tree.specs.declared.operation.Operation.TheVariants as o
use Rattle.typed_tree.specs.declared.typed.Typed.{Typed}
use Rattle.typing_rules.specs.declared.header.Header.{Header}
use Rattle.typing_rules.specs.declared.part.Part.{Part}
use Rattle.typing_rules.specs.declared.part.Form.TheVariants as f
use Rattle.typing_rules.specs.Outcomes.{Out, refuse, bind}
use Rattle.typing_rules.specs.Rules.Nodes.{applied, part}
use Rattle.typing_rules.specs.Rules.Casts.{cast_to}

-- functions are told apart by name and number of parameters
abbrev pub function_of : List Header → List ℕ → ℕ → Option ℕ
function_of headers name arity = position (λ (h : Header). bytes_eq h.name name && (length h.parameters == arity)) headers

-- each argument cast to its parameter's type
abbrev pub arguments : List Named → List Part → Out (List Typed)
arguments (t ∷ ts) (x ∷ xs) = bind (cast_to t.of x) (λ y. bind (arguments ts xs) (λ ys. Ok (y ∷ ys)))
arguments _ _ = Ok []

abbrev pub called : Option Header → ℕ → ℕ → List Part → Out Part
called None at number xs = refuse UNKNOWN_FUNCTION at
called (Some h) at number xs = bind (arguments h.parameters xs) (λ ys. Ok (part at f.Deed (applied at h.result (o.Function (number + 1)) ys)))

abbrev pub called_if : List Header → ℕ → Option ℕ → List Part → Out Part
called_if headers at None xs = refuse UNKNOWN_FUNCTION at
called_if headers at (Some number) xs = called (slice_get headers number) at number xs

abbrev pub call_of : List Header → ℕ → List ℕ → List Part → Out Part
call_of headers at name xs = called_if headers at (function_of headers name (length xs)) xs
