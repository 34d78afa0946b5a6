-- What is read of the text of what is called.
use Rattle.std.specs.Prelude.{ℕ, List, Option, option_map}
use Rattle.std.specs.Borrow.{Bor}
use Rattle.instruction_types.specs.Members.{called_part, arity_part}

abbrev pub seen_called : Bor (List ℕ) × ℕ → List ℕ × ℕ
seen_called p = (p.0.now, p.1)

-- what stands before `/`, and the number of arguments behind it
abbrev pub called_of : List ℕ → Option (List ℕ × ℕ)
called_of text = option_map (λ n. (called_part text, n)) (arity_part text)
