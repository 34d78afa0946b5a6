-- A text cut at the occurrences of a token, from the left, and a text with occurrences of another replaced.
use Rattle.std.specs.Prelude.{ℕ, zero, suc, ◌+◌, Option, Some, None, List, [], ◌∷◌, ◌++◌, length, take, drop, ℤ, pos, negsuc}
use Rattle.std.specs.Option.{option_map}
use Rattle.pl_units.specs.Places.{first_place}

-- what stands before the first occurrence of a token, and what behind it
abbrev pub around : List ℕ → List ℕ → Option (List ℕ × List ℕ)
around token text = option_map (λ place. (take place text, drop (place + length token) text)) (first_place text token 0)

-- cut at one occurrence, and then what is behind it in the next way
abbrev pub cut_around : (List ℕ → List (List ℕ)) → List ℕ → Option (List ℕ × List ℕ) → List (List ℕ)
cut_around next text None = text ∷ []
cut_around next text (Some parts) = parts.0 ∷ next parts.1

-- the pieces of a text that is cut at most so many times
abbrev pub cut : ℕ → List ℕ → List ℕ → List (List ℕ)
cut zero token text = text ∷ []
cut (suc times) token text = cut_around (cut times token) text (around token text)

-- with one occurrence replaced
abbrev pub replaced_around : (List ℕ → List ℕ) → List ℕ → List ℕ → Option (List ℕ × List ℕ) → List ℕ
replaced_around next by text None = text
replaced_around next by text (Some parts) = parts.0 ++ by ++ next parts.1

-- a text with at most so many occurrences replaced
abbrev pub replaced_times : ℕ → List ℕ → List ℕ → List ℕ → List ℕ
replaced_times zero target by text = text
replaced_times (suc times) target by text = replaced_around (replaced_times times target by) by text (around target text)

-- a text before each unit and at the end
abbrev pub spread : List ℕ → List ℕ → List ℕ
spread by [] = by
spread by (unit ∷ text) = by ++ unit ∷ spread by text

-- A text with every occurrence of another, from the left, replaced. A text has at most as many occurrences of one that is not
-- empty as it has units; the empty one stands before each unit and at the end
abbrev pub replaced : List ℕ → List ℕ → List ℕ → List ℕ
replaced text [] by = spread by text
replaced text (unit ∷ target) by = replaced_times (length text) (unit ∷ target) by text

-- how often a text is cut where at most so many pieces are asked for, and any number where that is not above 0
abbrev pub times_of : ℕ → ℤ → ℕ
times_of count (pos zero) = count
times_of count (pos (suc n)) = n
times_of count (negsuc n) = count

-- the pieces between the occurrences of a token; an empty token cuts nothing
abbrev pub pieces : List ℕ → List ℕ → ℤ → List (List ℕ)
pieces text [] limit = text ∷ []
pieces text (unit ∷ token) limit = cut (times_of (length text) limit) (unit ∷ token) text
