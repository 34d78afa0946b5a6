-- Classes by their full names.
use Rattle.std.specs.Prelude.{ℕ, ◌==◌, Option, List, length}
use Rattle.std.specs.List.{filter, find, range_with_len}
use Rattle.std.specs.Str.{bytes_eq}
use Rattle.pl_types.specs.Classes.{full_name}

-- The class with a full name, if one has it: the first by their numbers. No two have one name.
unfoldable pub class_of_full : List ℕ → Option ℕ
class_of_full name = find (λ class. bytes_eq (full_name class) name) (range_with_len 0 57)

-- the classes whose full names have so many bytes
unfoldable pub numbers_of_length : ℕ → List ℕ
numbers_of_length n = filter (λ class. length (full_name class) == n) (range_with_len 0 57)
