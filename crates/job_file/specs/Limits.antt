-- The numbers of a job: one row a limit.
use Rattle.std.specs.Prelude.{ℕ, ◌^◌, ℤ, pos, negsuc, Bool, true, false, ◌&&◌, List, [], ◌∷◌, Option, Some, None, codes, option_and_then, unwrap_or, nat_le, nat_lt, length}
use Rattle.serde_json.specs.Data.{Data, Items, no_items, item}
use Rattle.serde_json.specs.Find.{get, as_number, as_i64, as_array}
use Rattle.job_file.specs.declared.keys.Key.TheVariants as k
use Rattle.job_file.specs.declared.limits.Limit.{Limit}
use Rattle.job_file.specs.declared.limits.Limit.TheVariants as l
use Rattle.job_file.specs.Keys.{value_at}

pub record LimitRow : Type 0 where
  pub name : List ℕ
  pub default : ℕ
  pub least : ℕ
  pub most : ℕ

abbrev pub limit_row : List ℕ → ℕ → ℕ → ℕ → LimitRow
limit_row name default least most = record { name = name; default = default; least = least; most = most }

-- Of `order` these are the numbers of its entries.
abbrev pub row_of_limit : Limit → LimitRow
row_of_limit l.Loop = limit_row (codes "loop") 1000000 1 1000000000
row_of_limit l.Depth = limit_row (codes "depth") 256 1 1024
row_of_limit l.Ticks = limit_row (codes "ticks") 10000000 1 1000000000
row_of_limit l.Room = limit_row (codes "room") 16000000 1 100000000
row_of_limit l.Input = limit_row (codes "input") (2 ^ 30) 1 (2 ^ 32)
row_of_limit l.Shards = limit_row (codes "shards") 1 1 64
row_of_limit l.Order = limit_row (codes "order") 0 0 100000
row_of_limit l.Slice = limit_row (codes "slice") 1000000 1 1000000000
row_of_limit l.Capacity = limit_row (codes "capacity") 100 1 1000

-- the limits inside `limits`
abbrev pub inside : List Limit
inside = l.Loop ∷ l.Depth ∷ l.Ticks ∷ l.Room ∷ l.Input ∷ []

-- ---- the numbers of a file

-- a whole number of 64 bits with a sign
abbrev pub whole_of : Data → Option ℤ
whole_of d = option_and_then as_i64 (as_number d)

abbrev pub entries : Items → List (Option ℤ)
entries no_items = []
entries (item d ds) = whole_of d ∷ entries ds

-- the entries of a list
abbrev pub entries_of : Data → List (Option ℤ)
entries_of d = entries (unwrap_or (as_array d) no_items)

-- the object in which a limit stands
abbrev pub place_of : Limit → Data → Data
place_of l.Shards file = file
place_of l.Slice file = file
place_of l.Order file = file
place_of l.Capacity file = file
place_of other file = value_at k.Limits file

-- the number of a limit, or its default
abbrev pub number_of : Limit → Data → ℤ
number_of limit file = unwrap_or (option_and_then whole_of (get (row_of_limit limit).name (place_of limit file))) (pos (row_of_limit limit).default)

abbrev pub is_between : ℕ → ℕ → ℤ → Bool
is_between least most (pos n) = nat_le least n && nat_le n most
is_between least most (negsuc n) = false

abbrev pub is_in_range : Limit → ℤ → Bool
is_in_range limit n = is_between (row_of_limit limit).least (row_of_limit limit).most n

-- a number without its sign, where it has none
abbrev pub natural : ℤ → ℕ
natural (pos n) = n
natural (negsuc n) = 0

-- an entry of `order` names one of so many that take turns
abbrev pub names_turn : ℕ → Option ℤ → Bool
names_turn count (Some (pos n)) = nat_lt n count
names_turn count (Some (negsuc n)) = false
names_turn count None = false

abbrev pub all_name_turns : ℕ → List (Option ℤ) → Bool
all_name_turns count [] = true
all_name_turns count (n ∷ ns) = names_turn count n && all_name_turns count ns

-- `order` has at most so many entries, each below the number of those that take turns
abbrev pub is_order : ℕ → List (Option ℤ) → Bool
is_order count ns = nat_le (length ns) (row_of_limit l.Order).most && all_name_turns count ns

abbrev pub numbers : List (Option ℤ) → List ℕ
numbers [] = []
numbers (n ∷ ns) = natural (unwrap_or n (pos 0)) ∷ numbers ns
