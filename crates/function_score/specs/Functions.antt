-- The functions that a list denotes, or the first place of it that is wrong.
use Rattle.std.specs.Prelude.{ℕ, ◌+◌, ◌++◌, ℤ, pos, negsuc, Bool, true, ◌||◌, List, [], ◌∷◌, Option, Some, None, Result, Ok, Err, codes, decimal, is_some, not, nat_lt, nat_le, option_map, option_and_then, if◌then◌else◌}
use Rattle.std.specs.Str.{bytes_eq}
use Rattle.serde_json.specs.Data.{Data, Items, no_items, item, Members}
use Rattle.serde_json.specs.Find.{get, as_str, as_array, as_object}
use Rattle.job_file.specs.Limits.{whole_of}
use Rattle.job_file.specs.Mappings.{least, names_where}

-- a function: the texts of its filter and its script, and its weight, where it has them
pub record FunctionData : Type 0 where
  pub filter : Option (List ℕ)
  pub script : Option (List ℕ)
  pub weight : Option ℕ

-- ---- one function

-- what is wrong with a function: the function as a whole, or a key of it
pub data Fault : Type 0 where
  whole : Fault
  at_key : List ℕ → Fault

abbrev pub filter_key : List ℕ
filter_key = codes "filter"

abbrev pub script_key : List ℕ
script_key = codes "script"

abbrev pub weight_key : List ℕ
weight_key = codes "weight"

abbrev pub is_key : List ℕ → Bool
is_key name = bytes_eq name filter_key || bytes_eq name script_key || bytes_eq name weight_key

-- the least unknown key by bytes
abbrev pub unknown_key : Members → Option (List ℕ)
unknown_key ms = least (names_where (λ name d. not (is_key name)) ms)

abbrev pub is_text : Data → Bool
is_text d = is_some (as_str d)

-- a whole number from 0 to 10^9
abbrev pub weight_in : ℤ → Option ℕ
weight_in (pos n) = if nat_le n 1000000000 then Some n else None
weight_in (negsuc n) = None

abbrev pub weight_of : Data → Option ℕ
weight_of d = option_and_then weight_in (whole_of d)

abbrev pub is_weight : Data → Bool
is_weight d = is_some (weight_of d)

-- a key may be absent
abbrev pub absent_or : (Data → Bool) → Option Data → Bool
absent_or test None = true
absent_or test (Some d) = test d

-- a key with a value that its test refuses
abbrev pub key_fault : List ℕ → (Data → Bool) → Data → Option Fault
key_fault key test d = if absent_or test (get key d) then None else Some (at_key key)

-- a function has a script or a weight
abbrev pub missing : Data → Option Fault
missing d = if is_some (get script_key d) || is_some (get weight_key d) then None else Some whole

-- the first fault of some that may be there
abbrev pub first : List (Option Fault) → Option Fault
first [] = None
first (None ∷ more) = first more
first (Some fault ∷ more) = Some fault

-- the known keys in their order, and then that there is too little
abbrev pub known_faults : Data → List (Option Fault)
known_faults d = key_fault filter_key is_text d ∷ key_fault script_key is_text d ∷ key_fault weight_key is_weight d ∷ missing d ∷ []

-- unknown keys come first
abbrev pub fault_in : Data → Option Members → Option Fault
fault_in d None = Some whole
fault_in d (Some ms) = first (option_map at_key (unknown_key ms) ∷ known_faults d)

-- the first thing that is wrong with a function; what is no object is wrong as a whole
unfoldable pub fault_of : Data → Option Fault
fault_of d = fault_in d (as_object d)

-- the function that an object denotes, where nothing is wrong with it
abbrev pub function_of : Data → FunctionData
function_of d = record {
  filter = option_and_then as_str (get filter_key d);
  script = option_and_then as_str (get script_key d);
  weight = option_and_then weight_of (get weight_key d);
}

-- ---- lists of functions

-- the path of a list of functions
abbrev pub list_path : List ℕ
list_path = codes "functions"

-- `functions.3`, and `functions.3.weight`
abbrev pub function_path : ℕ → List ℕ
function_path number = list_path ++ codes "." ++ decimal number

abbrev pub path_of : ℕ → Fault → List ℕ
path_of number whole = function_path number
path_of number (at_key key) = function_path number ++ codes "." ++ key

-- functions, or the path of what is wrong
abbrev pub Reading : Type 0
Reading = Result (List FunctionData) (List ℕ)

-- a function before those that are read behind it
abbrev pub before : FunctionData → Reading → Reading
before function (Ok functions) = Ok (function ∷ functions)
before function (Err path) = Err path

-- a function with what may be wrong with it, before those that are read behind it
abbrev pub read_one : ℕ → Option Fault → FunctionData → Reading → Reading
read_one number None function rest = before function rest
read_one number (Some fault) function rest = Err (path_of number fault)

-- The functions from the one with this number on. The first that has something wrong with it ends them, and so does the
-- one behind 64.
abbrev pub functions_from : ℕ → Items → Reading
functions_from number no_items = Ok []
functions_from number (item d ds) = if nat_lt number 64 then read_one number (fault_of d) (function_of d) (functions_from (number + 1) ds) else Err (function_path number)

abbrev pub functions_in : Option Items → Reading
functions_in None = Err list_path
functions_in (Some ds) = functions_from 0 ds

-- the functions that a value denotes, or the path of the first place that is wrong; what is no list is wrong as a whole
unfoldable pub functions_of : Data → Reading
functions_of d = functions_in (as_array d)
