-- What a line of `updates` asks for, or what is wrong with it.
use Rattle.std.specs.Prelude.{◌≡◌, ℕ, Bool, true, false, ◌&&◌, ◌||◌, List, [], Option, Some, None, Result, Ok, Err, codes, is_some, nat_le, option_and_then, option_map, unwrap_or, if◌then◌else◌, string_bytes}
use Rattle.std.specs.Str.{bytes_eq, is_utf8}
use Rattle.serde_json.specs.Data.{Data, Members, no_members, member}
use Rattle.serde_json.specs.Find.{as_number, as_object, as_str, as_u64, get}
use Rattle.serde_json.specs.Read.{read}
use Rattle.serde_json.specs.View.{view}
use Rattle.job_file.specs.Values.{has_whole_numbers, if_present}
use Rattle.json_bridge.specs.Starts.{Fault, syntax, number_outside, field}
use Rattle.json_bridge.specs.declared.error.BindErr.{BindErr}
use Rattle.json_bridge.specs.declared.error.BindErr.TheVariants as e
use Rattle.update_lines.specs.declared.request.Request.{Request}

-- An update: the id of its document, its params where it has some, and how often it begins again.
pub record RequestData : Type 0 where
  pub id : List ℕ
  pub params : Option Data
  pub retries : ℕ

-- ---- the keys of a line

abbrev pub is_key : List ℕ → Bool
is_key name = bytes_eq name (codes "id") || bytes_eq name (codes "params") || bytes_eq name (codes "retry_on_conflict")

abbrev pub are_keys : Members → Bool
are_keys no_members = true
are_keys (member name d ms) = is_key name && are_keys ms

-- a number from 0 to 100
abbrev pub within : ℕ → Option ℕ
within n = if nat_le n 100 then Some n else None

abbrev pub retries_in : Data → Option ℕ
retries_in d = option_and_then within (option_and_then as_u64 (as_number d))

-- the id is required
abbrev pub is_id : Option Data → Bool
is_id None = false
is_id (Some d) = is_some (as_str d)

abbrev pub is_params : Option Data → Bool
is_params None = true
is_params (Some d) = is_some (as_object d)

abbrev pub is_retries : Option Data → Bool
is_retries None = true
is_retries (Some d) = is_some (retries_in d)

-- a line is an object that has no other key, and each key with a value of its type, or need not have it
abbrev pub is_line : Data → Bool
is_line line = if_present are_keys (as_object line) && is_id (get (codes "id") line) && is_params (get (codes "params") line) && is_retries (get (codes "retry_on_conflict") line)

-- ---- what a line asks for

abbrev pub id_in : Data → List ℕ
id_in line = unwrap_or (option_and_then as_str (get (codes "id") line)) []

-- no retries where it says none
abbrev pub retries_of : Data → ℕ
retries_of line = unwrap_or (option_and_then retries_in (get (codes "retry_on_conflict") line)) 0

abbrev pub request_in : Data → RequestData
request_in line = record { id = id_in line; params = get (codes "params") line; retries = retries_of line }

-- a number that is none of 64 bits with a sign comes before a rule of the line
abbrev pub asked_by : Data → Result RequestData Fault
asked_by line = if has_whole_numbers line then (if is_line line then Ok (request_in line) else Err field) else Err number_outside

abbrev pub asked_in : Option Data → Result RequestData Fault
asked_in None = Err syntax
asked_in (Some line) = asked_by line

-- what the bytes of a line ask for; what is no UTF-8 is no JSON
abbrev pub asked_of : List ℕ → Result RequestData Fault
asked_of line = if is_utf8 line then asked_in (read line) else Err syntax

-- ---- answers

abbrev pub request_view : Request → RequestData
request_view r = record { id = string_bytes r.id; params = option_map view r.params; retries = r.retries }

-- The answer is what the definition says. Want of memory is free.
abbrev pub Asks : Result Request BindErr → Result RequestData Fault → Type 0
Asks (Ok request) meaning = meaning ≡ Ok (request_view request)
Asks (Err e.Syntax) meaning = meaning ≡ Err syntax
Asks (Err e.Number) meaning = meaning ≡ Err number_outside
Asks (Err e.Field) meaning = meaning ≡ Err field
Asks (Err e.NoMemory) meaning = Unit {0}
