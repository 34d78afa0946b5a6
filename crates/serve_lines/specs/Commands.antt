-- Commands to a store of scripts, and which command a line is, or what is wrong with it.
use Rattle.std.specs.Prelude.{ℕ, Bool, true, false, ◌&&◌, ◌||◌, List, Option, Some, None, Result, Err, codes, is_some, option_map, option_and_then, if◌then◌else◌}
use Rattle.std.specs.Str.{bytes_eq, is_utf8}
use Rattle.serde_json.specs.Data.{Data, object, Members, no_members, member}
use Rattle.serde_json.specs.Find.{as_bool, as_object, as_str, get}
use Rattle.serde_json.specs.Read.{read}
use Rattle.job_file.specs.Values.{has_whole_numbers, if_present}
use Rattle.json_bridge.specs.Starts.{Fault, syntax, number_outside, or_field}
use Rattle.script_store.specs.Script.{Script, script}
use Rattle.script_store.specs.declared.kind.ServeKind.{ServeKind}
use Rattle.script_store.specs.declared.kind.ServeKind.TheVariants as k
use Rattle.serve_lines.specs.declared.keys.Form.{Form}
use Rattle.serve_lines.specs.declared.keys.Form.TheVariants as form

-- A command: a script is stored under an id, shown, taken out, or run over a line with params; or the counts are told.
pub data Asked : Type 0 where
  puts : List ℕ → Script → Asked
  gets : List ℕ → Asked
  deletes : List ℕ → Asked
  runs : List ℕ → Data → Data → Asked
  counts : Asked

-- ---- objects with certain keys

abbrev pub is_key : Form → List ℕ → Bool
is_key form.Put name = bytes_eq name (codes "context") || bytes_eq name (codes "id") || bytes_eq name (codes "source")
is_key form.Run name = bytes_eq name (codes "id") || bytes_eq name (codes "line") || bytes_eq name (codes "params")

abbrev pub are_keys : Form → Members → Bool
are_keys of no_members = true
are_keys of (member name d ms) = is_key of name && are_keys of ms

-- an object that has no other key
abbrev pub has_form : Form → Data → Bool
has_form of d = if_present (are_keys of) (as_object d)

abbrev pub text_at : List ℕ → Data → Option (List ℕ)
text_at name d = option_and_then as_str (get name d)

-- ---- what is stored

-- the context of a name
abbrev pub kind_named : List ℕ → Option ServeKind
kind_named name =
    if bytes_eq name (codes "filter")
    then Some k.Filter
    else if bytes_eq name (codes "score")
    then Some k.Score
    else if bytes_eq name (codes "field")
    then Some k.Field
    else if bytes_eq name (codes "update") then Some k.Update else if bytes_eq name (codes "ingest") then Some k.Ingest else None

abbrev pub kind_at : Data → Option ServeKind
kind_at d = option_and_then kind_named (text_at (codes "context") d)

-- a script with its context and its id
abbrev pub put_of : Option ServeKind → Option (List ℕ) → Option (List ℕ) → Option Asked
put_of (Some kind) (Some id) (Some source) = Some (puts id (script kind source))
put_of kind id source = None

abbrev pub put_in : Data → Option Asked
put_in d = if has_form form.Put d then put_of (kind_at d) (text_at (codes "id") d) (text_at (codes "source") d) else None

-- ---- what is run

-- the params, which are an object; an empty one where there are none
abbrev pub params_or : Option Data → Option Data
params_or None = Some (object no_members)
params_or (Some d) = if is_some (as_object d) then Some d else None

abbrev pub run_of : Option (List ℕ) → Option Data → Option Data → Option Asked
run_of (Some id) (Some line) (Some params) = Some (runs id line params)
run_of id line params = None

abbrev pub run_in : Data → Option Asked
run_in d = if has_form form.Run d then run_of (text_at (codes "id") d) (get (codes "line") d) (params_or (get (codes "params") d)) else None

-- ---- commands

-- the counts are asked for by `true` alone
abbrev pub counts_if : Option Bool → Option Asked
counts_if (Some true) = Some counts
counts_if (Some false) = None
counts_if None = None

-- the command of a name
abbrev pub asked_by : List ℕ → Data → Option Asked
asked_by name d =
    if bytes_eq name (codes "put")
    then put_in d
    else if bytes_eq name (codes "get")
    then option_map gets (as_str d)
    else if bytes_eq name (codes "delete")
    then option_map deletes (as_str d)
    else if bytes_eq name (codes "run") then run_in d else if bytes_eq name (codes "stats") then counts_if (as_bool d) else None

-- an object with one key, which is the name of the command
abbrev pub asked_of : Option Members → Option Asked
asked_of None = None
asked_of (Some no_members) = None
asked_of (Some (member name d no_members)) = asked_by name d
asked_of (Some (member name d (member other e ms))) = None

abbrev pub asked_in : Data → Option Asked
asked_in d = asked_of (as_object d)

-- what a line is read as: a number of it is none of 64 bits with a sign, or it is a command or none
abbrev pub command_of : Option Data → Result Asked Fault
command_of None = Err syntax
command_of (Some d) = if has_whole_numbers d then or_field (asked_in d) else Err number_outside

-- the command that a line is, or what is wrong with it; a line that is no UTF-8 is no JSON
abbrev pub command_in : List ℕ → Result Asked Fault
command_in line = if is_utf8 line then command_of (read line) else Err syntax
