-- What the keys of a processor say, once each has its form.
use Rattle.std.specs.Prelude.{ℕ, ◌++◌, Bool, true, false, List, [], ◌∷◌, Option, Some, None, Result, Ok, Err, codes, is_some, option_map, option_and_then, unwrap_or, if◌then◌else◌}
use Rattle.pipe_fields.specs.declared.field.Field.{Field}
use Rattle.pipe_fields.specs.declared.field.Place.{Place}
use Rattle.pipe_fields.specs.declared.edit.WhenThere.{WhenThere}
use Rattle.pipe_fields.specs.declared.edit.WhenThere.TheVariants as there
use Rattle.pipe_fields.specs.declared.edit.WhenMissing.{WhenMissing}
use Rattle.pipe_fields.specs.declared.edit.WhenMissing.TheVariants as missing
use Rattle.pipe_fields.specs.Fields.{field_of, place_of}
use Rattle.serde_json.specs.Data.{Data, object, no_members}
use Rattle.serde_json.specs.Find.{get, as_bool, as_str}
use Rattle.ingest_pipe.specs.declared.keys.Kind.{Kind}
use Rattle.ingest_pipe.specs.declared.keys.Kind.TheVariants as kind
use Rattle.ingest_pipe.specs.declared.keys.Key.{Key}
use Rattle.ingest_pipe.specs.declared.keys.Key.TheVariants as key
use Rattle.ingest_pipe.specs.declared.processors.Action.{Action}
use Rattle.ingest_pipe.specs.declared.processors.Action.TheVariants as action
use Rattle.ingest_pipe.specs.declared.processors.Follows.{Follows}
use Rattle.ingest_pipe.specs.declared.processors.Follows.TheVariants as follows
use Rattle.ingest_pipe.specs.declared.scripts.PipeScript.{PipeScript}
use Rattle.ingest_pipe.specs.Keys.{key_name, on_failure}
use Rattle.ingest_pipe.specs.Paths.{below}

-- ---- one key

abbrev pub at_key : Key → Data → Option Data
at_key key d = get (key_name key) d

abbrev pub text_at : Key → Data → Option (List ℕ)
text_at key d = option_and_then as_str (at_key key d)

abbrev pub field_at : Key → Data → Option Field
field_at key d = option_and_then field_of (text_at key d)

abbrev pub place_at : Key → Data → Option Place
place_at key d = option_and_then place_of (text_at key d)

-- a flag, or what stands for it where it is absent
abbrev pub flag_at : Key → Bool → Data → Bool
flag_at key default d = unwrap_or (option_and_then as_bool (at_key key d)) default

abbrev pub when_there : Data → WhenThere
when_there d = if flag_at key.Override true d then there.Replaced else there.Kept

abbrev pub when_missing : Data → WhenMissing
when_missing d = if flag_at key.IgnoreMissing false d then missing.Passes else missing.Fails

-- a failure that is ignored is not recovered from
abbrev pub follows_of : Data → Follows
follows_of d = if flag_at key.IgnoreFailure false d then follows.Ignored else (if is_some (get on_failure d) then follows.Recovers else follows.Fails)

-- ---- what a processor does

-- what a key that has to be there gives, or the path of the key
abbrev pub needed : {X : Type 0} → List ℕ → Key → Option X → Result X (List ℕ)
needed path key None = Err (below path (key_name key))
needed path key (Some x) = Ok x

abbrev pub given : {X Y : Type 0} → Result X (List ℕ) → (X → Result Y (List ℕ)) → Result Y (List ℕ)
given (Ok x) next = next x
given (Err path) next = Err path

-- The action of a processor, or the path of the least key that it lacks. If it has a script, that stands at this place.
abbrev pub action_of : List ℕ → Kind → ℕ → Data → Result Action (List ℕ)
action_of path kind.Script script d = given (needed path key.Source (text_at key.Source d)) (λ text. Ok (action.Script script))
action_of path kind.Set script d =
    given (needed path key.Field (place_at key.Field d)) (λ place. given (needed path key.Value (at_key key.Value d)) (λ v. Ok (action.Set place v (when_there d))))
action_of path kind.Remove script d = given (needed path key.Field (field_at key.Field d)) (λ field. Ok (action.Remove field (when_missing d)))
action_of path kind.Rename script d =
    given (needed path key.Field (field_at key.Field d)) (λ field. given (needed path key.TargetField (field_at key.TargetField d)) (λ target. Ok (action.Rename field target (when_missing d))))
action_of path kind.Drop script d = Ok action.Drop
action_of path kind.Fail script d = given (needed path key.Message (text_at key.Message d)) (λ message. Ok (action.Fail message))

-- ---- its scripts

abbrev pub script : List ℕ → Bool → Data → List ℕ → PipeScript
script path test params text = record { path = path; text = text; test = test; params = params }

-- the script that tests a document has no parameters
abbrev pub test_of : List ℕ → Data → Option PipeScript
test_of path d = option_map (script (below path (key_name key.If)) true (object no_members)) (text_at key.If d)

abbrev pub parameters : Data → Data
parameters d = unwrap_or (at_key key.Params d) (object no_members)

-- the script that changes one, of a processor of that kind
abbrev pub change_of : List ℕ → Kind → Data → Option PipeScript
change_of path kind.Script d = option_map (script (below path (key_name key.Source)) false (parameters d)) (text_at key.Source d)
change_of path kind.Set d = None
change_of path kind.Remove d = None
change_of path kind.Rename d = None
change_of path kind.Drop d = None
change_of path kind.Fail d = None
