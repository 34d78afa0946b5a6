-- Which values have the form of a key.
use Rattle.std.specs.Prelude.{ℕ, Bool, true, List, [], ◌∷◌, Option, Some, None, is_some, option_and_then, if◌then◌else◌}
use Rattle.job_file.specs.Values.{has_whole_numbers, if_present, members_have_whole_numbers}
use Rattle.pipe_fields.specs.Fields.{field_of, place_of}
use Rattle.serde_json.specs.Data.{Data}
use Rattle.serde_json.specs.Find.{get, as_bool, as_object, as_str}
use Rattle.ingest_pipe.specs.declared.keys.Kind.{Kind}
use Rattle.ingest_pipe.specs.declared.keys.Kind.TheVariants as kind
use Rattle.ingest_pipe.specs.declared.keys.Key.{Key}
use Rattle.ingest_pipe.specs.declared.keys.Key.TheVariants as key
use Rattle.ingest_pipe.specs.Keys.{key_name}

-- `set` takes the index and the id beside the fields of the source
abbrev pub is_field : Kind → Data → Bool
is_field kind.Set d = is_some (option_and_then place_of (as_str d))
is_field kind.Script d = is_some (option_and_then field_of (as_str d))
is_field kind.Remove d = is_some (option_and_then field_of (as_str d))
is_field kind.Rename d = is_some (option_and_then field_of (as_str d))
is_field kind.Drop d = is_some (option_and_then field_of (as_str d))
is_field kind.Fail d = is_some (option_and_then field_of (as_str d))

-- an object in which every number is a whole one of 64 bits with a sign
abbrev pub is_parameters : Data → Bool
is_parameters d = if_present members_have_whole_numbers (as_object d)

abbrev pub is_right : Kind → Key → Data → Bool
is_right kind key.Field d = is_field kind d
is_right kind key.TargetField d = is_some (option_and_then field_of (as_str d))
is_right kind key.If d = is_some (as_str d)
is_right kind key.Message d = is_some (as_str d)
is_right kind key.Source d = is_some (as_str d)
is_right kind key.IgnoreFailure d = is_some (as_bool d)
is_right kind key.IgnoreMissing d = is_some (as_bool d)
is_right kind key.Override d = is_some (as_bool d)
is_right kind key.Params d = is_parameters d
is_right kind key.Value d = has_whole_numbers d

-- a key may be absent
abbrev pub is_right_at : Kind → Key → Option Data → Bool
is_right_at kind key None = true
is_right_at kind key (Some d) = is_right kind key d

-- the first of some keys at which there is something that has not its form
abbrev pub first_wrong : Kind → List Key → Data → Option Key
first_wrong kind [] d = None
first_wrong kind (key ∷ keys) d = if is_right_at kind key (get (key_name key) d) then first_wrong kind keys d else Some key
