-- What reading a job file has answered.
use Rattle.std.specs.Prelude.{◌≡◌, ℕ, List, Option, Some, None, option_map, Result, Ok, Err, map, string_bytes, String}
use Rattle.std.specs.declared.alloc.Global.{Global}
use Rattle.serde_json.specs.Data.{Data, null, object, no_members}
use Rattle.serde_json.specs.Find.{as_str}
use Rattle.serde_json.specs.View.{view}
use Rattle.job_file.specs.declared.mapping.Mapping.{Mapping}
use Rattle.job_file.specs.declared.mapping.FieldKind.{FieldKind}
use Rattle.job_file.specs.declared.mapping.MapErr.{MapErr}
use Rattle.job_file.specs.declared.mapping.MapErr.TheVariants as m
use Rattle.job_file.specs.declared.job.Job.{Job}
use Rattle.job_file.specs.declared.particulars.JobParticulars.{JobParticulars}
use Rattle.job_file.specs.declared.error.JobErr.{JobErr}
use Rattle.job_file.specs.declared.error.JobErr.TheVariants as e
use Rattle.job_file.specs.declared.context.JobContext.{JobContext}
use Rattle.job_file.specs.declared.keys.Key.TheVariants as k
use Rattle.job_file.specs.declared.numbers.Numbers.{Numbers}
use Rattle.job_file.specs.declared.limits.Limit.TheVariants as l
use Rattle.job_file.specs.Keys.{row_of, value_at}
use Rattle.job_file.specs.Limits.{row_of_limit}
use Rattle.job_file.specs.Jobs.{JobData, Particulars, Fault, syntax, field, range, mapping, script_keys, text_at, truth_at}

-- ---- views

abbrev pub fields_view : List (String Global × FieldKind) → List (List ℕ × FieldKind)
fields_view fields = map (λ field. (string_bytes field.0, field.1)) fields

abbrev pub scripts_view : List (String Global × String Global) → List (List ℕ × List ℕ)
scripts_view scripts = map (λ script. (string_bytes script.0, string_bytes script.1)) scripts

abbrev pub particulars_view : JobParticulars → Particulars
particulars_view p = record {
  documents = view p.documents;
  pipeline = view p.pipeline;
  capacity = p.capacity;
  functions = view p.functions;
  score_mode = option_map string_bytes p.score_mode;
  boost_mode = option_map string_bytes p.boost_mode;
}

-- a job as plain data
abbrev pub job_view : Job → JobData
job_view job = record {
  context = job.context;
  scripts = scripts_view job.scripts.items;
  params = view job.params;
  mapping = fields_view job.mapping.fields.items;
  allow = option_map string_bytes job.allow;
  limits = job.limits;
  shards = job.shards;
  order = job.order.items;
  slice = job.slice;
  listing = job.listing;
  steps = job.steps;
  members = job.members;
  prelude = job.prelude;
  particulars = particulars_view job.particulars;
}

-- what a job of none of these commands has
abbrev pub no_particulars : Particulars
no_particulars = record { documents = object no_members; pipeline = null; capacity = (row_of_limit l.Capacity).default; functions = null; score_mode = None; boost_mode = None }

-- what is particular in a file, with a number for its capacity
abbrev pub particular_parts : Data → ℕ → Particulars
particular_parts file capacity = record {
  documents = value_at k.Documents file;
  pipeline = value_at k.Pipeline file;
  capacity = capacity;
  functions = value_at k.Functions file;
  score_mode = as_str (value_at k.ScoreMode file);
  boost_mode = as_str (value_at k.BoostMode file);
}

-- the job that an object's texts and flags make up with numbers and a mapping
abbrev pub parts_of : JobContext → Data → Numbers → Mapping → JobData
parts_of context file numbers fields = record {
  context = context;
  scripts = map (λ key. ((row_of key).name, text_at key file)) (script_keys context);
  params = value_at k.Params file;
  mapping = fields_view fields.fields.items;
  allow = as_str (value_at k.Allow file);
  limits = numbers.limits;
  shards = numbers.shards;
  order = numbers.order.items;
  slice = numbers.slice;
  listing = truth_at k.Listing file;
  steps = truth_at k.Steps file;
  members = truth_at k.Members file;
  prelude = truth_at k.Prelude file;
  particulars = particular_parts file numbers.capacity;
}

-- ---- answers

-- The answer, seen by a view, is what the definition says. Want of memory is free.
abbrev pub Answered : {X Y : Type 0} → (X → Y) → Result X JobErr → Result Y Fault → Type 0
Answered seen (Ok x) meaning = meaning ≡ Ok (seen x)
Answered seen (Err e.Syntax) meaning = meaning ≡ Err syntax
Answered seen (Err (e.Field key)) meaning = meaning ≡ Err (field (string_bytes key))
Answered seen (Err (e.Range key)) meaning = meaning ≡ Err (range (string_bytes key))
Answered seen (Err (e.Mapping name)) meaning = meaning ≡ Err (mapping (string_bytes name))
Answered seen (Err e.NoMemory) meaning = Unit {0}

-- An error is the fault that there is. Want of memory is free.
abbrev pub IsFault : JobErr → Option Fault → Type 0
IsFault e.Syntax fault = fault ≡ Some syntax
IsFault (e.Field key) fault = fault ≡ Some (field (string_bytes key))
IsFault (e.Range key) fault = fault ≡ Some (range (string_bytes key))
IsFault (e.Mapping name) fault = fault ≡ Some (mapping (string_bytes name))
IsFault e.NoMemory fault = Unit {0}

-- A field for which a mapping is refused is the bad one. Want of memory is free.
abbrev pub IsBadField : MapErr → Option (List ℕ) → Type 0
IsBadField (m.Bad name) bad = bad ≡ Some (string_bytes name)
IsBadField m.NoMemory bad = Unit {0}
