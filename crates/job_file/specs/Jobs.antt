-- A job: what a job file denotes, or the first thing that is wrong with it.
use Rattle.std.specs.Prelude.{ℕ, Bool, true, false, ◌&&◌, ◌||◌, List, [], ◌∷◌, Option, Some, None, Result, Ok, Err, codes, is_some, not, option_map, unwrap_or, map, if◌then◌else◌}
use Rattle.std.specs.Str.{bytes_eq}
use Rattle.std.specs.List.{list_any}
use Rattle.serde_json.specs.Data.{Data}
use Rattle.serde_json.specs.Find.{get, as_bool, as_str, as_object}
use Rattle.job_file.specs.declared.context.JobContext.{JobContext}
use Rattle.job_file.specs.declared.context.JobContext.TheVariants as c
use Rattle.job_file.specs.declared.context.JobCommand.{JobCommand}
use Rattle.job_file.specs.declared.keys.Key.{Key}
use Rattle.job_file.specs.declared.keys.Key.TheVariants as k
use Rattle.job_file.specs.declared.limits.Limit.{Limit}
use Rattle.job_file.specs.declared.limits.Limit.TheVariants as l
use Rattle.job_file.specs.declared.limits.JobLimits.{JobLimits}
use Rattle.job_file.specs.declared.mapping.FieldKind.{FieldKind}
use Rattle.job_file.specs.Contexts.{context_of}
use Rattle.job_file.specs.Keys.{Default, required, given, Row, keys, row_of, belongs, value_at}
use Rattle.job_file.specs.Limits.{number_of, is_in_range, natural, entries_of, is_order, numbers, row_of_limit}
use Rattle.job_file.specs.Values.{is_of_type}
use Rattle.job_file.specs.Mappings.{members_of, names_where, least, bad_field, fields_of}

-- ---- what is wrong with a job file

pub data Fault : Type 0 where
  -- it is not read as an object
  syntax : Fault
  -- a key that is unknown, missing or of another type
  field : List ℕ → Fault
  -- a number out of its range
  range : List ℕ → Fault
  -- a field of the mapping
  mapping : List ℕ → Fault

-- the first of some faults that may be there
abbrev pub first : List (Option Fault) → Option Fault
first [] = None
first (None ∷ more) = first more
first (Some fault ∷ more) = Some fault

-- whether a name is a key of a context
abbrev pub is_key : JobContext → List ℕ → Bool
is_key context name = list_any (λ key. bytes_eq name (row_of key).name && belongs key context) keys

-- the least unknown key; a key of another context is unknown
abbrev pub unknown_key : JobContext → Data → Option (List ℕ)
unknown_key context file = least (names_where (λ name d. not (is_key context name)) (members_of file))

abbrev pub is_required : Default → Bool
is_required required = true
is_required (given d) = false

abbrev pub is_right_value : Row → Option Data → Bool
is_right_value row None = not (is_required row.default)
is_right_value row (Some d) = is_of_type row.type_ d

-- whether a key of a context has a value of its type, or need not be there
abbrev pub is_right : JobContext → Data → Key → Bool
is_right context file key = not (belongs key context) || is_right_value (row_of key) (get (row_of key).name file)

abbrev pub key_fault : JobContext → Data → Key → Option Fault
key_fault context file key = if is_right context file key then None else Some (field (row_of key).name)

abbrev pub limit_fault : Data → Limit → Option Fault
limit_fault file limit = if is_in_range limit (number_of limit file) then None else Some (range (row_of_limit limit).name)

-- how many shards a job has
abbrev pub shards_of : Data → ℕ
shards_of file = natural (number_of l.Shards file)

-- Of how many an entry of `order` may name one: shards take turns, and in `updates` clients do.
abbrev pub count_of : JobContext → ℕ → ℕ
count_of c.Updates shards = 10000
count_of context shards = shards

abbrev pub order_fault : JobContext → Data → Option Fault
order_fault context file = if is_order (count_of context (shards_of file)) (entries_of (value_at k.Order file)) then None else Some (range (row_of_limit l.Order).name)

-- the numbers behind those of `limits`
abbrev pub turn_faults : JobContext → Data → List (Option Fault)
turn_faults context file = limit_fault file l.Shards ∷ order_fault context file ∷ limit_fault file l.Slice ∷ limit_fault file l.Capacity ∷ []

abbrev pub range_faults : JobContext → Data → List (Option Fault)
range_faults context file =
    limit_fault file l.Loop ∷ limit_fault file l.Depth ∷ limit_fault file l.Ticks ∷ limit_fault file l.Room ∷ limit_fault file l.Input ∷ turn_faults context file

-- the first thing that is wrong with an object as a job of a context
unfoldable pub fault_of : JobContext → Data → Option Fault
fault_of context file =
    first (option_map field (unknown_key context file)
    ∷ first (map (key_fault context file) keys)
    ∷ first (range_faults context file)
    ∷ option_map mapping (bad_field (members_of (value_at k.Mapping file)))
    ∷ [])

-- ---- the job

-- what jobs of one command alone have; the others have the defaults
pub record Particulars : Type 0 where
  -- of `updates`: an object from ids to documents
  pub documents : Data
  -- of `pipe`
  pub pipeline : Data
  -- of `serve`
  pub capacity : ℕ
  -- of scores by functions, with the modes, which multiply where there is none
  pub functions : Data
  pub score_mode : Option (List ℕ)
  pub boost_mode : Option (List ℕ)

pub record JobData : Type 0 where
  pub context : JobContext
  -- each script after its key
  pub scripts : List (List ℕ × List ℕ)
  pub params : Data
  pub mapping : List (List ℕ × FieldKind)
  pub allow : Option (List ℕ)
  pub limits : JobLimits
  pub shards : ℕ
  pub order : List ℕ
  pub slice : ℕ
  pub listing : Bool
  pub steps : Bool
  pub members : Bool
  pub prelude : Bool
  pub particulars : Particulars

abbrev pub text_at : Key → Data → List ℕ
text_at key file = unwrap_or (as_str (value_at key file)) []

abbrev pub truth_at : Key → Data → Bool
truth_at key file = unwrap_or (as_bool (value_at key file)) false

-- the keys of the scripts of a context
abbrev pub script_keys : JobContext → List Key
script_keys c.Metric = k.Init ∷ k.Map ∷ k.Combine ∷ k.Reduce ∷ []
-- those of pipelines and functions stand in them, and stored scripts in lines
script_keys c.Pipe = []
script_keys c.Serve = []
script_keys c.FunctionScore = []
script_keys context = k.Script ∷ []

abbrev pub limits_of : Data → JobLimits
limits_of file = record {
  loops = natural (number_of l.Loop file);
  depth = natural (number_of l.Depth file);
  ticks = natural (number_of l.Ticks file);
  room = natural (number_of l.Room file);
  input = natural (number_of l.Input file);
}

abbrev pub particulars_of : Data → Particulars
particulars_of file = record {
  documents = value_at k.Documents file;
  pipeline = value_at k.Pipeline file;
  capacity = natural (number_of l.Capacity file);
  functions = value_at k.Functions file;
  score_mode = as_str (value_at k.ScoreMode file);
  boost_mode = as_str (value_at k.BoostMode file);
}

-- the job that an object denotes in a context, where nothing is wrong with it
unfoldable pub job_of : JobContext → Data → JobData
job_of context file = record {
  context = context;
  scripts = map (λ key. ((row_of key).name, text_at key file)) (script_keys context);
  params = value_at k.Params file;
  mapping = fields_of (members_of (value_at k.Mapping file));
  allow = as_str (value_at k.Allow file);
  limits = limits_of file;
  shards = shards_of file;
  order = numbers (entries_of (value_at k.Order file));
  slice = natural (number_of l.Slice file);
  listing = truth_at k.Listing file;
  steps = truth_at k.Steps file;
  members = truth_at k.Members file;
  prelude = truth_at k.Prelude file;
  particulars = particulars_of file;
}

-- ---- reading

abbrev pub or_fault : {X : Type 0} → X → Option Fault → Result X Fault
or_fault job None = Ok job
or_fault job (Some fault) = Err fault

-- an object as a job of a context
unfoldable pub job_in : JobContext → Data → Result JobData Fault
job_in context file = or_fault (job_of context file) (fault_of context file)

abbrev pub job_in_context : Option JobContext → Data → Result JobData Fault
job_in_context None file = Err (field (codes "context"))
job_in_context (Some context) file = job_in context file

-- The object that a file is read as, if it is: what is no JSON, and JSON that is no object, is refused.
abbrev pub object_of : Option Data → Result Data Fault
object_of None = Err syntax
object_of (Some d) = if is_some (as_object d) then Ok d else Err syntax

-- the job of what a file is read as
abbrev pub job_of_read : JobCommand → Result Data Fault → Result JobData Fault
job_of_read with (Err fault) = Err fault
job_of_read with (Ok file) = job_in_context (context_of with file) file
