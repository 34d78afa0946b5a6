-- The keys of a job file: one row a key.
use Rattle.std.specs.Prelude.{ℕ, Bool, true, false, ◌||◌, List, [], ◌∷◌, codes, unwrap_or}
use Rattle.serde_json.specs.Data.{Data, null, boolean, number, string, array, object, unsigned, no_items, no_members}
use Rattle.serde_json.specs.Find.{get}
use Rattle.job_file.specs.declared.context.JobContext.{JobContext}
use Rattle.job_file.specs.declared.context.JobContext.TheVariants as c
use Rattle.job_file.specs.declared.keys.Key.{Key}
use Rattle.job_file.specs.declared.keys.Key.TheVariants as k
use Rattle.job_file.specs.declared.keys.ValueType.{ValueType}
use Rattle.job_file.specs.declared.keys.ValueType.TheVariants as t
use Rattle.job_file.specs.Contexts.{same_context}

-- what stands for a key that a file lacks
pub data Default : Type 0 where
  required : Default
  given : Data → Default

pub record Row : Type 0 where
  pub name : List ℕ
  pub type_ : ValueType
  pub contexts : List JobContext
  pub default : Default

-- contexts of one command alone
abbrev pub of_one_command : List JobContext
of_one_command = c.Updates ∷ c.Pipe ∷ c.Serve ∷ c.FunctionScore ∷ []

abbrev pub every : List JobContext
every = c.Eval ∷ c.Filter ∷ c.Score ∷ c.Field ∷ c.Update ∷ c.Ingest ∷ c.Metric ∷ of_one_command

-- those of `check`, `list` and `run`
abbrev pub plain : List JobContext
plain = c.Eval ∷ c.Filter ∷ c.Score ∷ c.Field ∷ c.Update ∷ c.Ingest ∷ c.Metric ∷ []

abbrev pub with_lines : List JobContext
with_lines = c.Filter ∷ c.Score ∷ c.Field ∷ c.Update ∷ c.Ingest ∷ c.Metric ∷ []

abbrev pub with_script : List JobContext
with_script = c.Eval ∷ c.Filter ∷ c.Score ∷ c.Field ∷ c.Update ∷ c.Ingest ∷ c.Updates ∷ []

abbrev pub with_params : List JobContext
with_params = c.Filter ∷ c.Score ∷ c.Field ∷ c.Update ∷ c.Ingest ∷ c.Metric ∷ c.Updates ∷ c.FunctionScore ∷ []

abbrev pub with_mapping : List JobContext
with_mapping = c.Filter ∷ c.Score ∷ c.Field ∷ c.Metric ∷ c.Serve ∷ c.FunctionScore ∷ []

abbrev pub with_replies : List JobContext
with_replies = c.Filter ∷ c.Score ∷ c.Field ∷ c.Update ∷ c.Ingest ∷ []

abbrev pub metric : List JobContext
metric = c.Metric ∷ []

-- those whose turns an order is given for
abbrev pub with_turns : List JobContext
with_turns = c.Metric ∷ c.Updates ∷ []

abbrev pub updates : List JobContext
updates = c.Updates ∷ []

abbrev pub pipe : List JobContext
pipe = c.Pipe ∷ []

abbrev pub serve : List JobContext
serve = c.Serve ∷ []

abbrev pub function_score : List JobContext
function_score = c.FunctionScore ∷ []

abbrev pub row : List ℕ → ValueType → List JobContext → Default → Row
row name type_ contexts default = record { name = name; type_ = type_; contexts = contexts; default = default }

-- The table. A job without `allow` has the full catalogue; one without a mode multiplies.
abbrev pub row_of : Key → Row
row_of k.Context = row (codes "context") t.Text every required
row_of k.Script = row (codes "script") t.Text with_script required
row_of k.Init = row (codes "init") t.Text metric (given (string []))
row_of k.Map = row (codes "map") t.Text metric required
row_of k.Combine = row (codes "combine") t.Text metric required
row_of k.Reduce = row (codes "reduce") t.Text metric required
row_of k.Params = row (codes "params") t.Parameters with_params (given (object no_members))
row_of k.Mapping = row (codes "mapping") t.Object with_mapping (given (object no_members))
row_of k.Allow = row (codes "allow") t.Text every (given null)
row_of k.Limits = row (codes "limits") t.Limits every (given (object no_members))
row_of k.Shards = row (codes "shards") t.Number metric (given (number (unsigned 1)))
row_of k.Order = row (codes "order") t.Numbers with_turns (given (array no_items))
row_of k.Slice = row (codes "slice") t.Number metric (given (number (unsigned 1000000)))
row_of k.Listing = row (codes "listing") t.Truth with_lines (given (boolean false))
row_of k.Steps = row (codes "steps") t.Truth with_replies (given (boolean false))
row_of k.Members = row (codes "members") t.Truth with_replies (given (boolean false))
row_of k.Prelude = row (codes "prelude") t.Truth plain (given (boolean false))
row_of k.Documents = row (codes "documents") t.Documents updates (given (object no_members))
row_of k.Pipeline = row (codes "pipeline") t.Values pipe required
row_of k.Capacity = row (codes "capacity") t.Number serve (given (number (unsigned 100)))
row_of k.Functions = row (codes "functions") t.Values function_score required
row_of k.ScoreMode = row (codes "score_mode") t.ScoreMode function_score (given null)
row_of k.BoostMode = row (codes "boost_mode") t.BoostMode function_score (given null)

-- the keys in the order of the table
unfoldable pub keys : List Key
keys =
    k.Context ∷ k.Script ∷ k.Init ∷ k.Map ∷ k.Combine ∷ k.Reduce ∷ k.Params ∷ k.Mapping ∷ k.Allow ∷ k.Limits ∷ k.Shards ∷ k.Order ∷ k.Slice ∷ k.Listing ∷ k.Steps ∷ k.Members ∷ k.Prelude
    ∷ k.Documents ∷ k.Pipeline ∷ k.Capacity ∷ k.Functions ∷ k.ScoreMode ∷ k.BoostMode ∷ []

-- ---- what the table says

abbrev pub includes : List JobContext → JobContext → Bool
includes [] context = false
includes (one ∷ more) context = same_context one context || includes more context

-- whether a key belongs to a context
abbrev pub belongs : Key → JobContext → Bool
belongs key context = includes (row_of key).contexts context

abbrev pub default_data : Default → Data
default_data required = null
default_data (given d) = d

-- the value at a key, or its default
abbrev pub value_at : Key → Data → Data
value_at key file = unwrap_or (get (row_of key).name file) (default_data (row_of key).default)
