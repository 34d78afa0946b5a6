-- The contexts of jobs, one row each: what a script sees and gives, and what the lines of a job are, where it has any.
use Rattle.std.specs.Prelude.{ℕ, Bool, true, false, List, [], ◌∷◌, Option, Some, None, codes, nat_eq, if◌then◌else◌}
use Rattle.std.specs.List.{ends_with}
use Rattle.pl_types.specs.declared.ty.Ty.{Ty}
use Rattle.pl_types.specs.declared.ty.Ty.TheVariants as t
use Rattle.pl_types.specs.declared.primitive.Primitive.TheVariants as prim
use Rattle.pl_types.specs.declared.classes.TheConstants.{MAP}
use Rattle.typed_tree.specs.declared.program.Named.{Named}
use Rattle.script_engine.specs.typing_rules_declared.header.ContextTypes.{ContextTypes}
use Rattle.job_file.specs.declared.context.JobContext.{JobContext}
use Rattle.job_file.specs.declared.context.JobContext.TheVariants as c
use Rattle.job_file.specs.Jobs.{JobData}
use Rattle.search_ctx.specs.declared.line.SearchKind.{SearchKind}
use Rattle.search_ctx.specs.declared.line.SearchKind.TheVariants as k
use Rattle.document_replies.specs.json_replies_declared.showing.ShownKeys.{ShownKeys}
use Rattle.document_replies.specs.write_ctx_declared.keys.WriteKind.{WriteKind}
use Rattle.document_replies.specs.write_ctx_declared.keys.WriteKind.TheVariants as w
use Rattle.document_replies.specs.Changes.{Changes, change_context}
use Rattle.document_replies.specs.Replies.{Context}
use Rattle.document_replies.specs.Searches.{Documents, search_context}

-- ---- what scripts see and give

abbrev pub variable : List ℕ → Ty → Named
variable name of = record { name = name; of = of }

-- the params and the document
abbrev pub params_and_doc : List Named → List Named
params_and_doc more = variable (codes "params") (t.Class MAP) ∷ variable (codes "doc") (t.Class MAP) ∷ more

abbrev pub search_types : SearchKind → ContextTypes
search_types k.Filter = record { variables = params_and_doc []; result = t.Prim prim.Boolean }
search_types k.Score = record { variables = params_and_doc (variable (codes "_score") (t.Prim prim.Long) ∷ []); result = t.Prim prim.Long }
search_types k.Field = record { variables = params_and_doc []; result = t.Def }

-- the params and the document that is changed; a script that changes it gives nothing
abbrev pub change_types : ContextTypes
change_types = record { variables = variable (codes "params") (t.Class MAP) ∷ variable (codes "ctx") (t.Class MAP) ∷ []; result = t.Void }

-- a test of a processor sees the same and says whether the processor acts
abbrev pub test_types : ContextTypes
test_types = record { variables = change_types.variables; result = t.Prim prim.Boolean }

-- whether the path of a script of a pipeline is that of a test: its last name is `if`
abbrev pub is_test : List ℕ → Bool
is_test path = ends_with nat_eq path (codes ".if")

abbrev pub pipe_types : List ℕ → ContextTypes
pipe_types path = if is_test path then test_types else change_types

-- a script of its own sees no variables and gives any value
abbrev pub own_types : ContextTypes
own_types = record { variables = []; result = t.Def }

-- ---- what lines are

abbrev pub documents_in : SearchKind → JobData → Documents
documents_in kind job = record { kind = kind; fields = job.mapping; params = job.params; room = job.limits.room }

abbrev pub changes_in : WriteKind → JobData → Changes
changes_in kind job = record { kind = kind; params = job.params; room = job.limits.room }

abbrev pub keys_in : JobData → ShownKeys
keys_in job = record { members = job.members; steps = job.steps }

-- ---- the rows

pub record ContextRow : Type 0 where
  -- the variables and the result of the script under a key
  pub types : List ℕ → ContextTypes
  -- how lines of a job are bound and answered; none where it has no lines
  pub lines : JobData → Option Context
  -- whether its scripts are told by their keys, in refusals and with their listings
  pub by_key : Bool

abbrev pub own_row : ContextRow
own_row = record { types = λ key. own_types; lines = λ job. None; by_key = false }

abbrev pub search_row : SearchKind → ContextRow
search_row kind = record { types = λ key. search_types kind; lines = λ job. Some (search_context (documents_in kind job) (keys_in job)); by_key = false }

abbrev pub change_row : WriteKind → ContextRow
change_row kind = record { types = λ key. change_types; lines = λ job. Some (change_context (changes_in kind job) (keys_in job)); by_key = false }

abbrev pub row_of : JobContext → ContextRow
row_of c.Eval = own_row
row_of c.Filter = search_row k.Filter
row_of c.Score = search_row k.Score
row_of c.Field = search_row k.Field
row_of c.Update = change_row w.Update
row_of c.Ingest = change_row w.Ingest
-- the script of many updates is that of an update; how its lines are answered hangs on all of them
row_of c.Updates = record { types = λ key. change_types; lines = λ job. None; by_key = false }
-- the scripts of a pipeline are told by their paths; how its lines are answered says more than one script
row_of c.Pipe = record { types = pipe_types; lines = λ job. None; by_key = true }
-- these are not built, and no job of theirs is read
row_of c.Metric = record { types = λ key. own_types; lines = λ job. None; by_key = true }
row_of c.Serve = own_row
row_of c.FunctionScore = own_row

-- what the script of a context under a key sees and gives
abbrev pub types_of : JobContext → List ℕ → ContextTypes
types_of context key = (row_of context).types key

-- the context of a job with lines
abbrev pub context_in : JobData → Option Context
context_in job = (row_of job.context).lines job
