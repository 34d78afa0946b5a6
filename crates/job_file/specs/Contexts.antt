-- The contexts of a job: their names, which of them are built, and which command takes which.
use Rattle.std.specs.Prelude.{ℕ, Bool, true, false, ◌&&◌, List, [], ◌∷◌, Option, Some, None, codes, not, option_and_then, if◌then◌else◌}
use Rattle.std.specs.Str.{bytes_eq}
use Rattle.serde_json.specs.Data.{Data}
use Rattle.serde_json.specs.Find.{get, as_str}
use Rattle.job_file.specs.declared.context.JobContext.{JobContext}
use Rattle.job_file.specs.declared.context.JobContext.TheVariants as c
use Rattle.job_file.specs.declared.context.JobCommand.{JobCommand}
use Rattle.job_file.specs.declared.context.JobCommand.TheVariants as command

-- ---- contexts

abbrev pub same_context : JobContext → JobContext → Bool
same_context c.Eval c.Eval = true
same_context c.Filter c.Filter = true
same_context c.Score c.Score = true
same_context c.Field c.Field = true
same_context c.Update c.Update = true
same_context c.Ingest c.Ingest = true
same_context c.Metric c.Metric = true
same_context c.Updates c.Updates = true
same_context c.Pipe c.Pipe = true
same_context c.Serve c.Serve = true
same_context c.FunctionScore c.FunctionScore = true
same_context one other = false

-- what a name stands for in a list of names
abbrev pub named : {X : Type 0} → List ℕ → List (List ℕ × X) → Option X
named name [] = None
named name (row ∷ rows) = if bytes_eq name row.0 then Some row.1 else named name rows

-- the names of contexts
abbrev pub context_names : List (List ℕ × JobContext)
context_names =
    (codes "eval", c.Eval)
    ∷ (codes "filter", c.Filter)
    ∷ (codes "score", c.Score)
    ∷ (codes "field", c.Field)
    ∷ (codes "update", c.Update)
    ∷ (codes "ingest", c.Ingest)
    ∷ (codes "metric", c.Metric)
    ∷ (codes "updates", c.Updates)
    ∷ (codes "pipe", c.Pipe)
    ∷ (codes "serve", c.Serve)
    ∷ (codes "function_score", c.FunctionScore)
    ∷ []

-- Jobs of these contexts are built. A job of another one is refused, as if its context were none of the list.
abbrev pub is_built : JobContext → Bool
is_built c.Eval = true
is_built c.Filter = true
is_built c.Score = true
is_built c.Field = true
is_built c.Update = true
is_built c.Ingest = true
is_built c.Metric = false
is_built c.Updates = true
is_built c.Pipe = true
is_built c.Serve = true
is_built c.FunctionScore = false

-- Jobs of these contexts are of one command alone, and neither checked nor listed.
abbrev pub is_of_one_command : JobContext → Bool
is_of_one_command c.Updates = true
is_of_one_command c.Pipe = true
is_of_one_command c.Serve = true
is_of_one_command c.FunctionScore = true
is_of_one_command context = false

-- A script of its own has no input to be run over.
abbrev pub is_run : JobContext → Bool
is_run c.Eval = false
is_run c.FunctionScore = true
is_run context = not (is_of_one_command context)

abbrev pub takes : JobCommand → JobContext → Bool
takes command.Check context = not (is_of_one_command context)
takes command.List context = not (is_of_one_command context)
takes command.Run context = is_run context
takes command.Updates context = same_context c.Updates context
takes command.Pipe context = same_context c.Pipe context
takes command.Serve context = same_context c.Serve context

-- a context that is built and that the command takes
abbrev pub taken : JobCommand → JobContext → Option JobContext
taken with context = if is_built context && takes with context then Some context else None

-- the context of a job file
abbrev pub context_of : JobCommand → Data → Option JobContext
context_of with file = option_and_then (taken with) (option_and_then (λ name. named name context_names) (option_and_then as_str (get (codes "context") file)))
