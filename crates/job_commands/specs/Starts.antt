-- With what the runs of a job start, and what they leave by the rules of its program.
use Rattle.std.specs.Prelude.{◌≡◌, ℕ, List, Option, Some, Ok}
use Rattle.object_values.specs.declared.value.Value.{Value}
use Rattle.typed_tree.specs.declared.program.Program.{Program}
use Rattle.object_heap.specs.Fits.{ValueFits}
use Rattle.script_engine.specs.CodeRules.{FitsCode}
use Rattle.script_engine.specs.Codes.{empty_program}
use Rattle.script_engine.specs.Ends.{RunsTo, beside}
use Rattle.script_engine.specs.Machine.{Codes}
use Rattle.script_engine.specs.ProgramRules.{FitsProgram, rules_of}
use Rattle.script_engine.specs.Typed.{EndIsOf, HasVariables}
use Rattle.script_engine.specs.World.{End}
use Rattle.script_engine.specs.Worlds.{EndFits}
use Rattle.job_file.specs.declared.context.JobCommand.{JobCommand}
use Rattle.document_replies.specs.Starts.{Start}
use Rattle.document_replies.specs.Replies.{Context}
use Rattle.job_commands.specs.Contexts.{context_in, types_of}
use Rattle.job_commands.specs.Running.{limits_in, world_in}
use Rattle.job_commands.specs.Scripts.{Prepared, PreparesJob}

-- The store of a start fits the program of each script of the job beside the prelude's, and each code. Its arguments are of the types of the
-- variables of the first script.
pub record StartsWell (p : Prepared) (start : Start) : Type 0 where
  pub program : (program : Program) → FitsProgram (beside program empty_program) start.store
  pub codes : (codes : Codes) → FitsCode codes start.store
  pub typed : HasVariables start.store.objects (types_of p.under.job.context p.programs.first.key) start.args

-- a line of a job that is prepared, of a context with lines, is bound to a start
pub record BindsLine (p : Prepared) (line : List ℕ) (start : Start) : Type 0 where
  pub command : JobCommand
  pub content : List ℕ → Option (List ℕ)
  pub name : List ℕ
  pub prepares : PreparesJob command content name (Ok p)
  pub context : Context
  pub over : context_in p.under.job ≡ Some context
  pub binds : context.start line ≡ Ok start

-- then it starts well
abbrev pub LinesStartWell : Type 0
LinesStartWell = (p : Prepared) (line : List ℕ) (start : Start) → BindsLine p line start → StartsWell p start

-- So the run of the first script over it leaves a store that fits its program, and what it gives is of the type of the context's result in
-- that store.
abbrev pub LinesRunTyped : Type 0
LinesRunTyped =
    (p : Prepared) (line : List ℕ) (start : Start) → BindsLine p line start → (end : End Value)
    → RunsTo p.programs.first.program empty_program (limits_in p) start.args (world_in p start.store) end
    → EndFits ValueFits (rules_of (beside p.programs.first.program empty_program)) start.store.objects end
    × EndIsOf (types_of p.under.job.context p.programs.first.key).result end
