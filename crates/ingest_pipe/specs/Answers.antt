-- What a runner and a run have answered.
use Rattle.std.specs.Prelude.{◌≡◌, ℕ, List, Result, Ok, Err, ⊤}
use Rattle.serde_json.specs.View.{view}
use Rattle.pipe_fields.specs.declared.document.IngestDoc.{IngestDoc}
use Rattle.pipe_fields.specs.declared.failure.EditErr.{EditErr}
use Rattle.pipe_fields.specs.declared.failure.EditErr.TheVariants as edit
use Rattle.pipe_fields.specs.Documents.{DocData, doc_view}
use Rattle.pipe_fields.specs.Edits.{Edited, Becomes, Errs}
use Rattle.ingest_pipe.specs.declared.processors.Processors.{Processors}
use Rattle.ingest_pipe.specs.declared.running.Tested.{Tested}
use Rattle.ingest_pipe.specs.declared.running.Tested.TheVariants as t
use Rattle.ingest_pipe.specs.declared.running.Changed.{Changed}
use Rattle.ingest_pipe.specs.declared.running.Changed.TheVariants as c
use Rattle.ingest_pipe.specs.declared.running.PipeEnd.{PipeEnd}
use Rattle.ingest_pipe.specs.declared.running.PipeEnd.TheVariants as e
use Rattle.ingest_pipe.specs.declared.running.Outcome.{Outcome}
use Rattle.ingest_pipe.specs.declared.running.Outcome.TheVariants as o
use Rattle.ingest_pipe.specs.Running.{Judged, Holds, Lacks, TestErrs, Meaning, Made, Gives, Drops, Fails, Call, Ran, piped, paid}

-- ---- a runner's answers; want of memory is free

abbrev pub TestMeans : Judged → Tested → Type 0
TestMeans judged t.Yes = judged ≡ Holds
TestMeans judged t.No = judged ≡ Lacks
TestMeans judged (t.Failed error) = judged ≡ TestErrs (view error)
TestMeans judged t.NoMemory = Unit {0}

abbrev pub ChangeMeans : Edited → Changed → Type 0
ChangeMeans edited (c.Doc doc) = edited ≡ Becomes (doc_view doc)
ChangeMeans edited (c.Failed error) = edited ≡ Errs (view error)
ChangeMeans edited c.NoMemory = Unit {0}

-- of a call that found memory
abbrev pub OnTested : Tested → Type 0 → Type 0
OnTested t.Yes fact = fact
OnTested t.No fact = fact
OnTested (t.Failed error) fact = fact
OnTested t.NoMemory fact = Unit {0}

abbrev pub OnChanged : Changed → Type 0 → Type 0
OnChanged (c.Doc doc) fact = fact
OnChanged (c.Failed error) fact = fact
OnChanged c.NoMemory fact = Unit {0}

-- ---- a run's answers

-- A runner that has a meaning was asked for these calls: it has it still, and their costs were paid.
pub record Asked {R : Type 0} (meant : R → Meaning → Type 0) (spent : R → ℕ) (m : Meaning) (calls : List Call) (old new : R) : Type 0 where
  pub stays : meant new m
  pub pays : spent new ≡ paid m.cost calls (spent old)

pub record IsRan {R : Type 0} (meant : R → Meaning → Type 0) (spent : R → ℕ) (m : Meaning) (ran : Ran) (old new : R) (made : Made) : Type 0 where
  pub is : ran.made ≡ made
  pub asked : Asked meant spent m ran.calls old new

-- how processors end, with the document that they leave; nothing is said where memory is wanting
abbrev pub IsOutcome : {R : Type 0} → (R → Meaning → Type 0) → (R → ℕ) → Meaning → Ran → R → R → IngestDoc → Outcome → Type 0
IsOutcome meant spent m ran old new left o.Passed = IsRan meant spent m ran old new (Gives (doc_view left))
IsOutcome meant spent m ran old new left o.Dropped = IsRan meant spent m ran old new (Drops (doc_view left))
IsOutcome meant spent m ran old new left (o.Failed error) = IsRan meant spent m ran old new (Fails (view error))
IsOutcome meant spent m ran old new left o.NoMemory = Unit {0}

-- what a change of a document comes to
abbrev pub outcome_of : Result ⊤ EditErr → Outcome
outcome_of (Ok unit) = o.Passed
outcome_of (Err (edit.Failed error)) = o.Failed error
outcome_of (Err edit.NoMemory) = o.NoMemory

-- a processor that fails leaves the document as it was before it
abbrev pub LeavesOnFailure : Outcome → IngestDoc → IngestDoc → Type 0
LeavesOnFailure o.Passed before left = Unit {0}
LeavesOnFailure o.Dropped before left = Unit {0}
LeavesOnFailure (o.Failed error) before left = left ≡ before
LeavesOnFailure o.NoMemory before left = Unit {0}

abbrev pub IsEnd : {R : Type 0} → (R → Meaning → Type 0) → (R → ℕ) → Meaning → Ran → R → R → PipeEnd → Type 0
IsEnd meant spent m ran old new (e.Kept doc) = IsRan meant spent m ran old new (Gives (doc_view doc))
IsEnd meant spent m ran old new (e.Dropped doc) = IsRan meant spent m ran old new (Drops (doc_view doc))
IsEnd meant spent m ran old new (e.Failed error) = IsRan meant spent m ran old new (Fails (view error))
IsEnd meant spent m ran old new e.NoMemory = Unit {0}

-- how a document's run through processors ends, by a meaning that the runner has
abbrev pub Ends : {R : Type 0} → (R → Meaning → Type 0) → (R → ℕ) → Meaning → Processors → DocData → R → R → PipeEnd → Type 0
Ends meant spent m processors doc old new result = IsEnd meant spent m (piped m.tested m.changed processors doc) old new result
