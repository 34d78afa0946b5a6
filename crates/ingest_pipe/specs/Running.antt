-- What a pipeline makes of a document, by what its scripts say and make.
use Rattle.std.specs.Prelude.{ℕ, ◌+◌, ◌-◌, ◌^◌, min, List, [], ◌∷◌, ◌++◌, Option, Some, None, codes}
use Rattle.serde_json.specs.Data.{Data, string, object, no_members, member}
use Rattle.pipe_fields.specs.Documents.{DocData}
use Rattle.pipe_fields.specs.Edits.{Edited, Becomes, Errs, set, remove, rename}
use Rattle.ingest_pipe.specs.declared.processors.Action.{Action}
use Rattle.ingest_pipe.specs.declared.processors.Action.TheVariants as action
use Rattle.ingest_pipe.specs.declared.processors.Follows.{Follows}
use Rattle.ingest_pipe.specs.declared.processors.Follows.TheVariants as follows
use Rattle.ingest_pipe.specs.declared.processors.Processors.{Processors}
use Rattle.ingest_pipe.specs.declared.processors.Processors.TheOpen.{Processors-F}
use Rattle.ingest_pipe.specs.declared.processors.Processors.TheFolds.{fold-Processors}

-- what a test says of a document
pub data Judged : Type 0 where
  Holds : Judged
  Lacks : Judged
  TestErrs : Data → Judged

-- what scripts mean: what each test says of a document, what each other script makes of it, and what a call costs
pub record Meaning : Type 0 where
  pub tested : ℕ → DocData → Judged
  pub changed : ℕ → DocData → Edited
  pub cost : ℕ → DocData → ℕ

-- what processors make of a document; a dropped one is told as it stood there
pub data Made : Type 0 where
  Gives : DocData → Made
  Drops : DocData → Made
  Fails : Data → Made

-- a call of a script
pub record Call : Type 0 where
  pub script : ℕ
  pub doc : DocData

-- what comes of a document, and the calls of scripts by which it came, in their order
pub record Ran : Type 0 where
  pub made : Made
  pub calls : List Call

abbrev pub still : Made → Ran
still made = record { made = made; calls = [] }

abbrev pub behind : List Call → Ran → Ran
behind calls ran = record { made = ran.made; calls = calls ++ ran.calls }

abbrev pub call : ℕ → DocData → Call
call script doc = record { script = script; doc = doc }

abbrev pub made_of : Edited → Made
made_of (Becomes doc) = Gives doc
made_of (Errs error) = Fails error

abbrev pub called : ℕ → DocData → Edited → Ran
called script doc edited = record { made = made_of edited; calls = call script doc ∷ [] }

-- ---- one processor

-- the error of `fail`
abbrev pub failure : List ℕ → Data
failure message = object (member (codes "kind") (string (codes "pipe-fail")) (member (codes "message") (string message) no_members))

abbrev pub acted : (ℕ → DocData → Edited) → Action → DocData → Ran
acted changed (action.Script script) doc = called script doc (changed script doc)
acted changed (action.Set place value there) doc = still (made_of (set place value there doc))
acted changed (action.Remove field missing) doc = still (made_of (remove field missing doc))
acted changed (action.Rename field target missing) doc = still (made_of (rename field target missing doc))
acted changed action.Drop doc = still (Drops doc)
acted changed (action.Fail message) doc = still (Fails (failure message))

abbrev pub judged : Judged → (ℕ → DocData → Edited) → Action → DocData → Ran
judged Holds changed action doc = acted changed action doc
judged Lacks changed action doc = still (Gives doc)
judged (TestErrs error) changed action doc = still (Fails error)

-- a processor, which acts where its test holds and fails where its test does
abbrev pub tried : Option ℕ → (ℕ → DocData → Judged) → (ℕ → DocData → Edited) → Action → DocData → Ran
tried None tested changed action doc = acted changed action doc
tried (Some test) tested changed action doc = behind (call test doc ∷ []) (judged (tested test doc) changed action doc)

-- ---- a list of processors

-- what comes behind the list for a failure
abbrev pub recovered : Made → (DocData → Ran) → Ran
recovered (Gives doc) rest = rest doc
recovered (Drops doc) rest = still (Drops doc)
recovered (Fails error) rest = still (Fails error)

-- what comes of a failure of a processor, over the document as it was before the processor
abbrev pub failed_on : Follows → Data → DocData → (DocData → Ran) → (DocData → Ran) → Ran
failed_on follows.Fails error before on_failure rest = still (Fails error)
failed_on follows.Ignored error before on_failure rest = rest before
failed_on follows.Recovers error before on_failure rest = behind (on_failure before).calls (recovered (on_failure before).made rest)

abbrev pub followed : Made → Follows → DocData → (DocData → Ran) → (DocData → Ran) → Ran
followed (Gives doc) follows before on_failure rest = rest doc
followed (Drops doc) follows before on_failure rest = still (Drops doc)
followed (Fails error) follows before on_failure rest = failed_on follows error before on_failure rest

-- a document through one processor and what follows it
abbrev pub through : (ℕ → DocData → Judged) → (ℕ → DocData → Edited) → Processors-F (DocData → Ran) → DocData → Ran
through tested changed Processors-F.End doc = still (Gives doc)
through tested changed (Processors-F.Then guard action on_failure rest) doc =
    let one = tried guard.test tested changed action doc in behind one.calls (followed one.made guard.follows doc on_failure rest)

-- what a list of processors makes of a document
abbrev pub piped : (ℕ → DocData → Judged) → (ℕ → DocData → Edited) → Processors → DocData → Ran
piped tested changed processors = fold-Processors (DocData → Ran) (through tested changed) processors

-- ---- what calls cost

-- a count stands still at the end of its type
abbrev pub counted : ℕ → ℕ → ℕ
counted spent more = min (spent + more) (2 ^ 64 - 1)

abbrev pub paid : (ℕ → DocData → ℕ) → List Call → ℕ → ℕ
paid cost [] spent = spent
paid cost (one ∷ more) spent = paid cost more (counted spent (cost one.script one.doc))
