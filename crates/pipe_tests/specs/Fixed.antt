-- What scripts say and make whose answers are fixed.
use Rattle.std.specs.Prelude.{◌≡◌, ℕ, List, codes, slice_get, unwrap_or, if◌then◌else◌}
use Rattle.std.specs.Str.{bytes_eq}
use Rattle.serde_json.specs.Data.{Data, string}
use Rattle.pipe_fields.specs.Documents.{DocData}
use Rattle.pipe_fields.specs.Edits.{Edited, Becomes, Errs}
use Rattle.ingest_pipe.specs.Running.{Judged, Holds, Lacks, TestErrs, Meaning}
use Rattle.pipe_tests.specs.declared.fixed.Says.{Says}
use Rattle.pipe_tests.specs.declared.fixed.Says.TheVariants as says

abbrev pub marked : List ℕ
marked = codes "marked"

-- the error of a script that fails
abbrev pub error : Data
error = string (codes "fails")

-- what a test says of a document
abbrev pub judged_by : Says → DocData → Judged
judged_by says.Holds doc = Holds
judged_by says.Lacks doc = Lacks
judged_by says.HoldsOfMarked doc = if bytes_eq doc.index marked then Holds else Lacks
judged_by says.Marks doc = Lacks
judged_by says.Fails doc = TestErrs error

-- what a script makes of a document
abbrev pub edited_by : Says → DocData → Edited
edited_by says.Holds doc = Becomes doc
edited_by says.Lacks doc = Becomes doc
edited_by says.HoldsOfMarked doc = Becomes doc
edited_by says.Marks doc = Becomes (record doc { index = marked })
edited_by says.Fails doc = Errs error

-- what a script says: one of which nothing is said does not hold, and makes nothing of a document
abbrev pub says_at : List Says → ℕ → Says
says_at scripts script = unwrap_or (slice_get scripts script) says.Lacks

abbrev pub judged_in : List Says → ℕ → DocData → Judged
judged_in scripts script doc = judged_by (says_at scripts script) doc

abbrev pub edited_in : List Says → ℕ → DocData → Edited
edited_in scripts script doc = edited_by (says_at scripts script) doc

-- what such scripts mean, where each call costs so much
pub record FixedMeans (scripts : List Says) (cost : ℕ) (m : Meaning) : Type 0 where
  pub tested : m.tested ≡ judged_in scripts
  pub changed : m.changed ≡ edited_in scripts
  pub costs : (script : ℕ) (doc : DocData) → m.cost script doc ≡ cost
