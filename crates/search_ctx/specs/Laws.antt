-- What placing and binding keep: where the heap fits a program or a code, it fits it afterwards, and so do the values. And fields
-- with names of their own, as those of a mapping that is read, stand as they are given.
use Rattle.std.specs.Prelude.{◌≡◌, ℕ, List, [], length, Some, Result, Ok, Err}
use Rattle.serde_json.specs.Data.{Data}
use Rattle.serde_json.specs.Read.{read}
use Rattle.object_values.specs.declared.object.Object.{Object}
use Rattle.object_heap.specs.Fits.{Rules, ValueFits, AllFit, Fits}
use Rattle.job_file.specs.declared.mapping.FieldKind.{FieldKind}
use Rattle.job_file.specs.declared.context.JobCommand.{JobCommand}
use Rattle.job_file.specs.Jobs.{JobData, job_of_read, object_of}
use Rattle.job_file.specs.Mappings.{fields_of, members_of}
use Rattle.search_ctx.specs.declared.values.FieldValues.{FieldValues}
use Rattle.search_ctx.specs.declared.line.SearchKind.{SearchKind}
use Rattle.search_ctx.specs.Fields.{HasDistinctNames, with_fields}
use Rattle.search_ctx.specs.Placing.{doc_placed}
use Rattle.json_bridge.specs.Starts.{Start, Fault}
use Rattle.search_ctx.specs.Lines.{bound_document}

abbrev pub PlacingFits : Type 0
PlacingFits = (rules : Rules) (objects : List Object) (fields : List (List ℕ × FieldKind)) (doc : List FieldValues) → Fits rules objects
    → Fits rules (doc_placed objects fields doc).objects × ValueFits (length (doc_placed objects fields doc).objects) (doc_placed objects fields doc).value

-- the store of a start fits, and its arguments are values of that store
abbrev pub StartFits : Rules → Result Start Fault → Type 0
StartFits rules (Ok start) = Fits rules start.store.objects × AllFit (length start.store.objects) start.args
StartFits rules (Err fault) = Unit {0}

abbrev pub LinesFit : Type 0
LinesFit = (rules : Rules) (kind : SearchKind) (fields : List (List ℕ × FieldKind)) (params : Data) (room : ℕ) (d : Data)
    → StartFits rules (bound_document kind fields params room d)

abbrev pub FieldsStay : Type 0
FieldsStay = (fields : List (List ℕ × FieldKind)) → HasDistinctNames fields → with_fields [] fields ≡ fields

-- in a mapping that is read no name stands twice
abbrev pub ReadFieldsAreDistinct : Type 0
ReadFieldsAreDistinct = (text : List ℕ) (d : Data) → read text ≡ Some d → HasDistinctNames (fields_of (members_of d))

-- the same of the mapping of a job that is read
abbrev pub JobFieldsAreDistinct : Type 0
JobFieldsAreDistinct = (command : JobCommand) (text : List ℕ) (job : JobData) → job_of_read command (object_of (read text)) ≡ Ok job → HasDistinctNames job.mapping
