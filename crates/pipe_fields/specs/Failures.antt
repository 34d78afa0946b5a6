-- What changing a document has answered.
use Rattle.std.specs.Prelude.{◌≡◌, ℕ, List, None, Result, Ok, Err, ⊤}
use Rattle.serde_json.specs.Data.{Data}
use Rattle.serde_json.specs.Find.{as_str}
use Rattle.serde_json.specs.View.{view}
use Rattle.pipe_fields.specs.declared.document.IngestDoc.{IngestDoc}
use Rattle.pipe_fields.specs.declared.failure.EditErr.{EditErr}
use Rattle.pipe_fields.specs.declared.failure.EditErr.TheVariants as e
use Rattle.pipe_fields.specs.declared.failure.FieldFault.{FieldFault}
use Rattle.pipe_fields.specs.declared.failure.FieldFault.TheVariants as fault
use Rattle.pipe_fields.specs.Documents.{doc_view}
use Rattle.pipe_fields.specs.Edits.{Edited, Becomes, Errs, error_of}

-- An error is that of a fault at a field. Want of memory is free.
abbrev pub IsErrorOf : FieldFault → List ℕ → EditErr → Type 0
IsErrorOf kind text (e.Failed error) = view error ≡ error_of kind text
IsErrorOf kind text e.NoMemory = Unit {0}

-- An error is that of a value at the index or the id that is no text. Want of memory is free.
abbrev pub IsNoText : List ℕ → Data → EditErr → Type 0
IsNoText name d (e.Failed error) = (as_str d ≡ None) × (view error ≡ error_of fault.Type name)
IsNoText name d e.NoMemory = Unit {0}

-- It failed as the definition says, and the document is as it was.
abbrev pub FailsBy : Edited → IngestDoc → IngestDoc → EditErr → Type 0
FailsBy meaning old new (e.Failed error) = (meaning ≡ Errs (view error)) × (new ≡ old)
FailsBy meaning old new e.NoMemory = Unit {0}

-- A document was changed to what the definition says, or it is as it was and the error is that of the definition. Want of
-- memory is free.
abbrev pub IsEdited : Edited → IngestDoc → IngestDoc → Result ⊤ EditErr → Type 0
IsEdited meaning old new (Ok unit) = meaning ≡ Becomes (doc_view new)
IsEdited meaning old new (Err error) = FailsBy meaning old new error
