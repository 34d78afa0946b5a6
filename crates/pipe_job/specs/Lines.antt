-- What reading a document has answered, and how a pipeline has ended.
use Rattle.std.specs.Prelude.{◌≡◌, Option, Some, None, Result, Ok, Err}
use Rattle.serde_json.specs.View.{view}
use Rattle.json_bridge.specs.Starts.{Fault, syntax, number_outside, field}
use Rattle.json_bridge.specs.declared.error.BindErr.{BindErr}
use Rattle.json_bridge.specs.declared.error.BindErr.TheVariants as b
use Rattle.ingest_pipe.specs.pipe_fields_declared.document.IngestDoc.{IngestDoc}
use Rattle.ingest_pipe.specs.Documents.{DocData, doc_view}
use Rattle.ingest_pipe.specs.declared.running.PipeEnd.{PipeEnd}
use Rattle.ingest_pipe.specs.declared.running.PipeEnd.TheVariants as e
use Rattle.ingest_pipe.specs.Running.{Made, Gives, Drops, Fails}

-- The document is what is meant, or the error is what is wrong. Want of memory is free.
abbrev pub IsDocument : Result DocData Fault → Result IngestDoc BindErr → Type 0
IsDocument meaning (Ok doc) = meaning ≡ Ok (doc_view doc)
IsDocument meaning (Err b.Syntax) = meaning ≡ Err syntax
IsDocument meaning (Err b.Number) = meaning ≡ Err number_outside
IsDocument meaning (Err b.Field) = meaning ≡ Err field
IsDocument meaning (Err b.NoMemory) = Unit {0}

-- what a pipeline has made; nothing where memory was wanting
abbrev pub made_in : PipeEnd → Option Made
made_in (e.Kept doc) = Some (Gives (doc_view doc))
made_in (e.Dropped doc) = Some (Drops (doc_view doc))
made_in (e.Failed error) = Some (Fails (view error))
made_in e.NoMemory = None

-- it has made something, and that is so
abbrev pub IsMade : Option Made → (Made → Type 0) → Type 0
IsMade (Some made) P = P made
IsMade None P = ⊥
