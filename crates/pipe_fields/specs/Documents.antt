-- A document of a pipeline as plain data.
use Rattle.std.specs.Prelude.{ℕ, List, string_bytes}
use Rattle.serde_json.specs.Data.{Data}
use Rattle.serde_json.specs.View.{view}
use Rattle.pipe_fields.specs.declared.document.IngestDoc.{IngestDoc}

-- the bytes of its index and its id, and its source
pub record DocData : Type 0 where
  pub index : List ℕ
  pub id : List ℕ
  pub source : Data

abbrev pub doc_view : IngestDoc → DocData
doc_view doc = record { index = string_bytes doc.index; id = string_bytes doc.id; source = view doc.source }
