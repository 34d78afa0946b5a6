-- The document of a line, what the reply of a script says of a document, and how a document is told.
use Rattle.std.specs.Prelude.{ℕ, Bool, true, false, List, [], Option, Some, None, Result, Ok, Err, codes, option_and_then, unwrap_or, if◌then◌else◌}
use Rattle.std.specs.Str.{is_utf8}
use Rattle.serde_json.specs.Data.{Data, null}
use Rattle.serde_json.specs.Find.{get, as_bool, as_str}
use Rattle.serde_json.specs.Read.{read}
use Rattle.json_bridge.specs.Starts.{Fault, syntax, number_outside, field}
use Rattle.json_replies.specs.Replies.{only}
use Rattle.job_file.specs.Values.{has_whole_numbers}
use Rattle.ingest_pipe.specs.Documents.{DocData}
use Rattle.ingest_pipe.specs.Edits.{Edited, Becomes, Errs}
use Rattle.ingest_pipe.specs.Running.{Judged, Holds, Lacks, TestErrs, Made, Gives, Drops, Fails}
use Rattle.write_ctx.specs.Keys.{is_line}
use Rattle.write_ctx.specs.Replies.{document_reply, plain_reply}
use Rattle.write_ctx.specs.declared.keys.WriteKind.TheVariants as kind

-- ---- documents

abbrev pub text_at : List ℕ → List ℕ → Data → List ℕ
text_at name default d = unwrap_or (option_and_then as_str (get name d)) default

-- the document of a line of an ingest; its index and its id have defaults
abbrev pub doc_of : Data → DocData
doc_of d = record { index = text_at (codes "_index") (codes "docs") d; id = text_at (codes "_id") [] d; source = unwrap_or (get (codes "_source") d) null }

abbrev pub doc_read : Option Data → Result DocData Fault
doc_read None = Err syntax
doc_read (Some d) = if has_whole_numbers d then (if is_line kind.Ingest d then Ok (doc_of d) else Err field) else Err number_outside

-- the document of a line, or what is wrong with it; a line that is no UTF-8 is no JSON
abbrev pub doc_in : List ℕ → Result DocData Fault
doc_in line = if is_utf8 line then doc_read (read line) else Err syntax

-- the line of a document, as scripts are given it
abbrev pub line_of_doc : DocData → Data
line_of_doc doc = document_reply doc.id doc.index (Ok doc.source)

-- ---- what the reply of a script says

abbrev pub judged_in : Option Data → Bool → Judged
judged_in (Some error) holds = TestErrs error
judged_in None true = Holds
judged_in None false = Lacks

-- of a test: the error, or whether the result is true
abbrev pub judged_by : Data → Judged
judged_by reply = judged_in (get (codes "error") reply) (unwrap_or (option_and_then as_bool (get (codes "result") reply)) false)

abbrev pub edited_in : Option Data → Data → Edited
edited_in (Some error) reply = Errs error
edited_in None reply = Becomes (doc_of reply)

-- of a change: the error, or the document
abbrev pub edited_by : Data → Edited
edited_by reply = edited_in (get (codes "error") reply) reply

-- ---- how the end of a pipeline is told

abbrev pub end_reply : Made → Data
end_reply (Gives doc) = line_of_doc doc
end_reply (Drops doc) = plain_reply doc.id (codes "drop")
end_reply (Fails error) = only (codes "error") error
