-- The contexts over documents: a line is a document, which is bound beside the params, and every end but a score below 0 is told as that of
-- a script.
use Rattle.std.specs.Prelude.{◌≡◌, ℕ, ℤ, List, [], ◌∷◌, Result, Err, if◌then◌else◌}
use Rattle.std.specs.Str.{is_utf8}
use Rattle.serde_json.specs.Data.{Data}
use Rattle.serde_json.specs.Read.{read}
use Rattle.serde_json.specs.View.{view}
use Rattle.object_values.specs.declared.value.Value.{Value}
use Rattle.object_values.specs.declared.value.Value.TheVariants as v
use Rattle.job_file.specs.declared.mapping.FieldKind.{FieldKind}
use Rattle.json_bridge.specs.Starts.{Start, Fault, syntax}
use Rattle.search_ctx.specs.declared.line.SearchKind.{SearchKind}
use Rattle.search_ctx.specs.declared.line.SearchKind.TheVariants as k
use Rattle.search_ctx.specs.Lines.{bound_line}
use Rattle.json_replies.specs.Searching.{search_reply_of}
use Rattle.json_replies.specs.declared.showing.ShownKeys.{ShownKeys}
use Rattle.document_replies.specs.declared.search.SearchContext.{SearchContext}
use Rattle.document_replies.specs.Replies.{Context, Ended}

-- what a job says of its documents
pub record Documents : Type 0 where
  pub kind : SearchKind
  pub fields : List (List ℕ × FieldKind)
  pub params : Data
  pub room : ℕ

-- with what a run over a line starts, or what is wrong with it; a line that is no UTF-8 is no JSON
abbrev pub start_of : Documents → List ℕ → Result Start Fault
start_of documents line = if is_utf8 line then bound_line documents.kind documents.fields documents.params documents.room (read line) else Err syntax

-- the reply to a run depends on its end alone
abbrev pub reply_of : Documents → Start → Ended → Data
reply_of documents start ran = search_reply_of documents.kind ran.end ran.objects

abbrev pub search_context : Documents → ShownKeys → Context
search_context documents keys = record { start = start_of documents; reply = reply_of documents; keys = keys }

-- the documents of a context of the code
abbrev pub documents_of : SearchContext → Documents
documents_of context = record { kind = context.kind; fields = context.fields; params = view context.params.json; room = context.room }

-- the arguments of a kind: the params and the document, and the score
abbrev pub HasArguments : SearchKind → List Value → Type 0
HasArguments k.Filter args = (params : Value) × (doc : Value) × (args ≡ params ∷ doc ∷ [])
HasArguments k.Score args = (params : Value) × (doc : Value) × (score : ℤ) × (args ≡ params ∷ doc ∷ v.Long score ∷ [])
HasArguments k.Field args = (params : Value) × (doc : Value) × (args ≡ params ∷ doc ∷ [])
