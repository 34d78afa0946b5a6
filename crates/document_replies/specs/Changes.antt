-- The contexts of documents that a script changes: a line says which document it is, `ctx` is bound beside the params, and what a run leaves of
-- `ctx` is its reply.
use Rattle.std.specs.Prelude.{ℕ, List, Result, Err, slice_get, unwrap_or, if◌then◌else◌}
use Rattle.std.specs.Str.{is_utf8}
use Rattle.serde_json.specs.Data.{Data}
use Rattle.serde_json.specs.Read.{read}
use Rattle.object_values.specs.declared.value.Value.{Value}
use Rattle.object_values.specs.declared.value.Value.TheVariants as v
use Rattle.json_bridge.specs.Starts.{Start, Fault, syntax}
use Rattle.write_ctx.specs.declared.keys.WriteKind.{WriteKind}
use Rattle.write_ctx.specs.Lines.{bound_line}
use Rattle.write_ctx.specs.Replies.{reply_of}
use Rattle.json_replies.specs.declared.showing.ShownKeys.{ShownKeys}
use Rattle.document_replies.specs.Replies.{Context, Ended}

-- what a job says of its documents
pub record Changes : Type 0 where
  pub kind : WriteKind
  pub params : Data
  pub room : ℕ

-- with what a run over a line starts, or what is wrong with it; a line that is no UTF-8 is no JSON
abbrev pub change_start : Changes → List ℕ → Result Start Fault
change_start changes line = if is_utf8 line then bound_line changes.kind changes.params changes.room (read line) else Err syntax

-- the value of `ctx`, which stands behind the params
abbrev pub ctx_in : List Value → Value
ctx_in args = unwrap_or (slice_get args 1) v.Null

-- the reply to a run depends on its end and on what it leaves of the map that its start bound to `ctx`
abbrev pub change_reply : Changes → Start → Ended → Data
change_reply changes start ran = reply_of changes.kind (ctx_in start.args) ran.end ran.objects

abbrev pub change_context : Changes → ShownKeys → Context
change_context changes keys = record { start = change_start changes; reply = change_reply changes; keys = keys }
