-- What reading a line has answered, and what is taken out of a value.
use Rattle.std.proofs.Common.{◌≡◌, ◌∙◌, ℕ, Bool, true, false, List, Option, Some, None, Result, Ok, Err, IfOk, String, BTreeMap, Global, string_bytes, nat_cmp, option_map, refl, sym, ap, subst, if◌then◌else◌}
use Rattle.std.proofs.lemmas.Str.{IsUtf8-from_is_utf8, is_utf8-from_IsUtf8}
use Rattle.std.specs.Str.{IsUtf8, is_utf8}
use Rattle.std.specs.BTreeMap.{is_at}
use Rattle.std.specs.Cmp.Lexicographic.{slice_cmp}
use Rattle.std.specs.Map.{lookup}
use Rattle.serde_json.specs.Find.{get}
use Rattle.serde_json.specs.Read.{read}
use Rattle.serde_json.specs.View.{view}
use Rattle.serde_json.specs.declared.value.Value.{Value as Json, Object}
use Rattle.serde_json.proofs.Views.{view-Object, view-lookup}
use Rattle.json_bridge.specs.Starts.{syntax}
use Rattle.json_bridge.specs.declared.error.BindErr.{BindErr}
use Rattle.ingest_pipe.specs.pipe_fields_declared.document.IngestDoc.{IngestDoc}
use Rattle.ingest_pipe.specs.Documents.{DocData, doc_view}
use Rattle.std.specs.declared.alloc.AllocError.{AllocError}
use Rattle.serde_json.specs.Data.{Data}
use Rattle.line_run.specs.declared.replier.ReplyLine.{ReplyLine}
use Rattle.line_run.specs.Shown.{reply_shown}
use Rattle.document_replies.specs.Replies.{as_line_after}
use Rattle.ingest_pipe.specs.declared.processors.Processors.{Processors}
use Rattle.ingest_pipe.specs.declared.running.PipeEnd.{PipeEnd}
use Rattle.ingest_pipe.specs.declared.running.PipeEnd.TheVariants as e
use Rattle.ingest_pipe.specs.Answers.{Ends, IsRan}
use Rattle.ingest_pipe.specs.Running.{Meaning, Made, Gives, Drops, Fails, Ran, paid, piped}
use Rattle.pipe_job.specs.Documents.{doc_in, doc_read, end_reply}
use Rattle.pipe_job.specs.Lines.{IsDocument, IsMade, made_in}
use Rattle.pipe_job.specs.Replies.{reply_to_ran, whole_reply}

pub member_taken : (name : List ℕ) (line : Json) (m : BTreeMap (String Global) Json) (taken : Option Json) → line ≡ Object m
    → taken ≡ lookup (is_at (λ (k : String Global). slice_cmp nat_cmp name (string_bytes k))) m.entries → option_map view taken ≡ get name (view line)
member_taken name line m taken is e =
    ap (option_map view) e ∙ view-lookup name m.entries ∙ ap (get name) (sym (view-Object m)) ∙ ap (λ (v : Json). get name (view v)) (sym is)

contradicts : {b : Bool} → b ≡ true → b ≡ false → ⊥
contradicts holds fails = cc

-- what is answered by whether a line is UTF-8
pub document_by : (line : List ℕ) (result : Result IngestDoc BindErr) → (IsUtf8 line → IsDocument (doc_read (read line)) result) → ((IsUtf8 line → ⊥) → IsDocument (Err syntax) result)
    → IsDocument (doc_in line) result
document_by line result text bytes = by (is_utf8 line) refl where
  Meaning : Bool → Type 0
  Meaning b = IsDocument (if b then doc_read (read line) else Err syntax) result

  by : (b : Bool) → is_utf8 line ≡ b → Meaning (is_utf8 line)
  by true is = subst Meaning (sym is) (text (IsUtf8-from_is_utf8 line is))
  by false is = subst Meaning (sym is) (bytes (λ utf8. contradicts (is_utf8-from_IsUtf8 line utf8) is))

-- ---- the end of a pipeline

-- the line of a reply is that of the end
pub end_told : (result : Result ReplyLine AllocError) (steps : ℕ) (told reply : Data) (made : Option Made) → IsMade made (λ one. told ≡ end_reply one) → reply ≡ whole_reply told
    → IfOk result (λ line. reply_shown line ≡ as_line_after steps reply) → IfOk result (λ line. IsMade made (λ one. reply_shown line ≡ as_line_after steps (whole_reply (end_reply one))))
end_told (Ok line) steps told reply (Some made) is whole shown = shown ∙ ap (as_line_after steps) (whole ∙ ap whole_reply is)
end_told (Ok line) steps told reply None is whole shown = absurd is
end_told (Err error) steps told reply made is whole shown = tt

module _ {R : Type 0} (meant : R → Meaning → Type 0) (spent : R → ℕ) (processors : Processors) (doc : DocData) (old new : R) (fresh : spent old ≡ 0) where
  ran_told : (m : Meaning) (ran : Ran) (made : Made) → IsRan meant spent m ran old new made → as_line_after (spent new) (whole_reply (end_reply made)) ≡ reply_to_ran m ran
  ran_told m ran made is =
      ap (λ (n : ℕ). as_line_after n (whole_reply (end_reply made))) (is.asked.pays ∙ ap (paid m.cost ran.calls) fresh)
      ∙ ap (λ (one : Made). as_line_after (paid m.cost ran.calls 0) (whole_reply (end_reply one))) (sym is.is)

  by_end : (line : ReplyLine) (m : Meaning) (end : PipeEnd) → Ends meant spent m processors doc old new end
      → IsMade (made_in end) (λ made. reply_shown line ≡ as_line_after (spent new) (whole_reply (end_reply made))) → reply_shown line ≡ reply_to_ran m (piped m.tested m.changed processors doc)
  by_end line m (e.Kept kept) ran is = is ∙ ran_told m (piped m.tested m.changed processors doc) (Gives (doc_view kept)) ran
  by_end line m (e.Dropped dropped) ran is = is ∙ ran_told m (piped m.tested m.changed processors doc) (Drops (doc_view dropped)) ran
  by_end line m (e.Failed error) ran is = is ∙ ran_told m (piped m.tested m.changed processors doc) (Fails (view error)) ran
  by_end line m e.NoMemory ran is = absurd is

  -- what is told of a document is what its pipeline makes of it, by each meaning
  pub document_told : (Has : Meaning → Type 0) → ((m : Meaning) → Has m → meant old m) → (end : PipeEnd) → ((m : Meaning) → meant old m → Ends meant spent m processors doc old new end)
      → (result : Result ReplyLine AllocError) → IfOk result (λ line. IsMade (made_in end) (λ made. reply_shown line ≡ as_line_after (spent new) (whole_reply (end_reply made))))
      → IfOk result (λ line. (m : Meaning) → Has m → reply_shown line ≡ reply_to_ran m (piped m.tested m.changed processors doc))
  document_told Has to end ends (Ok line) is = λ m has. by_end line m end (ends m (to m has)) is
  document_told Has to end ends (Err error) is = tt
