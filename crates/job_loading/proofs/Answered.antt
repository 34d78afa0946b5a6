-- What reading a job or an allowlist answered is what is told of its bytes.
use Rattle.std.proofs.Common.{◌≡◌, ℕ, Bool, true, false, List, Option, Some, None, IfSome, Result, Ok, Err, refl, sym, ap, ◌∙◌, string_bytes}
use Rattle.std.specs.Str.{IsUtf8, is_utf8}
use Rattle.std.proofs.lemmas.Str.{IsUtf8-from_is_utf8, is_utf8-from_IsUtf8}
use Rattle.serde_json.specs.Data.{Data}
use Rattle.serde_json.specs.Read.{read}
use Rattle.allowlist.specs.Allow.{AllowList}
use Rattle.allowlist.specs.Answers.{ReadAnswers}
use Rattle.allowlist.specs.Files as list
use Rattle.allowlist.specs.declared.error.AllowErr.{AllowErr}
use Rattle.allowlist.specs.declared.error.AllowErr.TheVariants as a
use Rattle.job_file.specs.Answers.{Answered, job_view, fields_view}
use Rattle.job_file.specs.declared.context.JobCommand.{JobCommand}
use Rattle.job_file.specs.declared.error.JobErr.{JobErr}
use Rattle.job_file.specs.declared.error.JobErr.TheVariants as j
use Rattle.job_file.specs.declared.job.Job.{Job}
use Rattle.job_file.specs.Jobs.{JobData, Fault, syntax, field, range, mapping, job_of_read, object_of}
use Rattle.json_replies.specs.Replies.{line_of}
use Rattle.job_replies.specs.Refusals.{job_refusal, list_refusal}
use Rattle.search_ctx.specs.Fields.{HasDistinctNames}
use Rattle.search_ctx.specs.Laws.{JobFieldsAreDistinct}
use Rattle.command_parts.specs.declared.status.Status.TheVariants as s
use Rattle.command_parts.specs.declared.stop.Stop.{Stop}
use Rattle.command_parts.specs.Stops.{ComesSo, stop_told}
use Rattle.command_parts.specs.Told.{Told, uncounted}
use Rattle.job_loading.specs.Loading.{refusal, job_in_bytes, job_told, list_told}
use Rattle.job_loading.specs.Seen.{RefusesJob, RefusesList}

contradicts : {b : Bool} → b ≡ true → b ≡ false → ⊥
contradicts holds fails = cc

-- what bytes come to
pub job_answered : (result : Result Job JobErr) (command : JobCommand) (bytes : List ℕ) → (IsUtf8 bytes → Answered job_view result (job_of_read command (object_of (read bytes))))
    → ((IsUtf8 bytes → ⊥) → Answered job_view result (Err syntax)) → Answered job_view result (job_in_bytes command bytes)
job_answered result command bytes text none = by (is_utf8 bytes) refl where
  by : (b : Bool) → is_utf8 bytes ≡ b → Answered job_view result (job_in_bytes command bytes)
  by true is = rw is (text (IsUtf8-from_is_utf8 bytes is))
  by false is = rw is (none (λ u. contradicts (is_utf8-from_IsUtf8 bytes u) is))

-- a job that is read has no field twice in its mapping
pub distinct_read : JobFieldsAreDistinct → (job : Job) (command : JobCommand) (bytes : List ℕ) → (IsUtf8 bytes → Answered job_view (Ok job) (job_of_read command (object_of (read bytes))))
    → ((IsUtf8 bytes → ⊥) → Answered job_view (Ok job) (Err syntax)) → HasDistinctNames (fields_view job.mapping.fields.items)
distinct_read law job command bytes text none = by (is_utf8 bytes) refl where
  by : (b : Bool) → is_utf8 bytes ≡ b → HasDistinctNames (fields_view job.mapping.fields.items)
  by true is = law command bytes (job_view job) (text (IsUtf8-from_is_utf8 bytes is))
  by false is = (let e : Err syntax ≡ Ok (job_view job) = none (λ u. contradicts (is_utf8-from_IsUtf8 bytes u) is) in cc)

-- what is told of a job that was read
pub job_read : (meaning : Result JobData Fault) (job : JobData) → meaning ≡ Ok job → job_told meaning ≡ Ok job
job_read meaning job is = ap job_told is

-- two ways to tell the same
told_same : (told : Told) (d : Data) → told ≡ uncounted s.Refused told.bytes → told.bytes ≡ line_of d → refusal d ≡ told
told_same told d is bytes = ap (uncounted s.Refused) (sym bytes) ∙ sym is

refused_so : (told : Option Told) (meaning : Result JobData Fault) (fault : Fault) → meaning ≡ Err fault
    → IfSome told (λ t. (t ≡ uncounted s.Refused t.bytes) × (t.bytes ≡ line_of (job_refusal fault))) → IfSome told (λ t. job_told meaning ≡ Err t)
refused_so None meaning fault is h = tt
refused_so (Some t) meaning fault is h = rw is (ap Err (told_same t (job_refusal fault) h.0 h.1))

never : (P : Told → Type 0) (told : Option Told) → IfSome told (λ t. (t ≡ uncounted s.Refused t.bytes) × ⊥) → IfSome told P
never P None h = tt
never P (Some t) h = absurd h.1

pub job_stops : (error : JobErr) (stop : Stop) (meaning : Result JobData Fault) → Answered job_view (Err error) meaning → RefusesJob error stop
    → ComesSo job_view (Err stop) (job_told meaning)
job_stops j.Syntax stop meaning is h = refused_so (stop_told stop) meaning syntax is h
job_stops (j.Field key) stop meaning is h = refused_so (stop_told stop) meaning (field (string_bytes key)) is h
job_stops (j.Range key) stop meaning is h = refused_so (stop_told stop) meaning (range (string_bytes key)) is h
job_stops (j.Mapping name) stop meaning is h = refused_so (stop_told stop) meaning (mapping (string_bytes name)) is h
job_stops j.NoMemory stop meaning is h = never _ (stop_told stop) h

list_refused_so : (told : Option Told) (meaning : Result AllowList list.Fault) (fault : list.Fault) → meaning ≡ Err fault
    → IfSome told (λ t. (t ≡ uncounted s.Refused t.bytes) × (t.bytes ≡ line_of (list_refusal fault))) → IfSome told (λ t. list_told meaning ≡ Err t)
list_refused_so None meaning fault is h = tt
list_refused_so (Some t) meaning fault is h = rw is (ap Err (told_same t (list_refusal fault) h.0 h.1))

pub list_stops : (error : AllowErr) (stop : Stop) (meaning : Result AllowList list.Fault) → ReadAnswers (λ (allow : AllowList). allow) (Err error) meaning → RefusesList error stop
    → ComesSo (λ (allow : AllowList). allow) (Err stop) (list_told meaning)
list_stops (a.Syntax at) stop meaning is h = list_refused_so (stop_told stop) meaning (list.Syntax at) is h
list_stops (a.Unknown at) stop meaning is h = list_refused_so (stop_told stop) meaning (list.Unknown at) is h
list_stops a.NoMemory stop meaning is h = never _ (stop_told stop) h
