-- The reply to what a line is bound to.
use Rattle.std.proofs.Common.{◌≡◌, ℕ, Bool, List, IfOk, Result, Ok, Err, sym, ap, ◌∙◌, subst}
use Rattle.serde_json.specs.Data.{Data}
use Rattle.allowlist.specs.Allow.{AllowList}
use Rattle.json_bridge.specs.Starts.{Start, Fault, Answered}
use Rattle.json_bridge.specs.declared.error.BindErr.{BindErr}
use Rattle.json_replies.specs.Replies.{is_error, line_of}
use Rattle.line_run.specs.Replies.{Reply}
use Rattle.line_run.specs.declared.replier.ReplyLine.{ReplyLine}
use Rattle.line_run.specs.Shown.{reply_shown}
use Rattle.document_replies.specs.Jobs.{Binds}
use Rattle.document_replies.specs.Replies.{Context, Ended, IsReplyTo, as_line_after, reply_to_run}

-- a reply to one of two starts that are the same is one to the other
pub replied : {E : Type 0} (allow : AllowList) (context : Context) (Ends : Start → Ended → Type 0) (found start : Result Start Fault) (result : Result ReplyLine E)
    → found ≡ start → IfOk result (λ (reply : ReplyLine). IsReplyTo allow context Ends start (reply_shown reply)) → IfOk result (λ (reply : ReplyLine). IsReplyTo allow context Ends found (reply_shown reply))
replied allow context Ends found start result same replies =
    subst (λ (s : Result Start Fault). IfOk result (λ (reply : ReplyLine). IsReplyTo allow context Ends s (reply_shown reply))) (sym same) replies

-- the reply to a run is one to its start, of which this is kept
pub ran_replied : {E K : Type 0} (allow : AllowList) (context : Context) (keeps : Start → K → Type 0) (Ends : Start → Ended → Type 0) (start : Start) (kept : K) (ran : Ended) (result : Result ReplyLine E)
    → keeps start kept → Ends start ran → IfOk result (λ (reply : ReplyLine). (from : Start) → keeps from kept → reply_shown reply ≡ reply_to_run allow context from ran)
    → IfOk result (λ (reply : ReplyLine). IsReplyTo allow context Ends (Ok start) (reply_shown reply))
ran_replied allow context keeps Ends start kept ran (Ok reply) has ends replies = (ran, ends, replies start has)
ran_replied allow context keeps Ends start kept ran (Err error) has ends replies = tt

abbrev reply_with : List ℕ → Bool → ℕ → Reply
reply_with text error steps = record { bytes = text; error = error; steps = steps }

-- a reply line by its parts
pub line_told : (text : List ℕ) (error : Bool) (steps : ℕ) (d : Data) → text ≡ line_of d → error ≡ is_error d → reply_with text error steps ≡ as_line_after steps d
line_told text error steps d is at = ap (λ (t : List ℕ). reply_with t error steps) is ∙ ap (λ (b : Bool). reply_with (line_of d) b steps) at

-- what is wrong with a line that is not bound
pub not_bound : {K : Type 0} (keeps : Start → K → Type 0) (error : BindErr) (meaning : Result Start Fault) → Binds keeps (Err error) meaning → Answered (Err error) meaning
not_bound keeps error meaning h = h

-- what holds of every line that comes is told of every start
pub whatever_start : {X E : Type 0} (result : Result X E) (P : X → Type 0) → IfOk result P → IfOk result (λ (x : X). (from : Start) → Unit {0} → P x)
whatever_start (Ok x) P h = λ from kept. h
whatever_start (Err error) P h = tt
