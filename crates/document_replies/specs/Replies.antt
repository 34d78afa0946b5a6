-- What a line of a job over lines is told: its reply, from what the job's context says of lines and of runs over them.
use Rattle.std.specs.Prelude.{◌≡◌, ℕ, ◌==◌, ◌&&◌, ◌||◌, Bool, true, false, List, [], ◌∷◌, Result, Ok, Err}
use Rattle.serde_json.specs.Data.{Data}
use Rattle.outer_io.specs.Lines.{InputLine, Within, Beyond, Nothing}
use Rattle.allowlist.specs.Allow.{AllowList}
use Rattle.object_values.specs.declared.object.Object.{Object}
use Rattle.object_heap.specs.declared.outcome.End.{End}
use Rattle.json_bridge.specs.Starts.{Start, Fault, syntax, number_outside, field}
use Rattle.json_replies.specs.Replies.{is_error, line_of}
use Rattle.json_replies.specs.Showing.{shown_reply}
use Rattle.json_replies.specs.declared.showing.ShownKeys.{ShownKeys}
use Rattle.job_replies.specs.declared.line_fault.LineFault.{LineFault}
use Rattle.job_replies.specs.declared.line_fault.LineFault.TheVariants as fault
use Rattle.job_replies.specs.Refusals.{line_error}
use Rattle.line_run.specs.Replies.{Reply, no_reply}

-- what a run leaves: its end, the objects, the members that were called, by their first calls, and how many instructions were run
pub record Ended : Type 0 where
  pub end : End
  pub objects : List Object
  pub reached : List ℕ
  pub steps : ℕ

-- What a context is: how a line is bound, how the end of a run over it is answered, and what is shown beside the answer.
pub record Context : Type 0 where
  -- with what the run over a line starts, or what is wrong with the line
  pub start : List ℕ → Result Start Fault
  -- the reply to a run, by its start and by what it leaves
  pub reply : Start → Ended → Data
  pub keys : ShownKeys

-- ---- lines

-- a space, a tab or a carriage return
abbrev pub is_blank_byte : ℕ → Bool
is_blank_byte byte = (byte == 32) || (byte == 9) || (byte == 13)

-- nothing else
abbrev pub is_blank : List ℕ → Bool
is_blank [] = true
is_blank (byte ∷ bytes) = is_blank_byte byte && is_blank bytes

-- ---- replies

-- a reply as a line of JSON, behind so many instructions
abbrev pub as_line_after : ℕ → Data → Reply
as_line_after steps d = record { bytes = line_of d; error = is_error d; steps = steps }

-- one without a run
abbrev pub as_line : Data → Reply
as_line d = as_line_after 0 d

-- the reply to a run that started so, with what is shown beside it; the list is that of what the script may call
abbrev pub reply_data : AllowList → Context → Start → Ended → Data
reply_data allow context start ran = shown_reply allow context.keys ran.reached ran.steps (context.reply start ran)

abbrev pub reply_to_run : AllowList → Context → Start → Ended → Reply
reply_to_run allow context start ran = as_line_after ran.steps (reply_data allow context start ran)

abbrev pub fault_of : Fault → LineFault
fault_of syntax = fault.Syntax
fault_of number_outside = fault.Number
fault_of field = fault.Field

-- The reply to what a line is bound to: what is wrong with the line, or what the run that starts so leaves.
abbrev pub IsReplyTo : AllowList → Context → (Start → Ended → Type 0) → Result Start Fault → Reply → Type 0
IsReplyTo allow context Ends (Err wrong) reply = reply ≡ as_line (line_error (fault_of wrong))
IsReplyTo allow context Ends (Ok start) reply = (ran : Ended) × Ends start ran × (reply ≡ reply_to_run allow context start ran)

-- a blank line has no reply
abbrev pub IsReplyUnless : Bool → AllowList → Context → (Start → Ended → Type 0) → List ℕ → Reply → Type 0
IsReplyUnless true allow context Ends line reply = reply ≡ no_reply
IsReplyUnless false allow context Ends line reply = IsReplyTo allow context Ends (context.start line) reply

-- The reply to a line, where runs end so. It depends on nothing else: not on the lines before.
abbrev pub IsReply : AllowList → Context → (Start → Ended → Type 0) → InputLine → Reply → Type 0
IsReply allow context Ends (Within line) reply = IsReplyUnless (is_blank line) allow context Ends line reply
IsReply allow context Ends Beyond reply = reply ≡ as_line (line_error fault.Long)
IsReply allow context Ends Nothing reply = reply ≡ no_reply
