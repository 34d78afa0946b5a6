-- What replies to each line alone, as a conversation.
use Rattle.std.proofs.Common.{IfOk, Result, Ok, Err}
use Rattle.outer_io.specs.Lines.{InputLine}
use Rattle.line_run.specs.declared.replier.ReplyLine.{ReplyLine}
use Rattle.line_run.specs.Replies.{Reply, stateless}
use Rattle.line_run.specs.Shown.{reply_shown}
use Rattle.line_run.specs.Talking.{AnyLines, Hears}

-- its reply is the same behind any lines
pub hears_alone : {E : Type 0} (gives : InputLine → Reply → Type 0) (line : InputLine) (result : Result ReplyLine E) → IfOk result (λ (reply : ReplyLine). gives line (reply_shown reply))
    → IfOk result (λ (reply : ReplyLine). Hears (stateless gives) AnyLines AnyLines line (reply_shown reply))
hears_alone gives line (Ok reply) is = record { says = λ before heard. is; heard = λ before heard. tt }
hears_alone gives line (Err error) is = tt
