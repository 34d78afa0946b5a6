-- Replies of the code as replies.
use Rattle.std.specs.Prelude.{string_bytes}
use Rattle.line_run.specs.declared.replier.ReplyLine.{ReplyLine}
use Rattle.line_run.specs.Replies.{Reply}

abbrev pub reply_shown : ReplyLine → Reply
reply_shown reply = record { bytes = string_bytes reply.text; error = reply.is_error; steps = reply.steps }
