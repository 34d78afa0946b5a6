use Rattle.std.proofs.Common.{◌≡◌, drop}
use Rattle.document_replies.specs.Replies.{is_blank}
use Rattle.document_replies.proofs.blank.is_blank.Given as goal

abbrev pub invariant-loop-at : goal.invariant-loop-at
invariant-loop-at l = is_blank l.line ≡ is_blank (drop l.at l.line)
