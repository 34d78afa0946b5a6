use Rattle.std.proofs.Common.{ℕ, ◌<◌, ◌≤◌}
use Rattle.allowlist.specs.Index.{member_in}
use Rattle.code_meaning.specs.Members.{count_of}
use Rattle.machine_parts.proofs.linked_text.most_arguments.Given as goal

-- no member so far takes more
abbrev pub invariant-loop-number : goal.invariant-loop-number
invariant-loop-number l = (k : ℕ) → k < l.number → count_of (member_in l.allow k) ≤ l.most
