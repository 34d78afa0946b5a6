use Rattle.std.proofs.Common.{ℕ, ◌≤◌}
use Rattle.job_file.specs.Answers.{fields_view}
use Rattle.search_ctx.specs.Fields.{NoneLonger}
use Rattle.search_ctx.proofs.fields.longest_of.Given as goal

-- a bound of those that were seen, and of those that are left, is one of all
abbrev pub invariant-loop-name : goal.invariant-loop-name
invariant-loop-name l = (most : ℕ) → l.longest ≤ most → NoneLonger most (fields_view l.name-iterator) → NoneLonger most (fields_view l.kinds.entries)
