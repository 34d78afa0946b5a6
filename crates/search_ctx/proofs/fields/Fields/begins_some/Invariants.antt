use Rattle.std.proofs.Common.{◌≡◌}
use Rattle.job_file.specs.Answers.{fields_view}
use Rattle.search_ctx.specs.Fields.{begins_some}
use Rattle.search_ctx.proofs.fields.Fields.begins_some.Given as goal

abbrev pub invariant-loop-name : goal.invariant-loop-name
invariant-loop-name l = begins_some l.front (fields_view l.name-iterator) ≡ begins_some l.front l.self
