use Rattle.std.proofs.Common.{◌≡◌, [], drop}
use Rattle.job_file.specs.Answers.{fields_view}
use Rattle.search_ctx.specs.Fields.{with_fields}
use Rattle.search_ctx.proofs.fields.kinds_of.Given as goal

abbrev pub invariant-loop-name : goal.invariant-loop-name
invariant-loop-name l =
    with_fields (fields_view l.kinds.entries) (fields_view (drop l.name-index l.name-items)) ≡ with_fields [] (fields_view l.name-items)
