use Rattle.std.proofs.Common.{◌≡◌, ◌++◌}
use Rattle.job_file.specs.Answers.{fields_view}
use Rattle.search_ctx.specs.DocValues.{empty_doc}
use Rattle.search_ctx.proofs.fields.Fields.no_values.Given as goal

abbrev pub invariant-loop-name : goal.invariant-loop-name
invariant-loop-name l = l.values.items ++ empty_doc (fields_view l._name-iterator) ≡ empty_doc l.self
