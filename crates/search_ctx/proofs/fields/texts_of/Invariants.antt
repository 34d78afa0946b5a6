use Rattle.std.proofs.Common.{◌≡◌, ◌++◌}
use Rattle.job_file.specs.Answers.{fields_view}
use Rattle.search_ctx.specs.Fields.{texts_of}
use Rattle.search_ctx.proofs.fields.texts_of.Given as goal

abbrev pub invariant-loop-name : goal.invariant-loop-name
invariant-loop-name l = l.texts.items ++ texts_of (fields_view l.name-iterator) ≡ texts_of (fields_view l.kinds.entries)
