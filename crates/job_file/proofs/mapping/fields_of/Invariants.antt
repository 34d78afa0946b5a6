use Rattle.std.proofs.Common.{◌≡◌, ◌++◌}
use Rattle.serde_json.specs.View.{members_view}
use Rattle.job_file.specs.Answers.{fields_view}
use Rattle.job_file.specs.Mappings.{fields_of}
use Rattle.job_file.proofs.mapping.fields_of.Given as goal

abbrev pub invariant-loop-name : goal.invariant-loop-name
invariant-loop-name l = fields_view l.fields.items ++ fields_of (members_view l.name-iterator) ≡ fields_of (members_view l.members.entries)
