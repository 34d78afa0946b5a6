use Rattle.std.proofs.Common.{◌≡◌}
use Rattle.serde_json.specs.View.{members_view}
use Rattle.job_file.specs.Values.{are_documents}
use Rattle.job_file.proofs.values.are_documents.Given as goal

abbrev pub invariant-loop-name : goal.invariant-loop-name
invariant-loop-name l = are_documents (members_view l.members.entries) ≡ are_documents (members_view l._name-iterator)
