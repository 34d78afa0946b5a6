use Rattle.std.proofs.Common.{◌≡◌, string_cmp}
use Rattle.std.specs.List.Sorted.{IsStrictlySortedBy}
use Rattle.std.specs.Map.{keys_of}
use Rattle.serde_json.specs.View.{members_view}
use Rattle.job_file.specs.Mappings.{is_bad, least, names_where}
use Rattle.job_file.proofs.mapping.least_bad.Given as goal

abbrev pub invariant-loop-name : goal.invariant-loop-name
invariant-loop-name l =
    IsStrictlySortedBy string_cmp (keys_of l.name-iterator)
    × (least (names_where is_bad (members_view l.members.entries)) ≡ least (names_where is_bad (members_view l.name-iterator)))
