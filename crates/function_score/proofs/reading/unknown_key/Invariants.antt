use Rattle.std.proofs.Common.{◌≡◌, string_cmp}
use Rattle.std.specs.List.Sorted.{IsStrictlySortedBy}
use Rattle.std.specs.Map.{keys_of}
use Rattle.serde_json.specs.View.{members_view}
use Rattle.function_score.specs.Functions.{unknown_key}
use Rattle.function_score.proofs.reading.unknown_key.Given as goal

abbrev pub invariant-loop-name : goal.invariant-loop-name
invariant-loop-name l = record {
  sorted : IsStrictlySortedBy string_cmp (keys_of l.name-iterator);
  rest : unknown_key (members_view l.members.entries) ≡ unknown_key (members_view l.name-iterator);
}
