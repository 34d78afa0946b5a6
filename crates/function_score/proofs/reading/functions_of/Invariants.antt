use Rattle.std.proofs.Common.{◌≡◌, ◌≤◌, drop, length}
use Rattle.serde_json.specs.View.{items_view}
use Rattle.function_score.specs.Answers.{functions_view}
use Rattle.function_score.specs.Functions.{functions_from}
use Rattle.function_score.proofs.Listed.{all_before}
use Rattle.function_score.proofs.reading.functions_of.Given as goal

abbrev pub invariant-loop-number : goal.invariant-loop-number
invariant-loop-number l = record {
  few : length l.functions.items ≤ 64;
  counted : length l.functions.items ≡ l.number;
  told : functions_from 0 (items_view l.items.items) ≡ all_before (functions_view l.functions.items) (functions_from l.number (items_view (drop l.number l.items.items)));
}
