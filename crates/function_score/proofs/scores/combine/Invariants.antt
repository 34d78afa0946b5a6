use Rattle.std.proofs.Common.{◌≡◌, drop, map}
use Rattle.std.specs.Prelude.{pos, ◌≤ℤ◌}
use Rattle.job_file.specs.Limits.{natural}
use Rattle.function_score.specs.Scores.{AreScores, combined, joined_to}
use Rattle.function_score.proofs.scores.combine.Given as goal

abbrev pub invariant-values : goal.invariant-values
invariant-values l = record {
  least : pos 0 ≤ℤ l.all;
  rest : AreScores (drop l.value-index l.value-items);
  told : joined_to l.mode (natural l.all) (map natural (drop l.value-index l.value-items)) ≡ combined l.mode (map natural l.values);
}
