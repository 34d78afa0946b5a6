use Rattle.std.proofs.Common.{◌≡◌, Ok, rules, arith}
use Rattle.std.proofs.lemmas.Int.{to_z-of_z}
use Rattle.job_file.specs.Limits.{natural}
use Rattle.function_score.specs.Lines.{score_of, told_map, value_of_functions}
use Rattle.function_score.specs.Runners.{with_sign}
use Rattle.function_score.specs.Scores.{boosted}
use Rattle.function_score.proofs.Steps.{score_failed, score_told}
use Rattle.function_score.proofs.scoring.score.Goals as goal

pub returns-in-Ok-clause-told : goal.returns-in-Ok-clause-told
unfolding score_of
returns-in-Ok-clause-told g c =
    let m = value_of_functions c.args.mode (g.R.FunctionRunner.line c.args.runner.now) in
    let told : with_sign (told_map (boosted c.args.boost_mode (natural c.args.q)) m) ≡ Ok c.boost.result =
    score_told c.args.boost_mode (natural c.args.q) m c.in-Ok.value c.boost.result c.in-Ok.ensures.told (first_of (search (rules, to_z-of_z), grind (arith, to_z-of_z))) in
    first_of (search (rules, to_z-of_z, told), grind (arith, to_z-of_z, told))

pub returns-in-Err-clause-told : goal.returns-in-Err-clause-told
unfolding score_of
returns-in-Err-clause-told g c =
    score_failed c.args.boost_mode (natural c.args.q) (value_of_functions c.args.mode (g.R.FunctionRunner.line c.args.runner.now)) c.in-Err.error c.in-Err.ensures.told
