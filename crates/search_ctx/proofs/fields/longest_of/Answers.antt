use Rattle.std.proofs.Common.{◌≤◌, length, string_bytes, sym, subst, arith}
use Rattle.job_file.specs.Answers.{fields_view}
use Rattle.search_ctx.specs.Fields.{NoneLonger}
use Rattle.search_ctx.proofs.fields.longest_of.Goals as goal

pub loop-name-preserved : goal.loop-name-preserved
loop-name-preserved c = λ most bound rest.
    let here : length (string_bytes c.in-Some.name.now) ≤ most = grind (arith, bound, c.max-longest.ensures, c.len.ensures) in
    let before : c.loop-name.longest ≤ most = grind (arith, bound, c.max-longest.ensures) in
    c.loop-name.invariant most before (subst (λ es. NoneLonger most (fields_view es)) (sym c.in-Some.ensures.steps) (here, rest))
