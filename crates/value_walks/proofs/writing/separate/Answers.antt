use Rattle.std.proofs.Common.{◌≡◌, arith, sym}
use Rattle.value_walks.proofs.Putting.{put_nothing}
use Rattle.value_walks.proofs.writing.separate.Goals as goal

pub returns-else-at-gt0-clause-ok : goal.returns-else-at-gt0-clause-ok
returns-else-at-gt0-clause-ok c =
    let first : c.args.at ≡ 0 = omega arith in
    rw first (sym (put_nothing c.args.out.now))
