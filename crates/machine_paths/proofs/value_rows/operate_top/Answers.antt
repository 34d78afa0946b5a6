use Rattle.std.proofs.Common.{◌∷◌, drop, sym, ◌∙◌}
use Rattle.machine_paths.proofs.Boxing.{acts_so, comes_to}
use Rattle.machine_paths.proofs.value_rows.operate_top.Goals as goal

pub returns-in-Some-operated_top-clause-exact : goal.returns-in-Some-operated_top-clause-exact
returns-in-Some-operated_top-clause-exact c = λ codes limits w.
    let old = c.args.frames.now in
    acts_so codes limits c.args.op c.in-Some.plain old.top old.below w c.in-Some-operated_top.word (sym c.in-Some.ensures) c.in-Some-operated_top.ensures
    ∙ comes_to old c.put_for_both.new.frames (c.in-Some-operated_top.word ∷ drop 2 old.top.stack) c.args.next w c.put_for_both.ensures.top c.put_for_both.ensures.below c.requires
