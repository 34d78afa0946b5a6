use Rattle.std.proofs.Common.{sym, arith}
use Rattle.codegen.specs.Worklist.{items_of}
use Rattle.codegen.specs.Worklist.{tail_of}
use Rattle.codegen.proofs.Rows.{variables_go, variables_end}
use Rattle.codegen.proofs.Agreeing.{keeps_variables, keeps_variables_end, keeps_first}
use Rattle.codegen.proofs.Lighter.{variables_more}
use Rattle.codegen.proofs.scopes.variables.Goals as goal

pub returns-clause-back : goal.returns-clause-back
returns-clause-back c = rw c.in_ok-push_three.ensures
    (variables_go _ (items_of c.args.worklist.now) c.args.config.now c.args.exits c.args.all.now c.args.at c.in-Some.variable.now (tail_of c.args.tail) _ (sym c.in-Some.ensures.value) c.in_ok-first.ensures.first)

pub returns-in_default-clause-back : goal.returns-in_default-clause-back
returns-in_default-clause-back c = rw c.in_ok-push.ensures (variables_end _ (items_of c.args.worklist.now) c.args.config.now c.args.exits c.args.all.now c.args.at (tail_of c.args.tail) (sym c.in_default.ensures.value))

pub returns-clause-sound : goal.returns-clause-sound
returns-clause-sound c = rw c.in_ok-push_three.ensures (keeps_variables _ _ c.args.config.now c.args.exits c.args.all.now c.args.at c.in-Some.variable.now (tail_of c.args.tail) _ (sym c.in-Some.ensures.value) c.in_ok-first.ensures.first)

pub returns-in_default-clause-sound : goal.returns-in_default-clause-sound
returns-in_default-clause-sound c = rw c.in_ok-push.ensures (keeps_variables_end _ _ c.args.config.now c.args.exits c.args.all.now c.args.at (tail_of c.args.tail) (sym c.in_default.ensures.value))

pub returns-in_err-first-clause-sound : goal.returns-in_err-first-clause-sound
returns-in_err-first-clause-sound c = keeps_first _ _ c.args.config.now c.args.exits c.args.all.now c.args.at c.in-Some.variable.now (tail_of c.args.tail) _ _ _ (sym c.in-Some.ensures.value) c.in_err-first.ensures.first

pub returns-clause-falls : goal.returns-clause-falls
returns-clause-falls c = rw c.in_ok-push_three.ensures (omega (arith, c.in_ok-first.ensures.weight, variables_more c.args.at c.args.all.now c.in-Some.variable.now (sym c.in-Some.ensures.value)))

pub returns-in_default-clause-falls : goal.returns-in_default-clause-falls
returns-in_default-clause-falls c = rw c.in_ok-push.ensures (omega arith)
