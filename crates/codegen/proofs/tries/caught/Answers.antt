use Rattle.codegen.proofs.Lighter.{handlers_more}
use Rattle.std.proofs.Common.{sym, ◌∙◌, arith}
use Rattle.std.proofs.lemmas.Result.{err_from_is_err_and}
use Rattle.source_meaning.specs.Programs.{program_of}
use Rattle.program_typing.specs.Agreeing.{known}
use Rattle.codegen.specs.Worklist.{items_of}
use Rattle.codegen.proofs.Handled.{caught_back, caught_end, caught_keeps, caught_end_keeps, class_of_catch}
use Rattle.codegen.proofs.tries.caught.Goals as goal

pub returns-clause-back : goal.returns-clause-back
returns-clause-back c = rw c.in_ok-push_three-2.ensures (rw c.in_ok-push_three.ensures (rw c.get-2.ensures
    (caught_back _ (items_of c.args.worklist.now) c.args.config.now c.args.exits c.args.catches.now c.args.at c.in-Some.one.now c.len-height.result c.args.from c.args.to c.args.label c.in_ok-line.line c.in_ok-trap.trap c.push-2.new.self (sym c.in-Some.ensures.value) c.len-height.ensures
    c.in_ok-trap.ensures.known c.in_ok-line.ensures.number c.in_ok-trap.ensures.trap c.in_ok-push-2.ensures.ok)))

pub returns-in_default-clause-back : goal.returns-in_default-clause-back
returns-in_default-clause-back c = rw c.in_ok-push.ensures (caught_end _ (items_of c.args.worklist.now) c.args.config.now c.args.exits c.args.catches.now c.args.at _ _ _ (sym c.in_default.ensures.value))

pub returns-clause-sound : goal.returns-clause-sound
returns-clause-sound c = rw c.in_ok-push_three-2.ensures (rw c.in_ok-push_three.ensures (rw c.get-2.ensures
    (caught_keeps _ (items_of c.args.worklist.now) c.args.config.now c.args.exits c.args.catches.now c.args.at c.in-Some.one.now c.len-height.result c.args.from c.args.to c.args.label c.push-2.new.self (sym c.in-Some.ensures.value) c.len-height.ensures)))

pub returns-in_default-clause-sound : goal.returns-in_default-clause-sound
returns-in_default-clause-sound c = rw c.in_ok-push.ensures (caught_end_keeps _ (items_of c.args.worklist.now) c.args.config.now c.args.exits c.args.catches.now c.args.at _ _ _ (sym c.in_default.ensures.value))

pub returns-in_err-trap-clause-sound : goal.returns-in_err-trap-clause-sound
returns-in_err-trap-clause-sound c =
    let p = err_from_is_err_and c.from_residual-in_err-trap.result c.from_residual-in_err-trap.ensures.1 in
    rw p.1 (record {
      by = λ allow s. p.2 ∙ c.in_err-trap.ensures.total (class_of_catch (program_of c.args.program.now) (items_of c.args.worklist.now) c.args.config.now c.args.exits (known allow (program_of c.args.program.now)) s.result c.args.catches.now c.args.at c.in-Some.one.now c.args.from c.args.to c.args.label (sym c.in-Some.ensures.value) s.agree);
    })

pub returns-clause-falls : goal.returns-clause-falls
returns-clause-falls c = rw c.in_ok-push_three-2.ensures (rw c.in_ok-push_three.ensures (rw c.get-2.ensures (omega (arith, handlers_more c.args.at c.args.catches.now c.in-Some.one.now (sym c.in-Some.ensures.value)))))

pub returns-in_default-clause-falls : goal.returns-in_default-clause-falls
returns-in_default-clause-falls c = rw c.in_ok-push.ensures (omega arith)
