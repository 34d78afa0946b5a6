use Rattle.codegen.specs.Worklist.{items_of}
use Rattle.codegen.proofs.Rows.{declare_back}
use Rattle.codegen.proofs.Agreeing.{keeps_declared}
use Rattle.codegen.proofs.Steps.{never}
use Rattle.codegen.proofs.Fitting.{is_present}
use Rattle.codegen.proofs.scopes.declare.Goals as goal

pub returns-clause-back : goal.returns-clause-back
returns-clause-back c = declare_back _ (items_of c.args.worklist.now) c.args.config.now _ _ c.in_ok-one.one c.slot.result c.in_ok-local.local _ _ _ c.in_ok-local.ensures.number c.slot.ensures c.in_ok-present.ensures c.in_ok-one.ensures.entry c.in_ok-push.ensures c.in_ok-push-2.ensures.ok c.in_ok-push-3.ensures.ok

pub returns-in_err-present-clause-sound : goal.returns-in_err-present-clause-sound
returns-in_err-present-clause-sound c = never _ _ _ _ _ _ (λ allow of s. is_present _ s.0 c.in_err-present.ensures)

pub returns-clause-sound : goal.returns-clause-sound
returns-clause-sound c = keeps_declared _ _ c.args.config.now _ _ c.in_ok-one.one c.in_ok-local.local _ _ _ c.in_ok-one.ensures.entry c.in_ok-push.ensures
