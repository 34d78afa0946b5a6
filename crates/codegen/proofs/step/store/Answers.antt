use Rattle.codegen.specs.Worklist.{items_of}
use Rattle.codegen.proofs.Back.{store_back}
use Rattle.std.proofs.Common.{refl}
use Rattle.codegen.proofs.Steps.{lined, never}
use Rattle.codegen.proofs.step.store.Goals as goal

pub returns-clause-back : goal.returns-clause-back
returns-clause-back c = store_back _ (items_of c.args.worklist.now) c.args.config.now c.args.name.now _ c.in_ok-local.local _ c.in_ok-local.ensures c.in_ok-push.ensures.ok

pub returns-in_err-local-clause-sound : goal.returns-in_err-local-clause-sound
returns-in_err-local-clause-sound c = never _ _ _ _ _ _ (λ allow of s. c.in_err-local.ensures s.0)

pub returns-clause-sound : goal.returns-clause-sound
returns-clause-sound c = lined _ _ _ _ _ (λ allow of s. s.1) refl
