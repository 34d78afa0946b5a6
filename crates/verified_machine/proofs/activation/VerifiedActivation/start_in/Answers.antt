use Rattle.std.proofs.Common.{[], refl}
use Rattle.run_state.specs.World.{World}
use Rattle.verified_machine.proofs.Outcomes.{started_with, starts, starts_bounded}
use Rattle.verified_machine.proofs.activation.VerifiedActivation.start_in.Goals as goal

pub invariant_of-result : goal.invariant_of-result
invariant_of-result c =
    let w : World = record { store = c.args.heap; ticks = c.args.limits.ticks; reached = [] } in
    starts c.executable.result.now c.args.code.now c.args.limits c.args.args w c.in_ok-run.run' c.executable.ensures.is c.executable.ensures.ready c.executable.ensures.rows c.requires.rows c.requires.args refl c.in_ok-run.ensures

pub returns-clause-started : goal.returns-clause-started
returns-clause-started c =
    let w : World = record { store = c.args.heap; ticks = c.args.limits.ticks; reached = [] } in
    started_with c.executable.result.now c.args.code.now c.args.limits c.args.args w c.in_ok-run.run' c.executable.ensures.is c.in_ok-run.ensures

pub returns-clause-bound : goal.returns-clause-bound
returns-clause-bound c =
    let w : World = record { store = c.args.heap; ticks = c.args.limits.ticks; reached = [] } in
    starts_bounded c.executable.result.now c.args.code.now c.args.limits c.args.args w c.in_ok-run.run' c.executable.ensures.is c.in_ok-run.ensures
