use Rattle.std.proofs.Common.{Option, ap, sym}
use Rattle.pl_code.specs.declared.code.FunCode.{FunCode}
use Rattle.run_state.specs.World.{World}
use Rattle.code_meaning.specs.Machine.{on_call}
use Rattle.machine_parts.specs.Code.{codes_in}
use Rattle.machine_paths.proofs.Quick.{as_does}
use Rattle.machine_paths.proofs.fast_calls.call.Goals as goal

pub returns-in-Some-clause-exact : goal.returns-in-Some-clause-exact
returns-in-Some-clause-exact c = λ limits store reached same.
    let codes = codes_in c.args.executable.now in
    let w : World = record { store = store; ticks = c.args.ticks.now; reached = reached } in
    as_does _ _ _ _ _ (ap (λ (o : Option FunCode). on_call codes limits o c.args.number c.args.frames.now.top c.args.frames.now.below w) (sym c.in-Some.ensures))
    (c.enter.ensures.exact codes limits store reached same)
