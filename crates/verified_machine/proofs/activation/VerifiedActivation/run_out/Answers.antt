use Rattle.std.proofs.Common.{◌∙◌, refl, subst}
use Rattle.task_core.specs.Turns.{Turns}
use Rattle.machine.specs.Activations.{HasTurned, Turned}
use Rattle.verified_machine.specs.Tasks.{rest, ending}
use Rattle.verified_machine.proofs.Finishing.{only, spares_on, ends_alike, executable_alike}
use Rattle.verified_machine.proofs.activation.VerifiedActivation.run_out.Goals as goal

pub turns-init : goal.turns-init
turns-init c = record { ending = refl; executable = refl; spares = λ s. s }

pub turns-preserved : goal.turns-preserved
turns-preserved c =
    let turned = subst (Turned 18446744073709551615 c.turns.self c.advance.new.self) c.in-More.is c.advance.ensures.exact in
    let turns = subst (Turns rest ending 18446744073709551615 c.turns.self c.advance.new.self) c.in-More.is c.advance.ensures.turns in
    record {
      ending = ends_alike 18446744073709551615 c.turns.self c.advance.new.self turned turns ∙ c.turns.invariant.ending;
      executable = executable_alike 18446744073709551615 c.turns.self c.advance.new.self turned turns ∙ c.turns.invariant.executable;
      spares = λ s. spares_on 18446744073709551615 c.turns.self c.advance.new.self turned.0 (c.turns.invariant.spares s);
    }

pub returns-in-NoMemory-clause-memory : goal.returns-in-NoMemory-clause-memory
returns-in-NoMemory-clause-memory c = λ s.
    absurd (subst HasTurned c.in-NoMemory.is (c.advance.ensures.memory (only 18446744073709551615 c.turns.self (c.turns.invariant.spares s))))
