use Rattle.std.proofs.Common.{◌≡◌}
use Rattle.verified_machine.specs.Tasks.{SparesMemory, rest, ending}
use Rattle.verified_machine.proofs.activation.VerifiedActivation.run_out.Given as goal

-- it comes to the same end, and takes no memory where it took none
abbrev pub invariant-turns : goal.invariant-turns
invariant-turns l = record {
  ending : ending l.self ≡ ending l.initial.self;
  executable : l.self.executable ≡ l.initial.self.executable;
  spares : SparesMemory l.initial.self → SparesMemory l.self;
}

abbrev pub decreases-turns : goal.decreases-turns
decreases-turns l = rest l.self
