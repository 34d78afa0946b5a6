use Rattle.std.proofs.Common.{◌≡◌, ◌≤◌, ◌-◌}
use Rattle.machine.specs.Seen.{room_of, codes_in, configuration_of, limits_in}
use Rattle.machine.proofs.Reaching.{Reached}
use Rattle.machine.proofs.running.run_on.Given as goal
use Rattle.machine.specs.Runs.{CountsFit}

-- so many instructions led here, and there is memory for as much as before
abbrev pub invariant-instructions : goal.invariant-instructions
invariant-instructions l = record {
  leads : Reached (codes_in l.fn.executable) (limits_in l.fn.executable l.fn.limits) l.taken l.initial.run l.run;
  counts : CountsFit (configuration_of l.run);
  room : room_of l.run ≡ room_of l.initial.run;
  within : l.taken ≤ l.fn.count;
}

abbrev pub decreases-instructions : goal.decreases-instructions
decreases-instructions l = l.fn.count - l.taken
