use Rattle.std.proofs.Common.{◌-◌, ◌+◌, ◌≤◌}
use Rattle.allowlist.specs.Accessors.{seen_name}
use Rattle.allowlist.specs.Allow.{start_of}
use Rattle.allowlist.proofs.Places.{Window}
use Rattle.allowlist.proofs.index.member_called.Given as goal

abbrev pub invariant-loop-low : goal.invariant-loop-low
invariant-loop-low l = record {
  window : Window l.index l.class (seen_name l.name) l.arity l.low l.high;
  first : start_of l.class ≤ l.low;
  last : l.high ≤ start_of (l.class + 1);
}

abbrev pub decreases-loop-low : goal.decreases-loop-low
decreases-loop-low l = l.high - l.low
