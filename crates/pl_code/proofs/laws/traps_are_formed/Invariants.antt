use Rattle.std.proofs.Common.{◌≡◌, true, take}
use Rattle.std.specs.List.{list_all}
use Rattle.pl_code.specs.Listing.{is_trap}
use Rattle.pl_code.proofs.laws.traps_are_formed.Given as goal

abbrev pub invariant-loop-trap : goal.invariant-loop-trap
invariant-loop-trap l = list_all is_trap (take l.trap-index l.traps) ≡ true
