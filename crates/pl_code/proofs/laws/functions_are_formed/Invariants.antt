use Rattle.std.proofs.Common.{◌≡◌, true, take}
use Rattle.std.specs.List.{list_all}
use Rattle.pl_code.specs.Listing.{is_function}
use Rattle.pl_code.proofs.laws.functions_are_formed.Given as goal

abbrev pub invariant-loop-function : goal.invariant-loop-function
invariant-loop-function l = list_all is_function (take l.function-index l.functions) ≡ true
