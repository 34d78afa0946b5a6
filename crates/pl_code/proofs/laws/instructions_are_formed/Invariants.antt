use Rattle.std.proofs.Common.{◌≡◌, true, take}
use Rattle.std.specs.List.{list_all}
use Rattle.pl_code.specs.Instructions.{is_instruction}
use Rattle.pl_code.proofs.laws.instructions_are_formed.Given as goal

abbrev pub invariant-loop-line : goal.invariant-loop-line
invariant-loop-line l = list_all is_instruction (take l.line-index l.lines) ≡ true
