use Rattle.std.proofs.Common.{◌≡◌, ◌++◌, take, map}
use Rattle.std.specs.String.{string_bytes}
use Rattle.pl_code.specs.Words.{slot_letter}
use Rattle.pl_code.proofs.writing.push_letters.Given as goal

abbrev pub invariant-loop-slot : goal.invariant-loop-slot
invariant-loop-slot l = string_bytes l.out ≡ string_bytes l.initial.out ++ map slot_letter (take l.slot-index l.slots)
