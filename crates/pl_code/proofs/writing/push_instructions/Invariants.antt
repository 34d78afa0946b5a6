use Rattle.std.proofs.Common.{◌≡◌, ◌++◌, take, map}
use Rattle.std.specs.String.{string_bytes}
use Rattle.pl_code.specs.Instructions.{instruction_text}
use Rattle.pl_code.specs.Listing.{text_of}
use Rattle.pl_code.proofs.writing.push_instructions.Given as goal

abbrev pub invariant-loop-line : goal.invariant-loop-line
invariant-loop-line l = string_bytes l.out ≡ string_bytes l.initial.out ++ text_of (map instruction_text (take l.line-index l.lines))
