use Rattle.std.proofs.Common.{◌≡◌, ◌++◌, take}
use Rattle.std.specs.String.{string_bytes}
use Rattle.pl_code.specs.Listing.{first_line, ended, functions_lines, text_of}
use Rattle.pl_code.proofs.writing.listing.Given as goal

abbrev pub invariant-loop-function : goal.invariant-loop-function
invariant-loop-function l = (l.number ≡ l.function-index) × (string_bytes l.out ≡ ended first_line ++ text_of (functions_lines 0 (take l.function-index l.code.functions)))
