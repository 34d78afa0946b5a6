use Rattle.std.proofs.Common.{◌≡◌, ◌++◌, take, map}
use Rattle.std.specs.String.{string_bytes}
use Rattle.pl_code.specs.Listing.{trap_text, text_of}
use Rattle.pl_code.proofs.writing.push_traps.Given as goal

abbrev pub invariant-loop-trap : goal.invariant-loop-trap
invariant-loop-trap l = string_bytes l.out ≡ string_bytes l.initial.out ++ text_of (map trap_text (take l.trap-index l.traps))
