use Rattle.std.proofs.Common.{◌≡◌, ◌++◌}
use Rattle.std.specs.List.{flat_map}
use Rattle.std.specs.String.{string_bytes}
use Rattle.listing_parts.specs.Quoted.{escaped_letter}
use Rattle.listing_parts.proofs.quoted.push_quoted.Given as goal

abbrev pub invariant-loop-letter : goal.invariant-loop-letter
invariant-loop-letter l = string_bytes l.out ≡ string_bytes l.initial.out ++ flat_map escaped_letter l.yielded
