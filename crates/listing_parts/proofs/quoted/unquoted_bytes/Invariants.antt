use Rattle.std.proofs.Common.{◌≡◌, ◌-◌, ◌++◌, length}
use Rattle.std.specs.Prelude.{option_map}
use Rattle.listing_parts.specs.Quoted.{unquoted}
use Rattle.listing_parts.proofs.quoted.unquoted_bytes.Given as goal

abbrev pub invariant-loop-turn : goal.invariant-loop-turn
invariant-loop-turn l = unquoted (length l.text) l.text ≡ option_map (λ t. l.made.items ++ t) (unquoted (length l.text - l._turn) l.rest)
