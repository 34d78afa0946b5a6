-- Depths against the room that is left for them.
use Rattle.std.proofs.Common.{◌≡◌, ℕ, suc, ◌+◌, ◌-◌, ◌<◌, max, arith}
use Rattle.std.specs.Prelude.{◌&&◌, not, nat_le, nat_lt}
use Rattle.std.proofs.lemmas.Bool.Decides.{nat_tests}

pub within_both : (a b room : ℕ) → nat_le (max a b) room ≡ (nat_le a room && nat_le b room)
within_both a b room = grind (arith, nat_tests)

pub within_more : (a room : ℕ) → 0 < room → nat_le (suc a) room ≡ nat_le a (room - 1)
within_more a room h = grind (arith, nat_tests)

pub deeper_than_room : (deepest n d room : ℕ) → n + room ≡ deepest → nat_lt deepest (n + d) ≡ not (nat_le d room)
deeper_than_room deepest n d room h = grind (arith, nat_tests)
