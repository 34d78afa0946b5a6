use Rattle.std.proofs.Common.{◌-◌, ◌<◌, length, drop, arith, ap}
use Rattle.std.proofs.lemmas.List.{take_rest}
use Rattle.parse_driver.proofs.Places.{place_of_rest}
use Rattle.parse_driver.proofs.parsing.place.Goals as goal

pub returns-in-len1-up : goal.returns-in-len1-up
returns-in-len1-up c =
    let some : 0 < length (drop (length c.args.tokens.now - c.args.left) c.args.tokens.now) = omega (arith, ap length (take_rest c.args.tokens.now (length c.args.tokens.now - c.args.left)), c.in-len1-up.len_at_least) in
    λ front rest e n. place_of_rest c.args.text.now c.args.tokens.now front rest _ (length c.args.text.now) c.args.left e n some
