use Rattle.std.proofs.Common.{sym, arith}
use Rattle.std.proofs.lemmas.List.{length-take-le}
use Rattle.api_text.proofs.Places.{first_place_within}
use Rattle.api_text.proofs.pieces.parts_around.Goals as goal

pub slice_bounds-result-end : goal.slice_bounds-result-end
slice_bounds-result-end c =
    let within = first_place_within c.args.text.now c.args.token.now 0 c.in-Some.place c.in-Some.ensures in
    sym (length-take-le c.in-Some.place c.args.text.now (omega (arith, within)))
