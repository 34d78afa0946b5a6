use Rattle.std.proofs.Common.{◌≡◌, arith, sym, ap, ◌∙◌}
use Rattle.std.specs.List.{flat_map}
use Rattle.std.proofs.lemmas.Grind.{common_steps}
use Rattle.std.proofs.lemmas.List.{map-id}
use Rattle.std.proofs.lemmas.Iterator.{YieldsList-from_chars}
use Rattle.std.proofs.lemmas.Iterator.Consumers.{YieldsList-end}
use Rattle.listing_parts.specs.Quoted.{escaped, escaped_letter, quoted}
use Rattle.listing_parts.proofs.Escapes.{text_letters}
use Rattle.listing_parts.proofs.quoted.push_quoted.Goals as goal

pub returns : goal.returns
unfolding quoted
returns c =
    let all = YieldsList-end (YieldsList-from_chars c.args.text.now c.utf8.text cc) c.loop-letter.yielded _ c.loop-letter.yielded_by _ _ c.in-None.is c.next.ensures.steps in
    let same : flat_map escaped_letter c.loop-letter.yielded ≡ flat_map escaped c.args.text.now =
    ap (flat_map escaped_letter) (sym (map-id c.loop-letter.yielded) ∙ all.0) ∙ text_letters c.args.text.now c.utf8.text in
    rw (← same) (grind (arith, common_steps))
