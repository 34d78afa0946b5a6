use Rattle.std.proofs.Common.{rules}
use Rattle.listing_parts.proofs.Escapes.{letter_kept}
use Rattle.listing_parts.proofs.quoted.push_escaped.Goals as goal

pub returns : goal.returns
returns c = rw (letter_kept c.args.letter c.if-letter-eq92.false c.if-letter-eq34.false c.if-letter-lt32.false) (search rules)
