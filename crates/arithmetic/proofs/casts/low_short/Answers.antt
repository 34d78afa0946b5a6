use Rattle.std.proofs.Common.{◌%◌, ◌∙◌, ap, to_z, of_z}
use Rattle.std.specs.Int.{w16, w32}
use Rattle.std.proofs.lemmas.Int.{to_z-of_z}
use Rattle.arithmetic.proofs.LowBits.{short_is}
use Rattle.arithmetic.proofs.casts.low_short.Goals as goal

pub returns : goal.returns
returns c =
    to_z-of_z w16 c.cast_signed.result (record { sfits = c.cast_signed.type_inv })
    ∙ c.cast_signed.ensures
    ∙ ap (λ u. to_z w16 (u % 65536)) (c.cast_unsigned.ensures ∙ ap (of_z w32) (to_z-of_z w32 c.args.number c.ranges.number))
    ∙ short_is c.args.number c.ranges.number
