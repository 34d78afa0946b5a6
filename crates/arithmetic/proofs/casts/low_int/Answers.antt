use Rattle.std.proofs.Common.{◌%◌, ◌∙◌, ap, to_z, of_z}
use Rattle.std.specs.Int.{w32, w64}
use Rattle.std.proofs.lemmas.Int.{to_z-of_z}
use Rattle.arithmetic.proofs.LowBits.{int_is}
use Rattle.arithmetic.proofs.casts.low_int.Goals as goal

pub returns : goal.returns
returns c =
    to_z-of_z w32 c.cast_signed.result (record { sfits = c.cast_signed.type_inv })
    ∙ c.cast_signed.ensures
    ∙ ap (λ u. to_z w32 (u % 4294967296)) (c.cast_unsigned.ensures ∙ ap (of_z w64) (to_z-of_z w64 c.args.number c.ranges.number))
    ∙ int_is c.args.number c.ranges.number
