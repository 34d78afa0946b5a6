use Rattle.std.proofs.Common.{◌<◌, length, sym, ap, arith}
use Rattle.def_resolve.proofs.Tables.{method_arity}
use Rattle.def_resolve.proofs.function.fits.Goals as goal

pub returns-in_default-try_from : goal.returns-in_default-try_from
returns-in_default-try_from c =
    let few = (method_arity c.args.iface c.in-Some.method (sym c.in-Some.ensures.found)).1 in
    let same = ap (λ m. length m.params) c.member_at.ensures in
    let below : c.len.result < 4294967296 = omega (arith, few, same, c.len.ensures) in
    absurd (c.in_default-try_from.ensures below)
