use Rattle.std.proofs.Common.{◌<◌, rules, arith}
use Rattle.allowlist.specs.Allow.{start_of}
use Rattle.allowlist.specs.Catalogue.{catalogue}
use Rattle.allowlist.proofs.Tables.{start_at}
use Rattle.allowlist.proofs.table.start_of_class.Goals as goal

pub returns : goal.returns
unfolding start_of catalogue
returns c = let within : c.args.class < 58 = omega arith in search (start_at, rules)
