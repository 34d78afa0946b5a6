use Rattle.std.proofs.Common.{sym, subst}
use Rattle.def_resolve.specs.declared.access.Purpose.TheVariants.{Write}
use Rattle.def_access.specs.Coming.{NameListed}
use Rattle.def_access.proofs.Confined.{name_listed}
use Rattle.def_access.proofs.naming.name_written.Goals as goal

pub name_put_found-requires : goal.name_put_found-requires
name_put_found-requires c = name_listed c.args.allow.now c.name_access-found.result c.name_access-found.ensures.confined
