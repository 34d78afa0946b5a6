use Rattle.std.proofs.Common.{sym}
use Rattle.pl_types.proofs.Shapes.{from_void_cast}
use Rattle.pl_types.proofs.casting.cast.Goals as goal

pub returns-in-Void : goal.returns-in-Void
returns-in-Void g c = rw c.in-Void.is (sym (from_void_cast _ c.args.to.now c.args.explicit))
