-- Objects that are still there.
use Rattle.std.proofs.Common.{◌≤◌, List, length, arith}
use Rattle.object_values.specs.declared.object.Object.{Object}
use Rattle.object_heap.specs.Fits.{kinds}
use Rattle.object_heap.proofs.Fitting.{length-kinds}
use Rattle.object_heap.proofs.KindLemmas.{follows_length}
use Rattle.def_access.specs.ContainerCallsLaws.{StillThere}
use Rattle.def_access.proofs.There.{follows, stay_trans}

pub there_trans : (a b c : List Object) → StillThere a b → StillThere b c → StillThere a c
there_trans a b c p q = stay_trans (kinds a) (kinds b) (kinds c) p q

-- none is gone
pub there_count : (a b : List Object) → StillThere a b → length a ≤ length b
there_count a b p = omega (arith, length-kinds a, length-kinds b, follows_length (kinds a) (kinds b) (follows (kinds a) (kinds b) p))
