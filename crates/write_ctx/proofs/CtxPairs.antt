-- The pairs of a map that may be there.
use Rattle.std.proofs.Common.{◌≡◌, ℕ, List, [], Option, Some, None, slice_get, refl}
use Rattle.object_values.specs.declared.object.Object.{Object}
use Rattle.object_heap.specs.Parts.{asked, map_of, object_map, object_pairs, pairs_in, pairs_of}

pub pairs_are : (objects : List Object) (id : ℕ) → pairs_in (map_of objects id) ≡ pairs_of objects id
pairs_are objects id = by_case (slice_get objects id) where
  by_case : (o : Option Object) → pairs_in (asked object_map None o) ≡ asked object_pairs [] o
  by_case None = refl
  by_case (Some object) = refl
