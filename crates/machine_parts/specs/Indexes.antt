-- By which members an index in brackets reads and writes.
use Rattle.std.specs.Prelude.{ℕ, zero, suc, List, [], ◌∷◌, ◌++◌}
use Rattle.allowlist.specs.Allow.{AllowList}
use Rattle.def_resolve.specs.declared.access.Purpose.TheVariants.{Read, Write}
use Rattle.def_resolve.specs.Accesses.{item_member, key_member}
use Rattle.machine_parts.specs.declared.index_table.IndexMembers.{IndexMembers}

-- of a class, of those that a list allows: an item of a list and what a map has under a key are read by one member
unfoldable pub index_members : AllowList → ℕ → IndexMembers
index_members allow class = record { read = item_member Read allow class; item = item_member Write allow class; key = key_member Write allow class }

-- of so many classes, in the order of their numbers
unfoldable pub index_rows : AllowList → ℕ → List IndexMembers
index_rows allow zero = []
index_rows allow (suc count) = index_rows allow count ++ (index_members allow count ∷ [])
