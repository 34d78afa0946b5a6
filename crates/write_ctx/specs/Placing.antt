-- The map `ctx` of a line in a heap.
use Rattle.std.specs.Prelude.{ℕ, true, false, List, [], ◌∷◌, codes}
use Rattle.pl_types.specs.declared.classes.TheConstants.{HASH_MAP}
use Rattle.pl_units.specs.Utf16.{units}
use Rattle.serde_json.specs.Data.{Data, string, object, Members, no_members, member, put}
use Rattle.object_values.specs.declared.object.Object.{Object}
use Rattle.object_values.specs.declared.object.Object.TheVariants as o
use Rattle.object_values.specs.declared.object.Guard.TheVariants as g
use Rattle.job_file.specs.Mappings.{members_of}
use Rattle.json_bridge.specs.Binding.{Bound, BoundMembers, bound, bound_members, placed}
use Rattle.write_ctx.specs.declared.keys.WriteKind.{WriteKind}
use Rattle.write_ctx.specs.declared.keys.WriteKind.TheVariants as kind
use Rattle.write_ctx.specs.declared.keys.LineKey.{LineKey}
use Rattle.write_ctx.specs.declared.keys.LineKey.TheVariants as key
use Rattle.write_ctx.specs.Keys.{name_of, keys_of, value_at}

-- ---- update

-- behind the keys of a line, what is to be done with the document
abbrev pub operation : Members
operation = member (codes "op") (string (codes "index")) no_members

-- the values of an update at these keys, in front of the operation
abbrev pub update_at : Data → List LineKey → Members
update_at line [] = operation
update_at line (key ∷ keys) = member (name_of key) (value_at kind.Update line key) (update_at line keys)

-- the keys that may be put
abbrev pub put_keys : List (List ℕ)
put_keys = units (codes "_source") ∷ units (codes "op") ∷ []

-- a map in which values may be put under these keys alone, and from which nothing may be removed
abbrev pub keyed : BoundMembers → Bound
keyed members = placed members.objects (o.Map HASH_MAP members.pairs (g.Keys put_keys) 0)

abbrev pub no_pairs : List Object → BoundMembers
no_pairs objects = record { pairs = []; objects = objects }

-- ---- ingest

-- the fields of the source with the id and the index, in byte order of all their keys
abbrev pub ingest_members : Data → Members
ingest_members line =
    put (codes "_id") (value_at kind.Ingest line key.Id) (put (codes "_index") (value_at kind.Ingest line key.Index) (members_of (value_at kind.Ingest line key.Source)))

-- ---- all

-- What a line places: for an update all its values and the operation, for an ingest the fields of its source and what stands beside it,
-- which may all be changed, and for a test the same, of which nothing may be.
abbrev pub ctx_placed : WriteKind → List Object → Data → Bound
ctx_placed kind.Update objects line = keyed (bound_members false (no_pairs objects) (update_at line (keys_of kind.Update)))
ctx_placed kind.Ingest objects line = bound false objects (object (ingest_members line))
ctx_placed kind.Test objects line = bound true objects (object (ingest_members line))
