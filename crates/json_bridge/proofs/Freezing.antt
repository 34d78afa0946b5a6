-- What is bound frozen is frozen at every depth.
use Rattle.std.proofs.Common.{◌≡◌, true, List, [], ◌∷◌, ◌++◌, refl}
use Rattle.pl_types.specs.declared.classes.TheConstants.{ARRAY_LIST, HASH_MAP}
use Rattle.serde_json.specs.Data.{Data, null, boolean, number, string, array, object, Items, no_items, item, Members, no_members, member}
use Rattle.object_values.specs.declared.object.Object.{Object}
use Rattle.object_values.specs.declared.object.Object.TheVariants as o
use Rattle.object_heap.specs.Parts.{AreFrozen, is_frozen}
use Rattle.json_bridge.specs.Binding.{Bound, BoundItems, BoundMembers, bound, bound_items, bound_members, guard_of, with_next_item, with_next_member}

one_more : (objects : List Object) (next : Object) → is_frozen next ≡ true → AreFrozen objects → AreFrozen (objects ++ next ∷ [])
one_more [] next h f = (h, tt)
one_more (x ∷ objects) next h f = (f.0, one_more objects next h f.1)

mutual
  pub bound_frozen : (objects : List Object) (d : Data) → AreFrozen objects → AreFrozen (bound true objects d).objects
  bound_frozen objects null f = f
  bound_frozen objects (boolean b) f = f
  bound_frozen objects (number n) f = f
  bound_frozen objects (string s) f = f
  bound_frozen objects (array ds) f =
      let all : BoundItems = bound_items true (record { values = []; objects = objects }) ds in
      one_more all.objects (o.List ARRAY_LIST all.values (guard_of true) 0) refl (items_frozen (record { values = []; objects = objects }) ds f)
  bound_frozen objects (object ms) f =
      let all : BoundMembers = bound_members true (record { pairs = []; objects = objects }) ms in
      one_more all.objects (o.Map HASH_MAP all.pairs (guard_of true) 0) refl (members_frozen (record { pairs = []; objects = objects }) ms f)

  items_frozen : (items : BoundItems) (ds : Items) → AreFrozen items.objects → AreFrozen (bound_items true items ds).objects
  items_frozen items no_items f = f
  items_frozen items (item d ds) f = items_frozen (with_next_item items (bound true items.objects d)) ds (bound_frozen items.objects d f)

  members_frozen : (members : BoundMembers) (ms : Members) → AreFrozen members.objects → AreFrozen (bound_members true members ms).objects
  members_frozen members no_members f = f
  members_frozen members (member name d ms) f =
      members_frozen (with_next_member members name (bound true members.objects d)) ms (bound_frozen members.objects d f)
