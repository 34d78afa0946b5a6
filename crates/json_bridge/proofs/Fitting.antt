-- A heap that fits goes on fitting as values are bound in it.
use Rattle.std.proofs.Common.{◌≡◌, ℕ, ℤ, pos, negsuc, int_le, ◌≤◌, ◌&&◌, Bool, true, false, Option, Some, None, List, [], ◌∷◌, ◌++◌, length, refl, arith, length-append, if◌then◌else◌}
use Rattle.pl_types.specs.declared.classes.TheConstants.{LIST, ARRAY_LIST, MAP, HASH_MAP}
use Rattle.pl_types.specs.Classes.{class_is_below, lineage_of, parents_of, class_row, class_table}
use Rattle.pl_units.specs.Utf16.{units}
use Rattle.serde_json.specs.Data.{Data, null, boolean, number, string, array, object, Items, no_items, item, Members, no_members, member}
use Rattle.serde_json.specs.Find.{as_i64}
use Rattle.object_values.specs.declared.value.Value.{Value}
use Rattle.object_values.specs.declared.value.Value.TheVariants as v
use Rattle.object_values.specs.declared.object.Object.{Object}
use Rattle.object_values.specs.declared.object.Object.TheVariants as o
use Rattle.object_values.specs.Pairs.{HasDistinctKeys}
use Rattle.object_heap.specs.Fits.{kinds, Rules, ValueFits, AllFit, PairsFit, ObjectFits, Fits}
use Rattle.object_heap.proofs.Fitting.{added_fits, length-kinds}
use Rattle.object_heap.proofs.PairLemmas.{distinct_with, pairs_with}
use Rattle.json_bridge.specs.Binding.{Bound, BoundItems, BoundMembers, guard_of, value_of_whole, bound, bound_items, bound_members, placed, list_placed, map_placed, with_next_item, with_next_member}

value_more : (n m : ℕ) → n ≤ m → (value : Value) → ValueFits n value → ValueFits m value
value_more n m h (v.Ref id) f = omega arith
value_more n m h value f = tt

all_more : (n m : ℕ) → n ≤ m → (values : List Value) → AllFit n values → AllFit m values
all_more n m h [] f = tt
all_more n m h (value ∷ values) f = (value_more n m h value f.0, all_more n m h values f.1)

all_next : (n : ℕ) (values : List Value) (value : Value) → AllFit n values → ValueFits n value → AllFit n (values ++ value ∷ [])
all_next n [] value f h = (h, tt)
all_next n (first ∷ values) value f h = (f.0, all_next n values value f.1 h)

pairs_more : (n m : ℕ) → n ≤ m → (pairs : List (Value × Value)) → PairsFit n pairs → PairsFit m pairs
pairs_more n m h [] f = tt
pairs_more n m h (pair ∷ pairs) f = (f.0, value_more n m h pair.1 f.1, pairs_more n m h pairs f.2)

-- what is bound fits, and no object is gone
pub record KeepsValue (rules : Rules) (before : ℕ) (after : Bound) : Type 0 where
  pub fits : Fits rules after.objects
  pub value : ValueFits (length after.objects) after.value
  pub more : before ≤ length after.objects

record KeepsItems (rules : Rules) (before : ℕ) (after : BoundItems) : Type 0 where
  pub fits : Fits rules after.objects
  pub values : AllFit (length after.objects) after.values
  pub more : before ≤ length after.objects

record KeepsMembers (rules : Rules) (before : ℕ) (after : BoundMembers) : Type 0 where
  pub fits : Fits rules after.objects
  pub pairs : PairsFit (length after.objects) after.pairs
  pub distinct : HasDistinctKeys after.pairs
  pub more : before ≤ length after.objects

flag_fits : (count : ℕ) (z : ℤ) (test : Bool) → ValueFits count (if test then v.Int z else v.Long z)
flag_fits count z true = tt
flag_fits count z false = tt

whole_fits : (count : ℕ) (whole : Option ℤ) → ValueFits count (value_of_whole whole)
whole_fits count None = tt
whole_fits count (Some z) = flag_fits count z (int_le (negsuc 2147483647) z && int_le z (pos 2147483647))

placed_fits : (rules : Rules) (before : ℕ) (objects : List Object) (next : Object) → before ≤ length objects → Fits rules objects
    → ObjectFits rules (kinds objects) next → KeepsValue rules before (placed objects next)
placed_fits rules before objects next h f g = record {
  fits = added_fits rules objects next f g;
  value = omega (arith, length-append objects (next ∷ []));
  more = omega (arith, length-append objects (next ∷ []));
}

list_class : class_is_below ARRAY_LIST LIST ≡ true
unfolding class_is_below lineage_of parents_of class_row class_table
list_class = refl

map_class : class_is_below HASH_MAP MAP ≡ true
unfolding class_is_below lineage_of parents_of class_row class_table
map_class = refl

list_fits : (rules : Rules) (frozen : Bool) (before : ℕ) (items : BoundItems) → KeepsItems rules before items → KeepsValue rules before (list_placed frozen items)
list_fits rules frozen before items kept =
    placed_fits rules before items.objects (o.List ARRAY_LIST items.values (guard_of frozen) 0) kept.more kept.fits
    (list_class, all_more _ _ (omega (arith, length-kinds items.objects)) items.values kept.values)

map_fits : (rules : Rules) (frozen : Bool) (before : ℕ) (members : BoundMembers) → KeepsMembers rules before members → KeepsValue rules before (map_placed frozen members)
map_fits rules frozen before members kept =
    placed_fits rules before members.objects (o.Map HASH_MAP members.pairs (guard_of frozen) 0) kept.more kept.fits
    (map_class, pairs_more _ _ (omega (arith, length-kinds members.objects)) members.pairs kept.pairs, kept.distinct)

next_item_fits : (rules : Rules) (before : ℕ) (items : BoundItems) (next : Bound) → KeepsItems rules before items → KeepsValue rules (length items.objects) next
    → KeepsItems rules before (with_next_item items next)
next_item_fits rules before items next kept new = record {
  fits = new.fits;
  values = all_next _ items.values next.value (all_more _ _ new.more items.values kept.values) new.value;
  more = let a = kept.more in let b = new.more in omega arith;
}

next_member_fits : (rules : Rules) (before : ℕ) (members : BoundMembers) (name : List ℕ) (next : Bound) → KeepsMembers rules before members
    → KeepsValue rules (length members.objects) next → KeepsMembers rules before (with_next_member members name next)
next_member_fits rules before members name next kept new = record {
  fits = new.fits;
  pairs = pairs_with _ members.pairs (v.Str (units name)) next.value refl new.value (pairs_more _ _ new.more members.pairs kept.pairs);
  distinct = distinct_with members.pairs (v.Str (units name)) next.value kept.distinct;
  more = let a = kept.more in let b = new.more in omega arith;
}

mutual
  pub bound_fits : (rules : Rules) (frozen : Bool) (objects : List Object) (d : Data) → Fits rules objects → KeepsValue rules (length objects) (bound frozen objects d)
  bound_fits rules frozen objects null f = record { fits = f; value = tt; more = omega arith }
  bound_fits rules frozen objects (boolean b) f = record { fits = f; value = tt; more = omega arith }
  bound_fits rules frozen objects (number n) f = record { fits = f; value = whole_fits (length objects) (as_i64 n); more = omega arith }
  bound_fits rules frozen objects (string s) f = record { fits = f; value = tt; more = omega arith }
  bound_fits rules frozen objects (array ds) f =
      list_fits rules frozen (length objects) _
      (items_fit rules frozen (length objects) (record { values = []; objects = objects }) ds (record { fits = f; values = tt; more = omega arith }))
  bound_fits rules frozen objects (object ms) f =
      map_fits rules frozen (length objects) _
      (members_fit rules frozen (length objects) (record { pairs = []; objects = objects }) ms (record { fits = f; pairs = tt; distinct = tt; more = omega arith }))

  items_fit : (rules : Rules) (frozen : Bool) (before : ℕ) (items : BoundItems) (ds : Items) → KeepsItems rules before items
      → KeepsItems rules before (bound_items frozen items ds)
  items_fit rules frozen before items no_items kept = kept
  items_fit rules frozen before items (item d ds) kept =
      items_fit rules frozen before (with_next_item items (bound frozen items.objects d)) ds
      (next_item_fits rules before items (bound frozen items.objects d) kept (bound_fits rules frozen items.objects d kept.fits))

  members_fit : (rules : Rules) (frozen : Bool) (before : ℕ) (members : BoundMembers) (ms : Members) → KeepsMembers rules before members
      → KeepsMembers rules before (bound_members frozen members ms)
  members_fit rules frozen before members no_members kept = kept
  members_fit rules frozen before members (member name d ms) kept =
      members_fit rules frozen before (with_next_member members name (bound frozen members.objects d)) ms
      (next_member_fits rules before members name (bound frozen members.objects d) kept (bound_fits rules frozen members.objects d kept.fits))
