-- What is bound stands behind the objects that were there.
use Rattle.std.proofs.Common.{◌≡◌, ℕ, zero, suc, ◌≤◌, Bool, true, List, [], ◌∷◌, ◌++◌, length, slice_get, refl, sym, ap, ◌∙◌, arith, append-nil, append_assoc, length-append}
use Rattle.std.proofs.lemmas.Bool.{false≢true}
use Rattle.serde_json.specs.Data.{Data, null, boolean, number, string, array, object, Items, no_items, item, Members, no_members, member}
use Rattle.object_values.specs.declared.object.Object.{Object}
use Rattle.object_heap.specs.Fits.{kinds, passes}
use Rattle.object_heap.specs.Objects.{Kind, kind_of}
use Rattle.json_bridge.specs.Binding.{BoundItems, BoundMembers, bound, bound_items, bound_members, with_next_item, with_next_member}

-- objects begin with others
abbrev pub Begins : List Object → List Object → Type 0
Begins old new = (more : List Object) × (new ≡ old ++ more)

same : (objects : List Object) → Begins objects objects
same objects = ([], sym (append-nil objects))

pub one_more : (objects : List Object) (next : Object) → Begins objects (objects ++ next ∷ [])
one_more objects next = (next ∷ [], refl)

pub begins_then : (a b c : List Object) → Begins a b → Begins b c → Begins a c
begins_then a b c p q = (p.0 ++ q.0, q.1 ∙ ap (λ (front : List Object). front ++ q.0) p.1 ∙ append_assoc a p.0 q.0)

mutual
  pub bound_begins : (frozen : Bool) (objects : List Object) (d : Data) → Begins objects (bound frozen objects d).objects
  bound_begins frozen objects null = same objects
  bound_begins frozen objects (boolean b) = same objects
  bound_begins frozen objects (number n) = same objects
  bound_begins frozen objects (string s) = same objects
  bound_begins frozen objects (array ds) = begins_then objects _ _ (items_begin frozen (record { values = []; objects = objects }) ds) (one_more _ _)
  bound_begins frozen objects (object ms) = begins_then objects _ _ (members_begin frozen (record { pairs = []; objects = objects }) ms) (one_more _ _)

  items_begin : (frozen : Bool) (items : BoundItems) (ds : Items) → Begins items.objects (bound_items frozen items ds).objects
  items_begin frozen items no_items = same items.objects
  items_begin frozen items (item d ds) =
      begins_then items.objects _ _ (bound_begins frozen items.objects d) (items_begin frozen (with_next_item items (bound frozen items.objects d)) ds)

  pub members_begin : (frozen : Bool) (members : BoundMembers) (ms : Members) → Begins members.objects (bound_members frozen members ms).objects
  members_begin frozen members no_members = same members.objects
  members_begin frozen members (member name d ms) =
      begins_then members.objects _ _ (bound_begins frozen members.objects d) (members_begin frozen (with_next_member members name (bound frozen members.objects d)) ms)

pub longer : (old new : List Object) → Begins old new → length old ≤ length new
longer old new p = rw p.1 (omega (arith, length-append old p.0))

kind_kept : (test : Kind → Bool) (objects more : List Object) (id : ℕ) → passes test (slice_get (kinds objects) id) ≡ true
    → passes test (slice_get (kinds (objects ++ more)) id) ≡ true
kind_kept test [] more id h = absurd (false≢true h)
kind_kept test (x ∷ objects) more zero h = h
kind_kept test (x ∷ objects) more (suc id) h = kind_kept test objects more id h

-- objects keep their kinds
pub kind_stays : (test : Kind → Bool) (old new : List Object) (id : ℕ) → Begins old new → passes test (slice_get (kinds old) id) ≡ true
    → passes test (slice_get (kinds new) id) ≡ true
kind_stays test old new id p h = rw p.1 (kind_kept test old p.0 id h)

pub last_kind : (test : Kind → Bool) (objects : List Object) (next : Object) → test (kind_of next) ≡ true
    → passes test (slice_get (kinds (objects ++ next ∷ [])) (length objects)) ≡ true
last_kind test [] next h = h
last_kind test (x ∷ objects) next h = last_kind test objects next h
