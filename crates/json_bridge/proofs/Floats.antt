-- What is given has no float.
use Rattle.std.proofs.Common.{◌≡◌, ℕ, zero, suc, ℤ, pos, negsuc, ◌||◌, Bool, true, false, Option, Some, None, Ok, List, [], ◌∷◌, ◌++◌, slice_get, refl, if◌then◌else◌}
use Rattle.std.specs.Cmp.Lexicographic.{slice_cmp}
use Rattle.std.specs.Ordering.{nat_cmp, match_ordering}
use Rattle.std.specs.declared.cmp.Ordering.{Ordering}
use Rattle.std.specs.declared.cmp.Ordering.TheVariants.{Less, Equal, Greater}
use Rattle.serde_json.specs.Data.{Data, number, Members, no_members, member, put}
use Rattle.serde_json.specs.Find.{of_integer}
use Rattle.serde_json.specs.View.{items_of}
use Rattle.serde_json.specs.Written.{has_float, items_have_float, members_have_float}
use Rattle.object_values.specs.declared.value.Value.{Value}
use Rattle.object_values.specs.declared.value.Value.TheVariants as v
use Rattle.object_values.specs.declared.object.Object.{Object}
use Rattle.object_values.specs.declared.object.Object.TheVariants as o
use Rattle.object_values.specs.declared.object.Part.TheVariants as part
use Rattle.object_heap.specs.Parts.{map_of, pairs_in}
use Rattle.json_bridge.specs.Giving.{Key, Walk, Makes, Ends, follow, Node, AValue, AnEntry, shown_of, name_of, are_new_names, items_given, array_given, members_given, object_given, map_given, plain_given, held_given, found_given, node_given, node_at, answer_of, given_of}
use Rattle.json_bridge.specs.Without.{given_without, without}

-- what a walk makes is so
abbrev Holds : {A : Type 0} → (A → Type 0) → Walk A → Type 0
Holds P (Makes made nodes) = P made
Holds P (Ends fault) = Unit {0}

follow_holds : {A B : Type 0} → (P : A → Type 0) (Q : B → Type 0) (walk : Walk A) (further : A → ℕ → Walk B) → Holds P walk
    → ((a : A) (n : ℕ) → P a → Holds Q (further a n)) → Holds Q (follow walk further)
follow_holds P Q (Makes made nodes) further h k = k made nodes h
follow_holds P Q (Ends fault) further h k = tt

abbrev Whole : Data → Type 0
Whole d = has_float d ≡ false

abbrev AllWhole : List Data → Type 0
AllWhole ds = items_have_float (items_of ds) ≡ false

abbrev MembersWhole : Members → Type 0
MembersWhole ms = members_have_float ms ≡ false

neither : (a b : Bool) → (a || b) ≡ false → (a ≡ false) × (b ≡ false)
neither true b h = absurd (cc)
neither false b h = (refl, h)

both : (a b : Bool) → a ≡ false → b ≡ false → (a || b) ≡ false
both a b h k = rw (h, k) refl

with_last : (ds : List Data) (d : Data) → AllWhole ds → Whole d → AllWhole (ds ++ d ∷ [])
with_last [] d h k = both _ _ k refl
with_last (first ∷ ds) d h k = let parts = neither (has_float first) (items_have_float (items_of ds)) h in both _ _ parts.0 (with_last ds d parts.1 k)

put_at : (order : Ordering) (a b c : Members) → MembersWhole a → MembersWhole b → MembersWhole c → MembersWhole (match_ordering order a b c)
put_at Less a b c h k l = h
put_at Equal a b c h k l = k
put_at Greater a b c h k l = l

with_member : (name : List ℕ) (d : Data) (ms : Members) → Whole d → MembersWhole ms → MembersWhole (put name d ms)
with_member name d no_members h k = both _ _ h refl
with_member name d (member other e ms) h k =
    let parts = neither (has_float e) (members_have_float ms) k in
    put_at (slice_cmp nat_cmp name other) _ _ _ (both _ _ h k) (both _ _ h parts.1) (both _ _ parts.0 (with_member name d ms h parts.1))

items_whole : {A : Type 0} → (give : A → ℕ → Walk Data) → ((item : A) (n : ℕ) → Holds Whole (give item n)) → (made : List Data) (items : List A) (n : ℕ) → AllWhole made
    → Holds AllWhole (items_given give made items n)
items_whole give h made [] n k = k
items_whole give h made (item ∷ items) n k =
    follow_holds Whole AllWhole (give item n) _ (h item n) (λ d rest w. items_whole give h (made ++ d ∷ []) items rest (with_last made d k w))

array_whole : {A : Type 0} → (give : A → ℕ → Walk Data) → ((item : A) (n : ℕ) → Holds Whole (give item n)) → (items : List A) (n : ℕ) → Holds Whole (array_given give items n)
array_whole give h items n = follow_holds AllWhole Whole (items_given give [] items n) _ (items_whole give h [] items n refl) (λ ds rest w. w)

members_whole : (give : Value → ℕ → Walk Data) → ((value : Value) (n : ℕ) → Holds Whole (give value n)) → (made : Members) (pairs : List (Value × Value)) (n : ℕ) → MembersWhole made
    → Holds MembersWhole (members_given give made pairs n)
members_whole give h made [] n k = k
members_whole give h made (pair ∷ pairs) n k =
    follow_holds Whole MembersWhole (give pair.1 n) _ (h pair.1 n) (λ d rest w. members_whole give h (put (name_of pair.0) d made) pairs rest (with_member (name_of pair.0) d made w k))

object_whole : (give : Value → ℕ → Walk Data) → ((value : Value) (n : ℕ) → Holds Whole (give value n)) → (pairs : List (Value × Value)) (n : ℕ) → Holds Whole (object_given give pairs n)
object_whole give h pairs n = follow_holds MembersWhole Whole (members_given give no_members pairs n) _ (members_whole give h no_members pairs n refl) (λ ms rest w. w)

tried : (are : Bool) (walk : Walk Data) → Holds Whole walk → Holds Whole (if are then walk else Ends Key)
tried true walk h = h
tried false walk h = tt

integer_whole : (a : ℤ) → Whole (number (of_integer a))
integer_whole (pos n) = refl
integer_whole (negsuc n) = refl

plain_whole : (value : Value) (n : ℕ) → Holds Whole (plain_given value n)
plain_whole v.Null n = refl
plain_whole (v.Bool flag) n = refl
plain_whole (v.Byte a) n = integer_whole a
plain_whole (v.Short a) n = integer_whole a
plain_whole (v.Char unit) n = refl
plain_whole (v.Int a) n = integer_whole a
plain_whole (v.Long a) n = integer_whole a
plain_whole (v.Str text) n = refl
plain_whole (v.Ref id) n = tt

module _ (give : Node → ℕ → Walk Data) (h : (node : Node) (n : ℕ) → Holds Whole (give node n)) (objects : List Object) where
  held_whole : (held : Object) (n : ℕ) → Holds Whole (held_given give objects held n)
  held_whole (o.List class items guard changes) n = array_whole (λ value. give (AValue value)) (λ value. h (AValue value)) items n
  held_whole (o.Map class pairs guard changes) n =
      tried (are_new_names [] pairs) (object_given (λ value. give (AValue value)) pairs n) (object_whole (λ value. give (AValue value)) (λ value. h (AValue value)) pairs n)
  held_whole (o.Set class items guard changes) n = array_whole (λ pair. give (shown_of part.Keys pair)) (λ pair. h (shown_of part.Keys pair)) items n
  held_whole (o.Array elem items) n = array_whole (λ value. give (AValue value)) (λ value. h (AValue value)) items n
  held_whole (o.View map which) n = array_whole (λ pair. give (shown_of which pair)) (λ pair. h (shown_of which pair)) (pairs_in (map_of objects map)) n
  held_whole (o.Entry map key) n = tt
  held_whole (o.Iter over cursor seen last) n = tt
  held_whole (o.Builder units) n = tt
  held_whole (o.Fun iface target captures) n = tt
  held_whole (o.Exc class message) n = tt

  found_whole : (found : Option Object) (n : ℕ) → Holds Whole (found_given give objects found n)
  found_whole None n = tt
  found_whole (Some held) n = held_whole held n

  node_whole : (node : Node) (n : ℕ) → Holds Whole (node_given give objects node n)
  node_whole (AValue v.Null) n = plain_whole v.Null n
  node_whole (AValue (v.Bool flag)) n = plain_whole (v.Bool flag) n
  node_whole (AValue (v.Byte a)) n = plain_whole (v.Byte a) n
  node_whole (AValue (v.Short a)) n = plain_whole (v.Short a) n
  node_whole (AValue (v.Char unit)) n = plain_whole (v.Char unit) n
  node_whole (AValue (v.Int a)) n = plain_whole (v.Int a) n
  node_whole (AValue (v.Long a)) n = plain_whole (v.Long a) n
  node_whole (AValue (v.Str text)) n = plain_whole (v.Str text) n
  node_whole (AValue (v.Ref id)) n = found_whole (slice_get objects id) n
  node_whole AnEntry n = tt

walk_whole : (levels : ℕ) (objects : List Object) (node : Node) (n : ℕ) → Holds Whole (node_at levels objects node n)
walk_whole zero objects node n = tt
walk_whole (suc levels) objects node zero = tt
walk_whole (suc levels) objects node (suc n) = node_whole (node_at levels objects) (walk_whole levels objects) objects node n

answer_whole : (walk : Walk Data) (d : Data) → Holds Whole walk → answer_of walk ≡ Ok d → has_float d ≡ false
answer_whole (Makes made n) d h e = cc
answer_whole (Ends fault) d h e = absurd (cc)

pub given_whole : (objects : List Object) (value : Value) (d : Data) → given_of objects value ≡ Ok d → has_float d ≡ false
unfolding given_of
given_whole objects value d e = answer_whole (node_at 100 objects (AValue value) 1000000) d (walk_whole 100 objects (AValue value) 1000000) e

pub without_whole : (keys : List Value) (objects : List Object) (pairs : List (Value × Value)) (d : Data) → given_without keys objects pairs ≡ Ok d → has_float d ≡ false
unfolding given_without
without_whole keys objects pairs d e =
    let give : Value → ℕ → Walk Data = λ value. node_at 99 objects (AValue value) in
    answer_whole (map_given give (without keys pairs) 999999) d
    (tried (are_new_names [] (without keys pairs)) (object_given give (without keys pairs) 999999) (object_whole give (λ value. walk_whole 99 objects (AValue value)) (without keys pairs) 999999)) e
