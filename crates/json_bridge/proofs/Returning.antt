-- What was bound is given back.
use Rattle.std.proofs.Common.{◌≡◌, ◌∙◌, ℕ, zero, suc, ◌+◌, ◌-◌, ◌≤◌, ℤ, Bool, true, false, true≢false, Option, Some, None, Ok, List, [], ◌∷◌, ◌++◌, length, slice_get, bytes_eq, refl, sym, ap, subst, arith, append-nil, append_assoc, if◌then◌else◌}
use Rattle.std.proofs.lemmas.Slice.Eq.{bytes_eq-Decides}
use Rattle.std.specs.Str.{IsUtf8}
use Rattle.pl_types.specs.declared.classes.TheConstants.{ARRAY_LIST, HASH_MAP}
use Rattle.pl_units.specs.Utf16.{units, bytes}
use Rattle.pl_units.proofs.Utf16Lemmas.{bytes_of_units}
use Rattle.serde_json.specs.Data.{Num, Data, null, boolean, number, string, array, object, Items, no_items, item, Members, no_members, member, put}
use Rattle.serde_json.specs.Find.{as_i64, of_integer}
use Rattle.serde_json.specs.View.{items_of}
use Rattle.object_values.specs.declared.value.Value.{Value}
use Rattle.object_values.specs.declared.value.Value.TheVariants as v
use Rattle.object_values.specs.declared.object.Object.{Object}
use Rattle.object_values.specs.declared.object.Object.TheVariants as o
use Rattle.object_values.specs.Pairs.{value_of, with_pair}
use Rattle.object_values.specs.Values.{same_value}
use Rattle.json_bridge.specs.Binding.{Bound, BoundItems, BoundMembers, guard_of, value_of_whole, bound, bound_items, bound_members, with_next_item, with_next_member}
use Rattle.json_bridge.specs.Giving.{Walk, Makes, Ends, Key, follow, map_given, object_given, answer_of, given_of, Node, AValue, is_among, are_new_names, items_given, members_given, found_given, node_given, node_at}
use Rattle.json_bridge.specs.Returning.{in_order, items_in_order, members_in_order, IsRead, ItemsAreRead, MembersAreRead, StandsIn, ItemsStandIn, MembersStandIn, count_of, items_count, members_count}

add_assoc : (a b c : ℕ) → (a + b) + c ≡ a + (b + c)
add_assoc a b c = omega arith

-- ---- heaps that grow

abbrev Begins : List Object → List Object → Type 0
Begins xs ys = (more : List Object) × (ys ≡ xs ++ more)

begins_same : (xs : List Object) → Begins xs xs
begins_same xs = ([], sym (append-nil xs))

begins_through : (xs ys zs : List Object) → Begins xs ys → Begins ys zs → Begins xs zs
begins_through xs ys zs (a, e) (b, f) = (a ++ b, f ∙ (ap (λ l. l ++ b) e ∙ append_assoc xs a b))

begins_placed : (xs ys : List Object) (next : Object) → Begins xs ys → Begins xs (ys ++ next ∷ [])
begins_placed xs ys next h = begins_through xs ys (ys ++ next ∷ []) h (next ∷ [], refl)

mutual
  bound_grows : (frozen : Bool) (objects : List Object) (d : Data) → Begins objects (bound frozen objects d).objects
  bound_grows frozen objects null = begins_same objects
  bound_grows frozen objects (boolean b) = begins_same objects
  bound_grows frozen objects (number n) = begins_same objects
  bound_grows frozen objects (string s) = begins_same objects
  bound_grows frozen objects (array ds) = begins_placed objects _ _ (items_grow frozen (record { values = []; objects = objects }) ds)
  bound_grows frozen objects (object ms) = begins_placed objects _ _ (members_grow frozen (record { pairs = []; objects = objects }) ms)

  items_grow : (frozen : Bool) (made : BoundItems) (ds : Items) → Begins made.objects (bound_items frozen made ds).objects
  items_grow frozen made no_items = begins_same made.objects
  items_grow frozen made (item d ds) =
      begins_through made.objects (bound frozen made.objects d).objects _ (bound_grows frozen made.objects d) (items_grow frozen (with_next_item made (bound frozen made.objects d)) ds)

  members_grow : (frozen : Bool) (made : BoundMembers) (ms : Members) → Begins made.objects (bound_members frozen made ms).objects
  members_grow frozen made no_members = begins_same made.objects
  members_grow frozen made (member name d ms) =
      begins_through made.objects (bound frozen made.objects d).objects _ (bound_grows frozen made.objects d) (members_grow frozen (with_next_member made name (bound frozen made.objects d)) ms)

at_end : (xs : List Object) (x : Object) (more : List Object) → slice_get ((xs ++ x ∷ []) ++ more) (length xs) ≡ Some x
at_end [] x more = refl
at_end (first ∷ xs) x more = at_end xs x more

-- the object that was placed last is there
there : (xs ys : List Object) (x : Object) → Begins (xs ++ x ∷ []) ys → slice_get ys (length xs) ≡ Some x
there xs ys x (more, e) = ap (λ l. slice_get l (length xs)) e ∙ at_end xs x more

-- ---- what is bound of items and members

abbrev values_of : Bool → List Object → Items → List Value
values_of frozen objects no_items = []
values_of frozen objects (item d ds) = (bound frozen objects d).value ∷ values_of frozen (bound frozen objects d).objects ds

items_values : (frozen : Bool) (made : BoundItems) (ds : Items) → (bound_items frozen made ds).values ≡ made.values ++ values_of frozen made.objects ds
items_values frozen made no_items = sym (append-nil made.values)
items_values frozen made (item d ds) =
    items_values frozen (with_next_item made (bound frozen made.objects d)) ds ∙ append_assoc made.values ((bound frozen made.objects d).value ∷ []) (values_of frozen (bound frozen made.objects d).objects ds)

abbrev pairs_of : Bool → List Object → Members → List (Value × Value)
pairs_of frozen objects no_members = []
pairs_of frozen objects (member name d ms) = (v.Str (units name), (bound frozen objects d).value) ∷ pairs_of frozen (bound frozen objects d).objects ms

-- no pair has the key of another name than these
abbrev Named : List (List ℕ) → List (Value × Value) → Type 0
Named names pairs = (name : List ℕ) → IsUtf8 name → is_among name names ≡ false → value_of pairs (v.Str (units name)) ≡ None

not_found : (test : Bool) (value : Value) (rest : Option Value) → (if test then Some value else rest) ≡ None → (test ≡ false) × (rest ≡ None)
not_found true value rest h = cc
not_found false value rest h = (refl, h)

passed_by : (test : Bool) (value : Value) (rest : Option Value) → test ≡ false → rest ≡ None → (if test then Some value else rest) ≡ None
passed_by true value rest e h = cc
passed_by false value rest e h = h

put_behind : (test : Bool) (pair : Value × Value) (pairs rest more : List (Value × Value)) (value : Value) → test ≡ false → rest ≡ more
    → (if test then (pair.0, value) ∷ pairs else pair ∷ rest) ≡ pair ∷ more
put_behind true pair pairs rest more value e h = cc
put_behind false pair pairs rest more value e h = ap (λ l. pair ∷ l) h

-- a key that is not there goes last
put_last : (pairs : List (Value × Value)) (key value : Value) → value_of pairs key ≡ None → with_pair pairs key value ≡ pairs ++ (key, value) ∷ []
put_last [] key value h = refl
put_last (pair ∷ pairs) key value h =
    let apart = not_found (same_value key pair.0) pair.1 (value_of pairs key) h in
    put_behind (same_value key pair.0) pair pairs (with_pair pairs key value) (pairs ++ (key, value) ∷ []) value apart.0 (put_last pairs key value apart.1)

still_absent : (pairs : List (Value × Value)) (key value other : Value) → value_of pairs other ≡ None → same_value other key ≡ false → value_of (pairs ++ (key, value) ∷ []) other ≡ None
still_absent [] key value other h e = passed_by (same_value other key) value None e refl
still_absent (pair ∷ pairs) key value other h e =
    let apart = not_found (same_value other pair.0) pair.1 (value_of pairs other) h in
    passed_by (same_value other pair.0) pair.1 (value_of (pairs ++ (key, value) ∷ []) other) apart.0 (still_absent pairs key value other apart.1 e)

not_among : (test rest : Bool) → (if test then true else rest) ≡ false → (test ≡ false) × (rest ≡ false)
not_among true rest h = cc
not_among false rest h = (refl, h)

differ : (a b : List ℕ) (test : Bool) → IsUtf8 a → IsUtf8 b → bytes_eq a b ≡ false → bytes_eq (units a) (units b) ≡ test → test ≡ false
differ a b true p q apart e =
    let same : a ≡ b = sym (bytes_of_units a p) ∙ (ap bytes ((bytes_eq-Decides (units a) (units b)).0 e) ∙ bytes_of_units b q) in
    absurd (true≢false (sym ((bytes_eq-Decides a b).1 same) ∙ apart))
differ a b false p q apart e = refl

named_with : (names : List (List ℕ)) (pairs : List (Value × Value)) (name : List ℕ) (value : Value) → IsUtf8 name → Named names pairs
    → Named (name ∷ names) (pairs ++ (v.Str (units name), value) ∷ [])
named_with names pairs name value u h other w apart =
    let parts = not_among (bytes_eq other name) (is_among other names) apart in
    still_absent pairs (v.Str (units name)) value (v.Str (units other)) (h other w parts.1) (differ other name _ w u parts.0 refl)

members_pairs : (frozen : Bool) (names : List (List ℕ)) (made : BoundMembers) (ms : Members) → MembersAreRead names ms → Named names made.pairs
    → (bound_members frozen made ms).pairs ≡ made.pairs ++ pairs_of frozen made.objects ms
members_pairs frozen names made no_members r h = sym (append-nil made.pairs)
members_pairs frozen names made (member name d ms) (u, apart, r, rs) h =
    let next = bound frozen made.objects d in
    let last : with_pair made.pairs (v.Str (units name)) next.value ≡ made.pairs ++ (v.Str (units name), next.value) ∷ [] = put_last made.pairs (v.Str (units name)) next.value (h name u apart) in
    let still : Named (name ∷ names) (with_pair made.pairs (v.Str (units name)) next.value) =
    subst (Named (name ∷ names)) (sym last) (named_with names made.pairs name next.value u h) in
    members_pairs frozen (name ∷ names) (with_next_member made name next) ms rs still
    ∙ (ap (λ l. l ++ pairs_of frozen next.objects ms) last ∙ append_assoc made.pairs ((v.Str (units name), next.value) ∷ []) (pairs_of frozen next.objects ms))

new_names : (frozen : Bool) (names : List (List ℕ)) (objects : List Object) (ms : Members) → MembersAreRead names ms → are_new_names names (pairs_of frozen objects ms) ≡ true
new_names frozen names objects no_members r = refl
new_names frozen names objects (member name d ms) (u, apart, r, rs) = rw (bytes_of_units name u, apart) (new_names frozen (name ∷ names) (bound frozen objects d).objects ms rs)

-- ---- what is given

stepped : (levels n rest : ℕ) (objects : List Object) (node : Node) → n ≡ 1 + rest → node_at (suc levels) objects node n ≡ node_given (node_at levels objects) objects node rest
stepped levels n rest objects node e =
    let s : n ≡ suc rest = omega (arith, e) in
    rw s refl

flag_given : (give : Node → ℕ → Walk Data) (objects : List Object) (z : ℤ) (test : Bool) (n : ℕ)
    → node_given give objects (AValue (if test then v.Int z else v.Long z)) n ≡ Makes (number (of_integer z)) n
flag_given give objects z true n = refl
flag_given give objects z false n = refl

whole_given : (give : Node → ℕ → Walk Data) (objects : List Object) (x : Num) (z : ℤ) (n : ℕ) → as_i64 x ≡ Some z → of_integer z ≡ x
    → node_given give objects (AValue (value_of_whole (as_i64 x))) n ≡ Makes (number x) n
whole_given give objects x z n e f = rw e (flag_given give objects z _ n ∙ ap (λ y. Makes (number y) n) f)

mutual
  pub given_back : (frozen : Bool) (objects : List Object) (d : Data) (levels rest : ℕ) (after : List Object) → Begins (bound frozen objects d).objects after
      → IsRead d → StandsIn levels d → node_at levels after (AValue (bound frozen objects d).value) (count_of d + rest) ≡ Makes (in_order d) rest
  given_back frozen objects d zero rest after b r s = absurd s
  given_back frozen objects null (suc levels) rest after b r s = stepped levels (1 + rest) rest after (AValue v.Null) refl
  given_back frozen objects (boolean flag) (suc levels) rest after b r s = stepped levels (1 + rest) rest after (AValue (v.Bool flag)) refl
  given_back frozen objects (number x) (suc levels) rest after b (z, e, f) s =
      stepped levels (1 + rest) rest after (AValue (value_of_whole (as_i64 x))) refl ∙ whole_given (node_at levels after) after x z rest e f
  given_back frozen objects (string t) (suc levels) rest after b r s =
      stepped levels (1 + rest) rest after (AValue (v.Str (units t))) refl ∙ ap (λ u. Makes (string u) rest) (bytes_of_units t r)
  given_back frozen objects (array ds) (suc levels) rest after b r s =
      let made : BoundItems = bound_items frozen (record { values = []; objects = objects }) ds in
      stepped levels ((1 + items_count ds) + rest) (items_count ds + rest) after (AValue (v.Ref (length made.objects))) (omega arith)
      ∙ (ap (λ x. found_given (node_at levels after) after x (items_count ds + rest)) (there made.objects after (o.List ARRAY_LIST made.values (guard_of frozen) 0) b)
      ∙ (ap (λ vs. follow (items_given (λ value. node_at levels after (AValue value)) [] vs (items_count ds + rest)) (λ xs. Makes (array (items_of xs)))) (items_values frozen (record { values = []; objects = objects }) ds)
      ∙ ap (λ w. follow w (λ xs. Makes (array (items_of xs)))) (items_back frozen (record { values = []; objects = objects }) ds levels rest after (begins_through made.objects _ after (o.List ARRAY_LIST made.values (guard_of frozen) 0 ∷ [], refl) b) r s [])))
  given_back frozen objects (object ms) (suc levels) rest after b r s =
      let made : BoundMembers = bound_members frozen (record { pairs = []; objects = objects }) ms in
      let pairs : made.pairs ≡ pairs_of frozen objects ms = members_pairs frozen [] (record { pairs = []; objects = objects }) ms r (λ name u apart. refl) in
      stepped levels ((1 + members_count ms) + rest) (members_count ms + rest) after (AValue (v.Ref (length made.objects))) (omega arith)
      ∙ (ap (λ x. found_given (node_at levels after) after x (members_count ms + rest)) (there made.objects after (o.Map HASH_MAP made.pairs (guard_of frozen) 0) b)
      ∙ (ap (λ ps. map_given (λ value. node_at levels after (AValue value)) ps (members_count ms + rest)) pairs
      ∙ (ap (λ are. if are then object_given (λ value. node_at levels after (AValue value)) (pairs_of frozen objects ms) (members_count ms + rest) else Ends Key) (new_names frozen [] objects ms r)
      ∙ ap (λ w. follow w (λ xs. Makes (object xs))) (members_back frozen [] (record { pairs = []; objects = objects }) ms levels rest after (begins_through made.objects _ after (o.Map HASH_MAP made.pairs (guard_of frozen) 0 ∷ [], refl) b) r s no_members))))

  items_back : (frozen : Bool) (made : BoundItems) (ds : Items) (levels rest : ℕ) (after : List Object) → Begins (bound_items frozen made ds).objects after
      → ItemsAreRead ds → ItemsStandIn levels ds → (done : List Data)
      → items_given (λ value. node_at levels after (AValue value)) done (values_of frozen made.objects ds) (items_count ds + rest) ≡ Makes (done ++ items_in_order ds) rest
  items_back frozen made no_items levels rest after b r s done =
      let none : 0 + rest ≡ rest = omega arith in
      rw none (ap (λ ds. Makes ds rest) (sym (append-nil done)))
  items_back frozen made (item d ds) levels rest after b (r, rs) (s, ss) done =
      let next : Bound = bound frozen made.objects d in
      let here : Begins next.objects after = begins_through next.objects _ after (items_grow frozen (with_next_item made next) ds) b in
      ap (λ n. follow (node_at levels after (AValue next.value) n) (λ x m. items_given (λ value. node_at levels after (AValue value)) (done ++ x ∷ []) (values_of frozen next.objects ds) m)) (add_assoc (count_of d) (items_count ds) rest)
      ∙ (ap (λ w. follow w (λ x m. items_given (λ value. node_at levels after (AValue value)) (done ++ x ∷ []) (values_of frozen next.objects ds) m)) (given_back frozen made.objects d levels (items_count ds + rest) after here r s)
      ∙ (items_back frozen (with_next_item made next) ds levels rest after b rs ss (done ++ in_order d ∷ [])
      ∙ ap (λ xs. Makes xs rest) (append_assoc done (in_order d ∷ []) (items_in_order ds))))

  members_back : (frozen : Bool) (names : List (List ℕ)) (made : BoundMembers) (ms : Members) (levels rest : ℕ) (after : List Object) → Begins (bound_members frozen made ms).objects after
      → MembersAreRead names ms → MembersStandIn levels ms → (done : Members)
      → members_given (λ value. node_at levels after (AValue value)) done (pairs_of frozen made.objects ms) (members_count ms + rest) ≡ Makes (members_in_order done ms) rest
  members_back frozen names made no_members levels rest after b r s done =
      let none : 0 + rest ≡ rest = omega arith in
      rw none refl
  members_back frozen names made (member name d ms) levels rest after b (u, apart, r, rs) (s, ss) done =
      let next : Bound = bound frozen made.objects d in
      let here : Begins next.objects after = begins_through next.objects _ after (members_grow frozen (with_next_member made name next) ms) b in
      ap (λ n. follow (node_at levels after (AValue next.value) n) (λ x m. members_given (λ value. node_at levels after (AValue value)) (put (bytes (units name)) x done) (pairs_of frozen next.objects ms) m)) (add_assoc (count_of d) (members_count ms) rest)
      ∙ (ap (λ w. follow w (λ x m. members_given (λ value. node_at levels after (AValue value)) (put (bytes (units name)) x done) (pairs_of frozen next.objects ms) m)) (given_back frozen made.objects d levels (members_count ms + rest) after here r s)
      ∙ (ap (λ t. members_given (λ value. node_at levels after (AValue value)) (put t (in_order d) done) (pairs_of frozen next.objects ms) (members_count ms + rest)) (bytes_of_units name u)
      ∙ members_back frozen (name ∷ names) (with_next_member made name next) ms levels rest after b rs ss (put name (in_order d) done)))

pub bound_back : (frozen : Bool) (objects : List Object) (d : Data) → IsRead d → StandsIn 100 d → count_of d ≤ 1000000
    → given_of (bound frozen objects d).objects (bound frozen objects d).value ≡ Ok (in_order d)
unfolding given_of
bound_back frozen objects d r s h =
    let all : 1000000 ≡ count_of d + (1000000 - count_of d) = omega (arith, h) in
    ap (λ n. answer_of (node_at 100 (bound frozen objects d).objects (AValue (bound frozen objects d).value) n)) all
    ∙ ap answer_of (given_back frozen objects d 100 (1000000 - count_of d) (bound frozen objects d).objects (begins_same (bound frozen objects d).objects) r s)
