-- Ways through a value, name by name.
use Rattle.std.proofs.Common.{◌≡◌, ℕ, ◌<◌, List, [], ◌∷◌, length, Option, Some, None, Result, Ok, Err, option_map, String, BTreeMap, Global, string_bytes, string_cmp, nat_cmp, Bool, true, false, true≢false, bytes_eq, refl, sym, ap, ◌∙◌, arith}
use Rattle.std.specs.BTreeMap.{WritesThrough}
use Rattle.std.specs.Cmp.Lexicographic.{slice_cmp}
use Rattle.std.specs.Map.{lookup, remove_entry}
use Rattle.std.specs.Prelude.{◌||◌, ◌==◌, not, is_some, IsSome, OnOk, unwrap_or, option_and_then}
use Rattle.std.specs.declared.alloc.AllocError.{AllocError}
use Rattle.std.proofs.lemmas.Slice.Eq.{bytes_eq-Decides}
use Rattle.std.proofs.lemmas.Bool.{eqb-true}
use Rattle.serde_json.specs.Data.{Data, null, boolean, number, string, array, object, Members, no_members, put}
use Rattle.serde_json.specs.Find.{get, get_member, as_object}
use Rattle.serde_json.specs.View.{view, members_view}
use Rattle.serde_json.specs.declared.value.Value.{Value, Object}
use Rattle.serde_json.proofs.Views.{view-Object, view-lookup}
use Rattle.pipe_fields.specs.Ways.{below, find, is_blocked, put_at, without, without_member}
use Rattle.pipe_fields.proofs.Written.{At, members_removed, object_written}

-- ---- what is not there

pub free_below : (names : List (List ℕ)) → is_blocked names (object no_members) ≡ false
free_below [] = refl
free_below (name ∷ names) = free_below names

pub open_where_none : (name : List ℕ) (names : List (List ℕ)) (d : Data) → is_some (as_object d) ≡ true → get name d ≡ None → is_blocked (name ∷ names) d ≡ false
open_where_none name names d o g = rw (o, g) (free_below names)

second : (a b : Bool) → (a || b) ≡ false → b ≡ false
second true b h = cc
second false b h = h

pub free_on : (name : List ℕ) (names : List (List ℕ)) (d inner : Data) → is_blocked (name ∷ names) d ≡ false → get name d ≡ Some inner → is_blocked names inner ≡ false
free_on name names d inner free g = rw g at (second (not (is_some (as_object d))) (is_blocked names (below name d)) free)

-- ---- find

pub find_next : (name : List ℕ) (rest : List (List ℕ)) (d inner : Data) → 0 < length rest → get name d ≡ Some inner → find (name ∷ rest) d ≡ find rest inner
find_next name [] d inner some g = absurd (omega arith)
find_next name (next ∷ rest) d inner some g = ap (option_and_then (find (next ∷ rest))) g

pub find_none : (name : List ℕ) (rest : List (List ℕ)) (d : Data) → get name d ≡ None → find (name ∷ rest) d ≡ None
find_none name [] d g = g
find_none name (next ∷ rest) d g = ap (option_and_then (find (next ∷ rest))) g

pub find_last : (name : List ℕ) (rest : List (List ℕ)) (d : Data) → length rest ≡ 0 → find (name ∷ rest) d ≡ get name d
find_last name [] d none = refl
find_last name (next ∷ rest) d none = absurd (omega arith)

get_of_none : (name : List ℕ) (d : Data) → as_object d ≡ None → get name d ≡ None
get_of_none name d none = elim d as (λ d. as_object d ≡ None → get name d ≡ None) [ null ↦ λ h. refl | boolean b ↦ λ h. refl | number n ↦ λ h. refl | string s ↦ λ h. refl | array ds ↦ λ h. refl | object ms ↦ λ h. cc ] none

-- nothing is found in what is no object
pub find_no_object : (name : List ℕ) (rest : List (List ℕ)) (d : Data) → as_object d ≡ None → find (name ∷ rest) d ≡ None
find_no_object name rest d none = find_none name rest d (get_of_none name d none)

-- ---- a value's map

pub get_of : (name : List ℕ) (d : Data) (ms : Members) → Some ms ≡ as_object d → get name d ≡ get_member name ms
get_of name d ms is = elim d as (λ d. Some ms ≡ as_object d → get name d ≡ get_member name ms) [ null ↦ λ h. cc | boolean b ↦ λ h. cc | number n ↦ λ h. cc | string s ↦ λ h. cc | array ds ↦ λ h. cc | object os ↦ λ h. cc ] is

pub object_of : (d : Data) (ms : Members) → Some ms ≡ as_object d → d ≡ object ms
object_of d ms is = elim d as (λ d. Some ms ≡ as_object d → d ≡ object ms) [ null ↦ λ h. cc | boolean b ↦ λ h. cc | number n ↦ λ h. cc | string s ↦ λ h. cc | array ds ↦ λ h. cc | object os ↦ λ h. cc ] is

pub get_in : (name : List ℕ) (d : Data) (m : BTreeMap (String Global) Value) → Some (members_view m.entries) ≡ as_object d → option_map view (lookup (At name) m.entries) ≡ get name d
get_in name d m is = view-lookup name m.entries ∙ sym (get_of name d (members_view m.entries) is)

-- ---- taking out

pub left_last : (name : List ℕ) (rest : List (List ℕ)) (d : Data) (m n : BTreeMap (String Global) Value) → length rest ≡ 0 → Some (members_view m.entries) ≡ as_object d
    → n.entries ≡ remove_entry (At name) m.entries → lookup (At name) n.entries ≡ None → view (Object n) ≡ without (name ∷ rest) d
left_last name (next ∷ rest) d m n none is e gone = absurd (omega arith)
left_last name [] d m n none is e gone =
    view-Object n ∙ ap (λ es. object (members_view es)) e ∙ ap object (members_removed name m.entries (ap (lookup (At name)) (sym e) ∙ gone))
    ∙ ap (λ o. object (without_member name (unwrap_or o no_members))) is

pub left_next : (name : List ℕ) (rest : List (List ℕ)) (d : Data) (m n : BTreeMap (String Global) Value) (inner w : Value) → 0 < length rest → Some (members_view m.entries) ≡ as_object d
    → lookup (At name) m.entries ≡ Some inner → WritesThrough string_cmp (λ (k : String Global). slice_cmp nat_cmp name (string_bytes k)) m w n
    → view w ≡ without rest (view inner) → view (Object n) ≡ without (name ∷ rest) d
left_next name [] d m n inner w some is found h e = absurd (omega arith)
left_next name (next ∷ rest) d m n inner w some is found h e =
    let g : get name d ≡ Some (view inner) = sym (get_in name d m is) ∙ ap (option_map view) found in
    object_written name m n inner w found h
    ∙ ap (λ v. object (put name v (members_view m.entries))) (e ∙ ap (λ o. without (next ∷ rest) (unwrap_or o (object no_members))) (sym g))
    ∙ ap (λ o. object (put name (without (next ∷ rest) (below name d)) (unwrap_or o no_members))) is

-- ---- putting in

pub put_next : (name : List ℕ) (rest : List (List ℕ)) (d v : Data) (m n : BTreeMap (String Global) Value) (inner w : Value) → Some (members_view m.entries) ≡ as_object d
    → lookup (At name) m.entries ≡ Some inner → WritesThrough string_cmp (λ (k : String Global). slice_cmp nat_cmp name (string_bytes k)) m w n
    → view w ≡ put_at rest v (view inner) → view (Object n) ≡ put_at (name ∷ rest) v d
put_next name rest d v m n inner w is found h e =
    let g : get name d ≡ Some (view inner) = sym (get_in name d m is) ∙ ap (option_map view) found in
    object_written name m n inner w found h
    ∙ ap (λ u. object (put name u (members_view m.entries))) (e ∙ ap (λ o. put_at rest v (unwrap_or o (object no_members))) (sym g))
    ∙ ap (λ o. object (put name (put_at rest v (below name d)) (unwrap_or o no_members))) is

pub put_made : (name : List ℕ) (rest : List (List ℕ)) (d v made : Data) (m n : BTreeMap (String Global) Value) → Some (members_view m.entries) ≡ as_object d
    → get name d ≡ None → made ≡ put_at rest v (object no_members) → members_view n.entries ≡ put name made (members_view m.entries) → view (Object n) ≡ put_at (name ∷ rest) v d
put_made name rest d v made m n is none e h =
    view-Object n ∙ ap object h
    ∙ ap (λ u. object (put name u (members_view m.entries))) (e ∙ ap (λ o. put_at rest v (unwrap_or o (object no_members))) (sym none))
    ∙ ap (λ o. object (put name (put_at rest v (below name d)) (unwrap_or o no_members))) is

-- ---- as the code has them: a name is the text `key`

pub open_here : (names : List (List ℕ)) (name : List ℕ) (rest : List (List ℕ)) (d : Data) → names ≡ name ∷ rest → is_some (as_object d) ≡ true → None ≡ get name d → false ≡ is_blocked names d
open_here names name rest d ns o g = rw ns (sym (open_where_none name rest d o (sym g)))

pub find_unnamed : (names : List (List ℕ)) (d : Data) → length names ≡ 0 → None ≡ find names d
find_unnamed [] d none = refl
find_unnamed (name ∷ rest) d none = absurd (omega arith)

pub without_unnamed : (names : List (List ℕ)) (d : Data) → length names ≡ 0 → d ≡ without names d
without_unnamed [] d none = refl
without_unnamed (name ∷ rest) d none = absurd (omega arith)

pub put_unnamed : (names : List (List ℕ)) (v d : Data) → length names ≡ 0 → v ≡ put_at names v d
put_unnamed [] v d none = refl
put_unnamed (name ∷ rest) v d none = absurd (omega arith)

pub nothing_in : (names : List (List ℕ)) (name : List ℕ) (rest : List (List ℕ)) (d : Data) → names ≡ name ∷ rest → None ≡ as_object d → None ≡ find names d
nothing_in names name rest d ns none = rw ns (sym (find_no_object name rest d (sym none)))

-- what was to be found and is not
pub never : (a b d : Data) (names : List (List ℕ)) → IsSome (find names d) → None ≡ find names d → a ≡ b
never a b d names some none = absurd (true≢false (sym some ∙ ap (λ o. is_some o) (sym none)))

pub never_blocked : (a b : Data) (names : List (List ℕ)) (name : List ℕ) (rest : List (List ℕ)) (d : Data) → names ≡ name ∷ rest → None ≡ as_object d → is_blocked names d ≡ false → a ≡ b
never_blocked a b names name rest d ns none free =
    let free_here : is_blocked (name ∷ rest) d ≡ false = rw ns at free in
    let closed : is_blocked (name ∷ rest) d ≡ true = ap (λ o. not (is_some o) || is_blocked rest (below name d)) (sym none) in
    absurd (true≢false (sym closed ∙ free_here))

pub taken_here : (names : List (List ℕ)) (name key : List ℕ) (rest : List (List ℕ)) (d : Data) (m : BTreeMap (String Global) Value) (result : Option Value) → names ≡ name ∷ rest → key ≡ name → length rest ≡ 0
    → Some (members_view m.entries) ≡ as_object d → result ≡ lookup (At key) m.entries → option_map view result ≡ find names d
taken_here names name key rest d m result ns ks none is e =
    rw ns (ap (option_map view) e ∙ get_in key d m is ∙ ap (λ (k : List ℕ). get k d) ks ∙ sym (find_last name rest d none))

pub left_here : (names : List (List ℕ)) (name key : List ℕ) (rest : List (List ℕ)) (d : Data) (m n : BTreeMap (String Global) Value) → names ≡ name ∷ rest → key ≡ name → length rest ≡ 0
    → Some (members_view m.entries) ≡ as_object d → n.entries ≡ remove_entry (At key) m.entries → lookup (At key) n.entries ≡ None → view (Object n) ≡ without names d
left_here names name key rest d m n ns ks none is e gone =
    left_last key rest d m n none is e gone ∙ ap (λ (k : List ℕ). without (k ∷ rest) d) ks ∙ ap (λ (ws : List (List ℕ)). without ws d) (sym ns)

pub found_here : (name key : List ℕ) (d : Data) (m : BTreeMap (String Global) Value) (inner : Value) → key ≡ name → Some (members_view m.entries) ≡ as_object d → Some inner ≡ lookup (At key) m.entries → get name d ≡ Some (view inner)
found_here name key d m inner ks is found = ap (λ (k : List ℕ). get k d) (sym ks) ∙ sym (get_in key d m is) ∙ ap (option_map view) (sym found)

pub not_here : (name key : List ℕ) (d : Data) (m : BTreeMap (String Global) Value) → key ≡ name → Some (members_view m.entries) ≡ as_object d → None ≡ lookup (At key) m.entries → get name d ≡ None
not_here name key d m ks is found = ap (λ (k : List ℕ). get k d) (sym ks) ∙ sym (get_in key d m is) ∙ ap (option_map view) (sym found)

pub some_below : (names : List (List ℕ)) (name : List ℕ) (rest : List (List ℕ)) (d inner : Data) → names ≡ name ∷ rest → 0 < length rest → get name d ≡ Some inner → IsSome (find names d) → IsSome (find rest inner)
some_below names name rest d inner ns some g found = sym (ap (λ o. is_some o) (find_next name rest d inner some g)) ∙ (rw ns at found)

pub taken_below : (names : List (List ℕ)) (name : List ℕ) (rest : List (List ℕ)) (d inner : Data) (result : Option Value) → names ≡ name ∷ rest → 0 < length rest → get name d ≡ Some inner → option_map view result ≡ find rest inner → option_map view result ≡ find names d
taken_below names name rest d inner result ns some g e = rw ns (e ∙ sym (find_next name rest d inner some g))

pub left_below : (names : List (List ℕ)) (name key : List ℕ) (rest : List (List ℕ)) (d : Data) (m n : BTreeMap (String Global) Value) (inner w : Value) → names ≡ name ∷ rest → key ≡ name → 0 < length rest
    → Some (members_view m.entries) ≡ as_object d → Some inner ≡ lookup (At key) m.entries → WritesThrough string_cmp (λ (k : String Global). slice_cmp nat_cmp key (string_bytes k)) m w n
    → view w ≡ without rest (view inner) → view (Object n) ≡ without names d
left_below names name key rest d m n inner w ns ks some is found h e =
    left_next key rest d m n inner w some is (sym found) h e ∙ ap (λ (k : List ℕ). without (k ∷ rest) d) ks ∙ ap (λ (ws : List (List ℕ)). without ws d) (sym ns)

pub none_below : (names : List (List ℕ)) (name : List ℕ) (rest : List (List ℕ)) (d : Data) → names ≡ name ∷ rest → get name d ≡ None → None ≡ find names d
none_below names name rest d ns g = rw ns (sym (find_none name rest d g))

pub free_here : (names : List (List ℕ)) (name : List ℕ) (rest : List (List ℕ)) (d inner : Data) → names ≡ name ∷ rest → get name d ≡ Some inner → is_blocked names d ≡ false → is_blocked rest inner ≡ false
free_here names name rest d inner ns g free = free_on name rest d inner (rw ns at free) g

pub free_made : (rest : List (List ℕ)) (m : BTreeMap (String Global) Value) → m.entries ≡ [] → is_blocked rest (view (Object m)) ≡ false
free_made rest m e = rw (view-Object m, e) (free_below rest)

pub filled_below : (names : List (List ℕ)) (name key : List ℕ) (rest : List (List ℕ)) (d v : Data) (m n : BTreeMap (String Global) Value) (inner w : Value) → names ≡ name ∷ rest → key ≡ name
    → Some (members_view m.entries) ≡ as_object d → Some inner ≡ lookup (At key) m.entries → WritesThrough string_cmp (λ (k : String Global). slice_cmp nat_cmp key (string_bytes k)) m w n
    → view w ≡ put_at rest v (view inner) → view (Object n) ≡ put_at names v d
filled_below names name key rest d v m n inner w ns ks is found h e =
    put_next key rest d v m n inner w is (sym found) h e ∙ ap (λ (k : List ℕ). put_at (k ∷ rest) v d) ks ∙ ap (λ (ws : List (List ℕ)). put_at ws v d) (sym ns)

pub filled_made : (names : List (List ℕ)) (name key : List ℕ) (rest : List (List ℕ)) (d v : Data) (m again n empty : BTreeMap (String Global) Value) (made : Value) → names ≡ name ∷ rest → key ≡ name
    → Some (members_view m.entries) ≡ as_object d → get name d ≡ None → again ≡ m → empty.entries ≡ [] → view made ≡ put_at rest v (view (Object empty))
    → members_view n.entries ≡ put key (view made) (members_view again.entries) → view (Object n) ≡ put_at names v d
filled_made names name key rest d v m again n empty made ns ks is none same e filled h =
    let from_none : view made ≡ put_at rest v (object no_members) = filled ∙ ap (put_at rest v) (view-Object empty ∙ ap (λ es. object (members_view es)) e) in
    let put_there : members_view n.entries ≡ put name (view made) (members_view m.entries) =
    h ∙ ap (λ (k : List ℕ). put k (view made) (members_view again.entries)) ks ∙ ap (λ (b : BTreeMap (String Global) Value). put name (view made) (members_view b.entries)) same in
    put_made name rest d v (view made) m n is none from_none put_there ∙ ap (λ (ws : List (List ℕ)). put_at ws v d) (sym ns)

-- what holds where a call went well
pub on_ok : (r : Result (Unit {0}) AllocError) (P Q : Type 0) → (P → Q) → OnOk r P → OnOk r Q
on_ok (Ok unit) P Q f h = f h
on_ok (Err error) P Q f h = tt

-- ---- tests of lists and texts

pub empty_of : (r : Bool) (xs : List (List ℕ)) → r ≡ (length xs == 0) → r ≡ true → length xs ≡ 0
empty_of r xs is e = eqb-true (length xs) 0 (sym is ∙ e)

pub some_of : (r : Bool) (xs : List (List ℕ)) → r ≡ (length xs == 0) → r ≡ false → 0 < length xs
some_of r [] is e = absurd (true≢false (sym is ∙ e))
some_of r (x ∷ xs) is e = omega arith

not_true : (b : Bool) → not b ≡ false → b ≡ true
not_true true e = refl
not_true false e = absurd (true≢false e)

pub same_texts : (r : Bool) (one other a b : List ℕ) → one ≡ a → other ≡ b → r ≡ not (bytes_eq one other) → r ≡ false → a ≡ b
same_texts r one other a b x y is e = sym x ∙ (bytes_eq-Decides one other).0 (not_true (bytes_eq one other) (sym is ∙ e)) ∙ y

pub other_texts : (r : Bool) (one other a b : List ℕ) → one ≡ a → other ≡ b → r ≡ not (bytes_eq one other) → r ≡ true → a ≡ b → ⊥
other_texts r one other a b x y is e same =
    let t : bytes_eq one other ≡ true = (bytes_eq-Decides one other).1 (x ∙ same ∙ sym y) in
    true≢false (sym e ∙ is ∙ ap not t)

-- ---- what a look at a name gives

pub got_at : (key name : List ℕ) (d inner : Data) → key ≡ name → Some inner ≡ get key d → get name d ≡ Some inner
got_at key name d inner ks found = ap (λ (k : List ℕ). get k d) (sym ks) ∙ sym found

pub none_at : (key name : List ℕ) (d : Data) → key ≡ name → None ≡ get key d → get name d ≡ None
none_at key name d ks none = ap (λ (k : List ℕ). get k d) (sym ks) ∙ sym none
