-- An object whose map was written to.
use Rattle.std.proofs.Common.{◌≡◌, ℕ, List, [], ◌∷◌, Some, None, String, BTreeMap, Global, Ordering, Less, Equal, Greater, string_bytes, string_cmp, nat_cmp, is_eq, cond, Bool, true, false, refl, sym, ap, subst, ◌∙◌}
use Rattle.std.proofs.lemmas.Cmp.{nat_list_cmp_total}
use Rattle.std.proofs.lemmas.Map.Text.{is_eq-slice_cmp}
use Rattle.std.specs.BTreeMap.{is_at, WritesThrough}
use Rattle.std.specs.Cmp.Lexicographic.{slice_cmp}
use Rattle.std.specs.List.{AllByRecursion}
use Rattle.std.specs.List.Sorted.{IsStrictlySortedBy}
use Rattle.std.specs.Map.{keys_of, lookup, set_value, remove_entry}
use Rattle.std.specs.Ordering.{match_ordering}
use Rattle.serde_json.specs.Data.{object, member, put}
use Rattle.serde_json.specs.View.{view, members_view}
use Rattle.serde_json.specs.declared.value.Value.{Value, Object}
use Rattle.serde_json.proofs.Views.{Entry, view-Object}
use Rattle.pipe_fields.specs.Ways.{without_member}

-- whether a key is a name
abbrev pub At : List ℕ → String Global → Bool
At name key = is_at (λ (k : String Global). slice_cmp nat_cmp name (string_bytes k)) key

-- ---- a value at a key that is there

below_all : (name key : List ℕ) (es : List Entry) → slice_cmp nat_cmp name key ≡ Less → AllByRecursion (λ y. slice_cmp nat_cmp key (string_bytes y) ≡ Less) (keys_of es) → lookup (At name) es ≡ None
below_all name key [] l h = refl
below_all name key (e ∷ es) l h =
    let t : slice_cmp nat_cmp name (string_bytes e.0) ≡ Less = nat_list_cmp_total.trans name key (string_bytes e.0) l h.0 in
    rw t (below_all name key es l h.1)

set_at : (o : Ordering) (name : List ℕ) (e : Entry) (es : List Entry) (v w : Value) → slice_cmp nat_cmp name (string_bytes e.0) ≡ o
    → AllByRecursion (λ y. slice_cmp nat_cmp (string_bytes e.0) (string_bytes y) ≡ Less) (keys_of es) → cond (is_eq o) (Some e.1) (lookup (At name) es) ≡ Some v
    → (lookup (At name) es ≡ Some v → members_view (set_value (At name) es w) ≡ put name (view w) (members_view es))
    → members_view (cond (is_eq o) ((e.0, w) ∷ es) (e ∷ set_value (At name) es w))
    ≡ match_ordering o (member name (view w) (member (string_bytes e.0) (view e.1) (members_view es))) (member (string_bytes e.0) (view w) (members_view es)) (member (string_bytes e.0) (view e.1) (put name (view w) (members_view es)))
set_at Less name e es v w is above found later = let none : lookup (At name) es ≡ None = below_all name (string_bytes e.0) es is above in cc
set_at Equal name e es v w is above found later = refl
set_at Greater name e es v w is above found later = ap (member (string_bytes e.0) (view e.1)) (later found)

pub put_found : (name : List ℕ) (es : List Entry) (v w : Value) → IsStrictlySortedBy string_cmp (keys_of es) → lookup (At name) es ≡ Some v → members_view (set_value (At name) es w) ≡ put name (view w) (members_view es)
unfolding IsStrictlySortedBy
put_found name [] v w h f = cc
put_found name (e ∷ es) v w h f = set_at (slice_cmp nat_cmp name (string_bytes e.0)) name e es v w refl h.0 f (λ g. put_found name es v w h.1 g)

-- ---- without a key

same_step : (t : Bool) (name : List ℕ) (e : Entry) (es : List Entry) → cond t (Some e.1) (lookup (At name) es) ≡ None
    → (lookup (At name) es ≡ None → without_member name (members_view es) ≡ members_view es)
    → cond t (without_member name (members_view es)) (member (string_bytes e.0) (view e.1) (without_member name (members_view es))) ≡ member (string_bytes e.0) (view e.1) (members_view es)
same_step true name e es none later = cc
same_step false name e es none later = ap (member (string_bytes e.0) (view e.1)) (later none)

same_without : (name : List ℕ) (es : List Entry) → lookup (At name) es ≡ None → without_member name (members_view es) ≡ members_view es
same_without name [] none = refl
same_without name (e ∷ es) none =
    ap (λ t. cond t (without_member name (members_view es)) (member (string_bytes e.0) (view e.1) (without_member name (members_view es)))) (sym (is_eq-slice_cmp name (string_bytes e.0)))
    ∙ same_step (is_eq (slice_cmp nat_cmp name (string_bytes e.0))) name e es none (same_without name es)

removed_step : (t : Bool) (name : List ℕ) (e : Entry) (es : List Entry) → is_eq (slice_cmp nat_cmp name (string_bytes e.0)) ≡ t → lookup (At name) (cond t es (e ∷ remove_entry (At name) es)) ≡ None
    → (lookup (At name) (remove_entry (At name) es) ≡ None → members_view (remove_entry (At name) es) ≡ without_member name (members_view es))
    → members_view (cond t es (e ∷ remove_entry (At name) es))
    ≡ cond t (without_member name (members_view es)) (member (string_bytes e.0) (view e.1) (without_member name (members_view es)))
removed_step true name e es is none later = sym (same_without name es none)
removed_step false name e es is none later =
    let left : lookup (At name) (remove_entry (At name) es) ≡ None = ap (λ t. cond t (Some e.1) (lookup (At name) (remove_entry (At name) es))) (sym is) ∙ none in
    ap (member (string_bytes e.0) (view e.1)) (later left)

pub members_removed : (name : List ℕ) (es : List Entry) → lookup (At name) (remove_entry (At name) es) ≡ None → members_view (remove_entry (At name) es) ≡ without_member name (members_view es)
members_removed name [] none = refl
members_removed name (e ∷ es) none =
    removed_step (is_eq (slice_cmp nat_cmp name (string_bytes e.0))) name e es refl none (members_removed name es)
    ∙ ap (λ t. cond t (without_member name (members_view es)) (member (string_bytes e.0) (view e.1) (without_member name (members_view es)))) (is_eq-slice_cmp name (string_bytes e.0))

-- ---- what a map's object is after a write

pub object_written : (name : List ℕ) (m n : BTreeMap (String Global) Value) (v w : Value) → lookup (At name) m.entries ≡ Some v
    → WritesThrough string_cmp (λ (k : String Global). slice_cmp nat_cmp name (string_bytes k)) m w n
    → view (Object n) ≡ object (put name (view w) (members_view m.entries))
object_written name m n v w found h =
    let sorted : IsStrictlySortedBy string_cmp (keys_of m.entries) = subst (λ (ks : List (String Global)). IsStrictlySortedBy string_cmp ks) h.1 h.4 in
    view-Object n ∙ ap (λ es. object (members_view es)) h.0 ∙ ap object (put_found name m.entries v w sorted found)
