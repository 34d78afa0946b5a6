-- Names of members, and the names that keys have.
use Rattle.std.proofs.Common.{◌≡◌, ℕ, ◌+◌, ◌≤◌, ◌&&◌, Bool, true, false, not, Option, Some, None, option_map, List, ◌∷◌, drop, length, is_some, slice_get, String, Global, string_bytes, string_cmp, bytes_eq, true≢false, if◌then◌else◌, refl, sym, ap, ◌∙◌}
use Rattle.std.proofs.lemmas.List.{drop_all}
use Rattle.std.proofs.lemmas.Slice.Eq.{bytes_eq-Decides}
use Rattle.std.specs.Map.{lookup}
use Rattle.std.specs.BTreeMap.{is_at}
use Rattle.pl_units.specs.Utf16.{bytes}
use Rattle.object_values.specs.declared.value.Value.{Value}
use Rattle.object_values.specs.declared.value.Value.TheVariants as v
use Rattle.serde_json.specs.Data.{Data, Members, put}
use Rattle.serde_json.specs.Find.{get_member}
use Rattle.serde_json.specs.View.{view, members_view}
use Rattle.serde_json.specs.declared.value.Value.{Value as Json}
use Rattle.serde_json.proofs.Views.{view-lookup, get_member-put, get_member-put_other}
use Rattle.json_bridge.specs.Giving.{name_of, is_among, is_new_name, are_new_names, HasNames}
use Rattle.json_bridge.proofs.Stepping.{got}

some_of : {A B : Type 0} → (f : A → B) (o : Option A) → is_some (option_map f o) ≡ is_some o
some_of f None = refl
some_of f (Some x) = refl

at_name : (b : Bool) (ms : Members) (names : List (List ℕ)) (k name : List ℕ) (d : Data) → bytes_eq name k ≡ b → is_some (get_member name ms) ≡ is_among name names
    → is_some (get_member name (put k d ms)) ≡ (if b then true else is_among name names)
at_name true ms names k name d e h = let same : name ≡ k = (bytes_eq-Decides name k).0 e in rw same (ap is_some (get_member-put k d ms))
at_name false ms names k name d e h = ap is_some (get_member-put_other name k d ms (λ same. true≢false (sym ((bytes_eq-Decides name k).1 same) ∙ e))) ∙ h

-- a name more
names_with : (ms : Members) (names : List (List ℕ)) (k : List ℕ) (d : Data) → HasNames ms names → HasNames (put k d ms) (k ∷ names)
names_with ms names k d h name = at_name (bytes_eq name k) ms names k name d refl (h name)

pub names_put : (ms new : Members) (names : List (List ℕ)) (k : List ℕ) (d : Data) → new ≡ put k d ms → HasNames ms names → HasNames new (k ∷ names)
names_put ms new names k d e h = rw e (names_with ms names k d h)

-- a name is new where no member had it
pub fresh : (es : List (String Global × Json)) (names : List (List ℕ)) (name : String Global) (text : List ℕ) (old : Option Json) (result : Bool)
    → string_bytes name ≡ bytes text → HasNames (members_view es) names → old ≡ lookup (is_at (string_cmp name)) es → is_some old ≡ not result
    → result ≡ is_new_name names (v.Str text)
fresh es names name text old true e h was is =
    let none : is_among (bytes text) names ≡ false = sym (h (bytes text)) ∙ (ap (λ n. is_some (get_member n (members_view es))) (sym e) ∙ (ap is_some (sym (view-lookup (string_bytes name) es)) ∙ (some_of view (lookup (is_at (string_cmp name)) es) ∙ (ap is_some (sym was) ∙ is)))) in
    rw none refl
fresh es names name text old false e h was is =
    let some : is_among (bytes text) names ≡ true = sym (h (bytes text)) ∙ (ap (λ n. is_some (get_member n (members_view es))) (sym e) ∙ (ap is_some (sym (view-lookup (string_bytes name) es)) ∙ (some_of view (lookup (is_at (string_cmp name)) es) ∙ (ap is_some (sym was) ∙ is)))) in
    rw some refl

-- one key more
pub key_step : (names : List (List ℕ)) (pairs : List (Value × Value)) (at : ℕ) (pair : Value × Value) → slice_get pairs at ≡ Some pair
    → are_new_names names (drop at pairs) ≡ (is_new_name names pair.0 && are_new_names (name_of pair.0 ∷ names) (drop (at + 1) pairs))
key_step names pairs at pair h = ap (are_new_names names) (got pairs at pair h)

pub no_more : (names : List (List ℕ)) (pairs : List (Value × Value)) (at : ℕ) → length pairs ≤ at → are_new_names names (drop at pairs) ≡ true
no_more names pairs at h = ap (are_new_names names) (drop_all at pairs h)

-- a key that is no name, behind some that are
pub key_fails : (names : List (List ℕ)) (pairs : List (Value × Value)) (at : ℕ) (pair : Value × Value) → slice_get pairs at ≡ Some pair
    → is_new_name names pair.0 ≡ false → are_new_names names (drop at pairs) ≡ false
key_fails names pairs at pair h e = key_step names pairs at pair h ∙ ap (λ b. b && are_new_names (name_of pair.0 ∷ names) (drop (at + 1) pairs)) e

-- a key that is one
pub key_holds : (names : List (List ℕ)) (pairs : List (Value × Value)) (at : ℕ) (pair : Value × Value) → slice_get pairs at ≡ Some pair
    → is_new_name names pair.0 ≡ true → are_new_names names (drop at pairs) ≡ are_new_names (name_of pair.0 ∷ names) (drop (at + 1) pairs)
key_holds names pairs at pair h e = key_step names pairs at pair h ∙ ap (λ b. b && are_new_names (name_of pair.0 ∷ names) (drop (at + 1) pairs)) e
