-- What is shown beside a reply: it has no float, and the members that were called have texts.
use Rattle.std.proofs.Common.{◌≡◌, ℕ, ◌+◌, ◌<◌, ◌≤◌, ◌||◌, ◌++◌, ◌∙◌, Bool, true, false, List, [], ◌∷◌, String, BTreeMap, Global, string_bytes, string_cmp, length, drop, get_or, map, add-one, append_assoc, refl, sym, ap}
use Rattle.std.specs.Cmp.Lexicographic.{slice_cmp}
use Rattle.std.specs.BTreeMap.{insert_entry}
use Rattle.std.specs.Ordering.{nat_cmp, match_ordering}
use Rattle.std.specs.declared.cmp.Ordering.{Ordering}
use Rattle.std.specs.declared.cmp.Ordering.TheVariants.{Less, Equal, Greater}
use Rattle.serde_json.specs.Data.{Data, null, boolean, number, string, array, object, Members, no_members, member, put, unsigned}
use Rattle.serde_json.specs.View.{view, items_of, items_view}
use Rattle.serde_json.specs.Written.{has_float, items_have_float, members_have_float}
use Rattle.serde_json.specs.declared.value.Value.{Value, Object}
use Rattle.std.proofs.Math.Seq.{drop-cons}
use Rattle.std.proofs.lemmas.List.{append-nil, drop_all}
use Rattle.serde_json.proofs.Views.{view-Object, members_view-insert_entry}
use Rattle.allowlist.specs.Allow.{AllowList}
use Rattle.allowlist.specs.Index.{member_in}
use Rattle.member_names.specs.Names.{text_of}
use Rattle.json_replies.specs.declared.showing.ShownKeys.{ShownKeys}
use Rattle.json_replies.specs.Showing.{member_items, shown_reply, with_key, with_members, with_steps}

neither : (a b : Bool) → (a || b) ≡ false → (a ≡ false) × (b ≡ false)
neither true b h = absurd (cc)
neither false b h = (refl, h)

both : (a b : Bool) → a ≡ false → b ≡ false → (a || b) ≡ false
both a b h k = rw (h, k) refl

-- ---- floats

abbrev AllWhole : Members → Type 0
AllWhole ms = members_have_float ms ≡ false

put_at : (order : Ordering) (a b c : Members) → AllWhole a → AllWhole b → AllWhole c → AllWhole (match_ordering order a b c)
put_at Less a b c h k l = h
put_at Equal a b c h k l = k
put_at Greater a b c h k l = l

put_whole : (key : List ℕ) (d : Data) (ms : Members) → has_float d ≡ false → AllWhole ms → AllWhole (put key d ms)
put_whole key d no_members h k = both _ _ h refl
put_whole key d (member other e ms) h k =
    let parts = neither (has_float e) (members_have_float ms) k in
    put_at (slice_cmp nat_cmp key other) _ _ _ (both _ _ h k) (both _ _ h parts.1) (both _ _ parts.0 (put_whole key d ms h parts.1))

key_whole : (key : List ℕ) (d reply : Data) → has_float d ≡ false → has_float reply ≡ false → has_float (with_key key d reply) ≡ false
key_whole key d null h k = refl
key_whole key d (boolean b) h k = refl
key_whole key d (number n) h k = k
key_whole key d (string s) h k = refl
key_whole key d (array items) h k = k
key_whole key d (object members) h k = put_whole key d members h k

texts_whole : (allow : AllowList) (reached : List ℕ) → items_have_float (member_items allow reached) ≡ false
texts_whole allow [] = refl
texts_whole allow (first ∷ rest) = texts_whole allow rest

members_whole : (allow : AllowList) (shown : Bool) (reached : List ℕ) (reply : Data) → has_float reply ≡ false → has_float (with_members allow shown reached reply) ≡ false
members_whole allow true reached reply h = key_whole _ (array (member_items allow reached)) reply (texts_whole allow reached) h
members_whole allow false reached reply h = h

steps_whole : (shown : Bool) (steps : ℕ) (reply : Data) → has_float reply ≡ false → has_float (with_steps shown steps reply) ≡ false
steps_whole true steps reply h = key_whole _ (number (unsigned steps)) reply refl h
steps_whole false steps reply h = h

pub shown_has_none : (allow : AllowList) (keys : ShownKeys) (reached : List ℕ) (steps : ℕ) (reply : Data) → has_float reply ≡ false → has_float (shown_reply allow keys reached steps reply) ≡ false
shown_has_none allow keys reached steps reply h = steps_whole keys.steps steps _ (members_whole allow keys.members reached reply h)

-- ---- keys

-- what an object comes to by an insert
pub key_put : (reply value : Value) (before after : BTreeMap (String Global) Value) (key : String Global) (name : List ℕ) → reply ≡ Object before
    → after.entries ≡ insert_entry string_cmp before.entries key value → string_bytes key ≡ name → view (Object after) ≡ with_key name (view value) (view reply)
key_put reply value before after key name is entries named =
    rw (is, view-Object after, view-Object before, entries, members_view-insert_entry before.entries key value, named) refl

-- ---- members

-- the text of a member of a list as JSON
abbrev pub text_data : AllowList → ℕ → Data
text_data allow place = string (text_of (member_in allow place))

texts_are : (allow : AllowList) (reached : List ℕ) → items_of (map (text_data allow) reached) ≡ member_items allow reached
texts_are allow [] = refl
texts_are allow (first ∷ rest) = rw (texts_are allow rest) refl

-- one text more
pub text_added : (allow : AllowList) (before after : List Data) (reached : List ℕ) (at other : ℕ) → at < length reached → before ++ map (text_data allow) (drop at reached) ≡ map (text_data allow) reached
    → after ≡ before ++ text_data allow (get_or reached at other) ∷ [] → after ++ map (text_data allow) (drop (at + 1) reached) ≡ map (text_data allow) reached
text_added allow before after reached at other within is added =
    let next : drop at reached ≡ get_or reached at other ∷ drop (at + 1) reached = rw (add-one, drop-cons reached at other within) refl in
    rw added (append_assoc before (text_data allow (get_or reached at other) ∷ []) (map (text_data allow) (drop (at + 1) reached)) ∙ (ap (λ (ns : List ℕ). before ++ map (text_data allow) ns) (sym next) ∙ is))

-- the texts of all members
pub texts_all : (allow : AllowList) (texts : List Value) (reached : List ℕ) (at : ℕ) → length reached ≤ at → map view texts ++ map (text_data allow) (drop at reached) ≡ map (text_data allow) reached
    → items_view texts ≡ member_items allow reached
texts_all allow texts reached at past is =
    let none : drop at reached ≡ [] = drop_all at reached past in
    let made : map view texts ≡ map (text_data allow) reached = sym (append-nil (map view texts)) ∙ (ap (λ (ns : List ℕ). map view texts ++ map (text_data allow) ns) (sym none) ∙ is) in
    ap items_of made ∙ texts_are allow reached
