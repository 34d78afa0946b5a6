-- Where the document of an id stands, and what is there behind a change at its place.
use Rattle.std.proofs.Common.{◌≡◌, ℕ, zero, suc, ◌+◌, ◌<◌, Bool, true, false, true≢false, cond, not, ◌||◌, List, [], ◌∷◌, ◌++◌, length, map, get_or, set, take, drop, remove, nat_lt, position, Option, Some, None, is_some, option_map, option_copied, IfSome, IsSome, Bor, bytes_eq, string_eq, slice_get, String, Global, string_bytes, inl, inr, refl, sym, ap, ◌∙◌, subst, arith, append_assoc, append-nil}
use Rattle.std.specs.List.{prefix_len, list_any}
use Rattle.std.specs.Map.{lookup}
use Rattle.std.proofs.lemmas.List.{map-set}
use Rattle.std.proofs.lemmas.List.Quantifiers.{position-Some}
use Rattle.std.proofs.lemmas.Slice.Eq.{bytes_eq-Decides}
use Rattle.serde_json.specs.Data.{Data}
use Rattle.indexmap.specs.IndexMap.{insert_entry}
use Rattle.update_store.specs.declared.document.Doc.{Doc}
use Rattle.update_store.specs.Committing.{all_live}
use Rattle.update_store.specs.Documents.{DocData, DocumentsData, doc_view, find, AreDistinct, deleted_version, rewritten, with_source, without, with_version, ids_of, versions_of, with_id, with_docs, ArePlaces, IsAdded}
use Rattle.update_store.proofs.DocumentLemmas.{chosen, passed, ids_tell, differs, other_without}

-- ---- keys and ids

prefix_by_bytes : (test : List ℕ → Bool) (keys : List (String Global)) → prefix_len (λ key. test (string_bytes key)) keys ≡ prefix_len test (map string_bytes keys)
prefix_by_bytes test [] = refl
prefix_by_bytes test (key ∷ keys) = ap (λ (n : ℕ). cond (test (string_bytes key)) (1 + n) 0) (prefix_by_bytes test keys)

length_by_bytes : (keys : List (String Global)) → length keys ≡ length (map string_bytes keys)
length_by_bytes [] = refl
length_by_bytes (key ∷ keys) = ap (λ (n : ℕ). suc n) (length_by_bytes keys)

found_at : (m n count total : ℕ) → m ≡ n → count ≡ total → cond (nat_lt m count) (Some m) None ≡ cond (nat_lt n total) (Some n) None
found_at m n count total e f = cc

position_by_bytes : (id : List ℕ) (keys : List (String Global)) → position (λ key. bytes_eq id (string_bytes key)) keys ≡ position (bytes_eq id) (map string_bytes keys)
position_by_bytes id keys = found_at _ _ _ _ (prefix_by_bytes (λ other. not (bytes_eq id other)) keys) (length_by_bytes keys)

pub any_by_bytes : (id : List ℕ) (keys : List (String Global)) → list_any (λ key. bytes_eq id (string_bytes key)) keys ≡ list_any (bytes_eq id) (map string_bytes keys)
any_by_bytes id [] = refl
any_by_bytes id (key ∷ keys) = ap (λ (b : Bool). bytes_eq id (string_bytes key) || b) (any_by_bytes id keys)

length_of_ids : (docs : List DocData) → length (ids_of docs) ≡ length docs
length_of_ids [] = refl
length_of_ids (doc ∷ docs) = ap (λ (n : ℕ). suc n) (length_of_ids docs)

id_at : (docs : List DocData) (place : ℕ) (d : DocData) → place < length docs → get_or (ids_of docs) place [] ≡ (get_or docs place d).id
id_at [] place d h = absurd (omega (arith, h))
id_at (doc ∷ docs) zero d h = refl
id_at (doc ∷ docs) (suc place) d h = id_at docs place d (omega (arith, h))

-- ---- a place

-- the first document of an id stands at this place
pub record StandsAt (id : List ℕ) (place : ℕ) (docs : List DocData) : Type 0 where
  pub within : place < length docs
  pub here : (d : DocData) → bytes_eq id (get_or docs place d).id ≡ true
  pub before : (k : ℕ) (d : DocData) → k < place → bytes_eq id (get_or docs k d).id ≡ false

stands_so : (id : List ℕ) (place : ℕ) (docs : List DocData) → position (bytes_eq id) (ids_of docs) ≡ Some place → StandsAt id place docs
stands_so id place docs at =
    let found = position-Some (bytes_eq id) (ids_of docs) place [] at in
    let within : place < length docs = subst (λ (n : ℕ). place < n) (length_of_ids docs) found.0 in
    record {
      within = within;
      here = λ d. ap (bytes_eq id) (sym (id_at docs place d within)) ∙ found.1;
      before = λ k d less. ap (bytes_eq id) (sym (id_at docs k d (omega (arith, less, within)))) ∙ found.2 k less;
    }

pub stands_at : (id : List ℕ) (place : ℕ) (keys : List (String Global)) (docs : List DocData)
    → Some place ≡ position (λ key. bytes_eq id (string_bytes key)) keys → ArePlaces keys docs → StandsAt id place docs
stands_at id place keys docs at are =
    stands_so id place docs (sym (at ∙ position_by_bytes id keys ∙ ap (position (bytes_eq id)) are.ids))

tail_stands : (id : List ℕ) (place : ℕ) (doc : DocData) (docs : List DocData) → StandsAt id (suc place) (doc ∷ docs) → StandsAt id place docs
tail_stands id place doc docs stands = record {
  within = omega (arith, stands.within);
  here = λ d. stands.here d;
  before = λ k d less. stands.before (suc k) d (omega (arith, less));
}

not_first : (id : List ℕ) (place : ℕ) (doc : DocData) (docs : List DocData) → StandsAt id (suc place) (doc ∷ docs) → bytes_eq id doc.id ≡ false
not_first id place doc docs stands = stands.before zero doc (omega arith)

pub find_at : (id : List ℕ) (place : ℕ) (docs : List DocData) → StandsAt id place docs → find id docs ≡ slice_get docs place
find_at id place [] stands = absurd (omega (arith, stands.within))
find_at id zero (doc ∷ docs) stands = chosen (bytes_eq id doc.id) (Some doc) (find id docs) (stands.here doc)
find_at id (suc place) (doc ∷ docs) stands =
    passed (bytes_eq id doc.id) (Some doc) (find id docs) (not_first id place doc docs stands) ∙ find_at id place docs (tail_stands id place doc docs stands)

pub some_at : (docs : List DocData) (place : ℕ) (d : DocData) → place < length docs → slice_get docs place ≡ Some (get_or docs place d)
some_at [] place d h = absurd (omega (arith, h))
some_at (doc ∷ docs) zero d h = refl
some_at (doc ∷ docs) (suc place) d h = some_at docs place d (omega (arith, h))

pub source_at : (id : List ℕ) (place version : ℕ) (source : Data) (docs : List DocData) (d : DocData) → StandsAt id place docs
    → with_source id version source docs ≡ set docs place (rewritten version source (get_or docs place d))
source_at id place version source [] d stands = absurd (omega (arith, stands.within))
source_at id zero version source (doc ∷ docs) d stands =
    chosen (bytes_eq id doc.id) (rewritten version source doc ∷ docs) (doc ∷ with_source id version source docs) (stands.here doc)
source_at id (suc place) version source (doc ∷ docs) d stands =
    passed (bytes_eq id doc.id) (rewritten version source doc ∷ docs) (doc ∷ with_source id version source docs) (not_first id place doc docs stands)
    ∙ ap (λ (l : List DocData). doc ∷ l) (source_at id place version source docs d (tail_stands id place doc docs stands))

pub without_none : (id : List ℕ) (docs : List DocData) → find id docs ≡ None → without id docs ≡ docs
without_none id [] none = refl
without_none id (doc ∷ docs) none = elim (ids_tell id doc.id) [
  | inl h ↦ let some : Some doc ≡ None = sym (chosen (bytes_eq id doc.id) (Some doc) (find id docs) h.0) ∙ none in cc
  | inr h ↦
      passed (bytes_eq id doc.id) (without id docs) (doc ∷ without id docs) h.0
      ∙ ap (λ (l : List DocData). doc ∷ l) (without_none id docs (sym (passed (bytes_eq id doc.id) (Some doc) (find id docs) h.0) ∙ none))
]

pub without_at : (id : List ℕ) (place : ℕ) (docs : List DocData) → AreDistinct docs → StandsAt id place docs → without id docs ≡ remove docs place
without_at id place [] distinct stands = absurd (omega (arith, stands.within))
without_at id zero (doc ∷ docs) distinct stands =
    let same : id ≡ doc.id = (bytes_eq-Decides id doc.id).0 (stands.here doc) in
    chosen (bytes_eq id doc.id) (without id docs) (doc ∷ without id docs) (stands.here doc)
    ∙ without_none id docs (ap (λ (i : List ℕ). find i docs) same ∙ distinct.0)
without_at id (suc place) (doc ∷ docs) distinct stands =
    passed (bytes_eq id doc.id) (without id docs) (doc ∷ without id docs) (not_first id place doc docs stands)
    ∙ ap (λ (l : List DocData). doc ∷ l) (without_at id place docs distinct.1 (tail_stands id place doc docs stands))

-- ---- an id that has no document

some_found : (id : List ℕ) (docs : List DocData) → list_any (bytes_eq id) (ids_of docs) ≡ is_some (find id docs)
some_found id [] = refl
some_found id (doc ∷ docs) = by_case (bytes_eq id doc.id) (some_found id docs) where
  by_case : (b : Bool) → list_any (bytes_eq id) (ids_of docs) ≡ is_some (find id docs)
      → (b || list_any (bytes_eq id) (ids_of docs)) ≡ is_some (cond b (Some doc) (find id docs))
  by_case true h = refl
  by_case false h = h

none_so : {A : Type 0} (o : Option A) → is_some o ≡ false → o ≡ None
none_so None h = refl
none_so (Some a) h = absurd (true≢false h)

pub none_at : (id : List ℕ) (keys : List (String Global)) (docs : List DocData)
    → false ≡ list_any (λ key. bytes_eq id (string_bytes key)) keys → ArePlaces keys docs → find id docs ≡ None
none_at id keys docs none are =
    none_so (find id docs) (sym (none ∙ any_by_bytes id keys ∙ ap (list_any (bytes_eq id)) are.ids ∙ some_found id docs))

-- ---- the places behind a change

ids_rewritten : (id : List ℕ) (version : ℕ) (source : Data) (docs : List DocData) → ids_of (with_source id version source docs) ≡ ids_of docs
ids_rewritten id version source [] = refl
ids_rewritten id version source (doc ∷ docs) = elim (ids_tell id doc.id) [
  | inl h ↦ ap ids_of (chosen (bytes_eq id doc.id) (rewritten version source doc ∷ docs) (doc ∷ with_source id version source docs) h.0)
  | inr h ↦
      ap ids_of (passed (bytes_eq id doc.id) (rewritten version source doc ∷ docs) (doc ∷ with_source id version source docs) h.0)
      ∙ ap (λ (l : List (List ℕ)). doc.id ∷ l) (ids_rewritten id version source docs)
]

-- what is found of an id depends on the ids alone
none_by_ids : (q : List ℕ) (docs others : List DocData) → ids_of docs ≡ ids_of others → find q others ≡ None → find q docs ≡ None
none_by_ids q docs others same none =
    none_so (find q docs) (sym (some_found q docs) ∙ ap (list_any (bytes_eq q)) same ∙ some_found q others ∙ ap (λ (o : Option DocData). is_some o) none)

distinct_rewritten : (id : List ℕ) (version : ℕ) (source : Data) (docs : List DocData) → AreDistinct docs → AreDistinct (with_source id version source docs)
distinct_rewritten id version source [] distinct = tt
distinct_rewritten id version source (doc ∷ docs) distinct = elim (ids_tell id doc.id) [
  | inl h ↦
      subst (λ (l : List DocData). AreDistinct l) (sym (chosen (bytes_eq id doc.id) (rewritten version source doc ∷ docs) (doc ∷ with_source id version source docs) h.0))
      (distinct.0, distinct.1)
  | inr h ↦
      subst (λ (l : List DocData). AreDistinct l) (sym (passed (bytes_eq id doc.id) (rewritten version source doc ∷ docs) (doc ∷ with_source id version source docs) h.0)) (
        none_by_ids doc.id (with_source id version source docs) docs (ids_rewritten id version source docs) distinct.0,
        distinct_rewritten id version source docs distinct.1,
      )
]

pub places_rewritten : (id : List ℕ) (version : ℕ) (source : Data) (keys : List (String Global)) (docs : List DocData) → ArePlaces keys docs → ArePlaces keys (with_source id version source docs)
places_rewritten id version source keys docs are = record {
  ids = are.ids ∙ sym (ids_rewritten id version source docs);
  distinct = distinct_rewritten id version source docs are.distinct;
}

none_without : (q id : List ℕ) (docs : List DocData) → find q docs ≡ None → find q (without id docs) ≡ None
none_without q id docs none = elim (ids_tell id q) [
  | inl h ↦
      subst (λ (i : List ℕ). find q (without i docs) ≡ None) (sym h.1) (ap (find q) (without_none q docs none) ∙ none)
  | inr h ↦ other_without q id docs h.1 ∙ none
]

distinct_without : (id : List ℕ) (docs : List DocData) → AreDistinct docs → AreDistinct (without id docs)
distinct_without id [] distinct = tt
distinct_without id (doc ∷ docs) distinct = elim (ids_tell id doc.id) [
  | inl h ↦
      subst (λ (l : List DocData). AreDistinct l) (sym (chosen (bytes_eq id doc.id) (without id docs) (doc ∷ without id docs) h.0))
      (distinct_without id docs distinct.1)
  | inr h ↦
      subst (λ (l : List DocData). AreDistinct l) (sym (passed (bytes_eq id doc.id) (without id docs) (doc ∷ without id docs) h.0))
      (none_without doc.id id docs distinct.0, distinct_without id docs distinct.1)
]

map_take : {A B : Type 0} (f : A → B) (n : ℕ) (xs : List A) → map f (take n xs) ≡ take n (map f xs)
map_take f zero xs = refl
map_take f (suc n) [] = refl
map_take f (suc n) (x ∷ xs) = ap (λ l. f x ∷ l) (map_take f n xs)

map_drop : {A B : Type 0} (f : A → B) (n : ℕ) (xs : List A) → map f (drop n xs) ≡ drop n (map f xs)
map_drop f zero xs = refl
map_drop f (suc n) [] = refl
map_drop f (suc n) (x ∷ xs) = map_drop f n xs

map_append : {A B : Type 0} (f : A → B) (xs ys : List A) → map f (xs ++ ys) ≡ map f xs ++ map f ys
map_append f [] ys = refl
map_append f (x ∷ xs) ys = ap (λ l. f x ∷ l) (map_append f xs ys)

pub map_remove : {A B : Type 0} (f : A → B) (xs : List A) (i : ℕ) → map f (remove xs i) ≡ remove (map f xs) i
map_remove f xs i =
    map_append f (take i xs) (drop (suc i) xs)
    ∙ ap (λ l. l ++ map f (drop (suc i) xs)) (map_take f i xs)
    ∙ ap (λ l. take i (map f xs) ++ l) (map_drop f (suc i) xs)

-- a document is taken out, and its id
pub places_without : (id : List ℕ) (place : ℕ) (keys : List (String Global)) (docs : List DocData) → ArePlaces keys docs → StandsAt id place docs
    → ArePlaces (remove keys place) (without id docs)
places_without id place keys docs are stands = record {
  ids =
      map_remove string_bytes keys place
      ∙ ap (λ (l : List (List ℕ)). remove l place) are.ids
      ∙ sym (map_remove (λ (doc : DocData). doc.id) docs place)
      ∙ ap ids_of (sym (without_at id place docs are.distinct stands));
  distinct = distinct_without id docs are.distinct;
}

-- ---- documents in memory

pub get_view : (docs : List Doc) (place : ℕ) (d : Doc) → get_or (map doc_view docs) place (doc_view d) ≡ doc_view (get_or docs place d)
get_view [] place d = refl
get_view (doc ∷ docs) zero d = refl
get_view (doc ∷ docs) (suc place) d = get_view docs place d

pub slice_view : (docs : List Doc) (place : ℕ) → slice_get (map doc_view docs) place ≡ option_map doc_view (slice_get docs place)
slice_view [] place = refl
slice_view (doc ∷ docs) zero = refl
slice_view (doc ∷ docs) (suc place) = slice_view docs place

-- the document at a place is rewritten
pub rewritten_at : (id : List ℕ) (place version : ℕ) (source : Data) (docs : List Doc) (at new : Doc) → StandsAt id place (map doc_view docs)
    → at ≡ get_or docs place at → doc_view new ≡ rewritten version source (doc_view at)
    → map doc_view (set docs place new) ≡ with_source id version source (map doc_view docs)
rewritten_at id place version source docs at new stands value is =
    map-set doc_view docs place new
    ∙ ap (set (map doc_view docs) place) (is ∙ ap (rewritten version source) (ap doc_view value ∙ sym (get_view docs place at)))
    ∙ sym (source_at id place version source (map doc_view docs) (doc_view at) stands)

-- what a look-up by place gives
pub got : (docs : List Doc) (place : ℕ) (o : Option (Bor Doc)) → place < length docs → IfSome o (λ x. x.now ≡ get_or docs place x.now) → IsSome o
    → option_copied o ≡ slice_get docs place
got docs place None within value some = absurd (true≢false (sym some))
got docs place (Some x) within value some = ap (λ (d : Doc). Some d) value ∙ sym (doc_at docs place x.now within) where
  doc_at : (docs : List Doc) (place : ℕ) (d : Doc) → place < length docs → slice_get docs place ≡ Some (get_or docs place d)
  doc_at [] place d h = absurd (omega (arith, h))
  doc_at (doc ∷ docs) zero d h = refl
  doc_at (doc ∷ docs) (suc place) d h = doc_at docs place d (omega (arith, h))

-- a document in memory is taken out, and its id
pub record IsCut (id : List ℕ) (docs : List Doc) (keys : List (String Global)) (new : List Doc) : Type 0 where
  pub places : ArePlaces keys (map doc_view new)
  pub live : map doc_view new ≡ without id (map doc_view docs)

pub is_cut : (id : List ℕ) (place : ℕ) (keys : List (String Global)) (docs : List Doc) (new_keys : List (String Global)) (new_docs : List Doc)
    → ArePlaces keys (map doc_view docs) → StandsAt id place (map doc_view docs) → new_keys ≡ remove keys place → new_docs ≡ remove docs place
    → IsCut id docs new_keys new_docs
is_cut id place keys docs new_keys new_docs are stands keys_cut docs_cut =
    let live : map doc_view new_docs ≡ without id (map doc_view docs) =
    ap (map doc_view) docs_cut ∙ map_remove doc_view docs place ∙ sym (without_at id place (map doc_view docs) are.distinct stands) in
    record {
      places =
          subst (λ (ks : List (String Global)). ArePlaces ks (map doc_view new_docs)) (sym keys_cut)
          (subst (λ (ds : List DocData). ArePlaces (remove keys place) ds) (sym live) (places_without id place keys (map doc_view docs) are stands));
      live = live;
    }

-- ---- versions in a map

pub version_entered : (es : List (String Global × ℕ)) (key : String Global) (version : ℕ)
    → versions_of (insert_entry string_eq es key version) ≡ with_version (string_bytes key) version (versions_of es)
version_entered [] key version = refl
version_entered (e ∷ es) key version = by_case (bytes_eq (string_bytes key) (string_bytes e.0)) (version_entered es key version) where
  by_case : (b : Bool) → versions_of (insert_entry string_eq es key version) ≡ with_version (string_bytes key) version (versions_of es)
      → versions_of (cond b ((e.0, version) ∷ es) (e ∷ insert_entry string_eq es key version))
      ≡ cond b ((string_bytes e.0, version) ∷ versions_of es) ((string_bytes e.0, e.1) ∷ with_version (string_bytes key) version (versions_of es))
  by_case true h = refl
  by_case false h = ap (λ (l : List (List ℕ × ℕ)). (string_bytes e.0, e.1) ∷ l) h

abbrev pub or_none : Option ℕ → ℕ
or_none None = 0
or_none (Some n) = n

pub version_looked : (id : List ℕ) (es : List (String Global × ℕ)) → or_none (lookup (λ key. bytes_eq id (string_bytes key)) es) ≡ deleted_version id (versions_of es)
version_looked id [] = refl
version_looked id (e ∷ es) = by_case (bytes_eq id (string_bytes e.0)) (version_looked id es) where
  by_case : (b : Bool) → or_none (lookup (λ key. bytes_eq id (string_bytes key)) es) ≡ deleted_version id (versions_of es)
      → or_none (cond b (Some e.1) (lookup (λ key. bytes_eq id (string_bytes key)) es)) ≡ cond b e.1 (deleted_version id (versions_of es))
  by_case true h = refl
  by_case false h = h

-- ---- the ids of new documents

pub ids_entered : (keys : List (String Global)) (new : List (String Global)) (id : String Global)
    → new ≡ cond (list_any (string_eq id) keys) keys (keys ++ id ∷ []) → map string_bytes new ≡ with_id (map string_bytes keys) (string_bytes id)
ids_entered keys new id is =
    ap (map string_bytes) is ∙ by_case (list_any (string_eq id) keys) ∙ ap (λ (b : Bool). cond b (map string_bytes keys) (map string_bytes keys ++ string_bytes id ∷ [])) (any_by_bytes (string_bytes id) keys) where
      by_case : (b : Bool) → map string_bytes (cond b keys (keys ++ id ∷ [])) ≡ cond b (map string_bytes keys) (map string_bytes keys ++ string_bytes id ∷ [])
      by_case true = refl
      by_case false = map_append string_bytes keys (id ∷ [])

new_so : (b : Bool) → not b ≡ true → b ≡ false
new_so true e = absurd (true≢false (sym e))
new_so false e = refl

old_so : (b : Bool) → not b ≡ false → b ≡ true
old_so true e = refl
old_so false e = absurd (true≢false e)

there_by_keys : (id : List ℕ) (keys : List (String Global)) (docs : List DocData) → ArePlaces keys docs → list_any (bytes_eq id) (map string_bytes keys) ≡ is_some (find id docs)
there_by_keys id keys docs are = ap (list_any (bytes_eq id)) are.ids ∙ some_found id docs

find_behind : (q : List ℕ) (docs : List DocData) (doc : DocData) → find q docs ≡ None → bytes_eq q doc.id ≡ false → find q (docs ++ doc ∷ []) ≡ None
find_behind q [] doc none other = passed (bytes_eq q doc.id) (Some doc) None other
find_behind q (one ∷ docs) doc none other = elim (ids_tell q one.id) [
  | inl h ↦ let some : Some one ≡ None = sym (chosen (bytes_eq q one.id) (Some one) (find q docs) h.0) ∙ none in cc
  | inr h ↦
      passed (bytes_eq q one.id) (Some one) (find q (docs ++ doc ∷ [])) h.0
      ∙ find_behind q docs doc (sym (passed (bytes_eq q one.id) (Some one) (find q docs) h.0) ∙ none) other
]

distinct_behind : (docs : List DocData) (doc : DocData) → AreDistinct docs → find doc.id docs ≡ None → AreDistinct (docs ++ doc ∷ [])
distinct_behind [] doc distinct none = (refl, tt)
distinct_behind (one ∷ docs) doc distinct none = elim (ids_tell doc.id one.id) [
  | inl h ↦ let some : Some one ≡ None = sym (chosen (bytes_eq doc.id one.id) (Some one) (find doc.id docs) h.0) ∙ none in cc
  | inr h ↦ (
    find_behind one.id docs doc distinct.0 (differs one.id doc.id (λ e. h.1 (sym e))),
    distinct_behind docs doc distinct.1 (sym (passed (bytes_eq doc.id one.id) (Some one) (find doc.id docs) h.0) ∙ none),
  )
]

ids_behind : (docs : List DocData) (doc : DocData) → ids_of (docs ++ doc ∷ []) ≡ ids_of docs ++ doc.id ∷ []
ids_behind docs doc = map_append (λ (d : DocData). d.id) docs (doc ∷ [])

-- a document of a new id goes last
pub added_new : (keys new : List (String Global)) (docs : List DocData) (doc : DocData)
    → true ≡ not (list_any (bytes_eq doc.id) (map string_bytes keys)) → map string_bytes new ≡ with_id (map string_bytes keys) doc.id
    → IsAdded keys docs doc new (docs ++ doc ∷ [])
added_new keys new docs doc is entered are =
    let none_there : list_any (bytes_eq doc.id) (map string_bytes keys) ≡ false = new_so (list_any (bytes_eq doc.id) (map string_bytes keys)) (sym is) in
    let not_found : is_some (find doc.id docs) ≡ false = sym (there_by_keys doc.id keys docs are) ∙ none_there in (
      record {
        ids =
            entered ∙ passed (list_any (bytes_eq doc.id) (map string_bytes keys)) (map string_bytes keys) (map string_bytes keys ++ doc.id ∷ []) none_there
            ∙ ap (λ (l : List (List ℕ)). l ++ doc.id ∷ []) are.ids ∙ sym (ids_behind docs doc);
        distinct = distinct_behind docs doc are.distinct (none_so (find doc.id docs) not_found);
      },
      sym (passed (is_some (find doc.id docs)) docs (docs ++ doc ∷ []) not_found),
    )

-- a document of an id that is there is left
pub added_old : (keys new : List (String Global)) (docs : List DocData) (doc : DocData)
    → false ≡ not (list_any (bytes_eq doc.id) (map string_bytes keys)) → map string_bytes new ≡ with_id (map string_bytes keys) doc.id
    → IsAdded keys docs doc new docs
added_old keys new docs doc is entered are =
    let there : list_any (bytes_eq doc.id) (map string_bytes keys) ≡ true = old_so (list_any (bytes_eq doc.id) (map string_bytes keys)) (sym is) in
    let found : is_some (find doc.id docs) ≡ true = sym (there_by_keys doc.id keys docs are) ∙ there in (
      record {
        ids =
            entered ∙ chosen (list_any (bytes_eq doc.id) (map string_bytes keys)) (map string_bytes keys) (map string_bytes keys ++ doc.id ∷ []) there ∙ are.ids;
        distinct = are.distinct;
      },
      sym (chosen (is_some (find doc.id docs)) docs (docs ++ doc ∷ []) found),
    )

pub places_none : ArePlaces [] []
places_none = record { ids = refl; distinct = tt }

-- none of the documents has an id of the others
abbrev AllNew : List DocData → List DocData → Type 0
AllNew done [] = Unit {0}
AllNew done (doc ∷ docs) = (find doc.id done ≡ None) × AllNew done docs

all_behind : (done : List DocData) (last : DocData) (docs : List DocData) → AllNew done docs → find last.id docs ≡ None → AllNew (done ++ last ∷ []) docs
all_behind done last [] new none = tt
all_behind done last (doc ∷ docs) new none = elim (ids_tell last.id doc.id) [
  | inl h ↦ let some : Some doc ≡ None = sym (chosen (bytes_eq last.id doc.id) (Some doc) (find last.id docs) h.0) ∙ none in cc
  | inr h ↦ (
    find_behind doc.id done last new.0 (differs doc.id last.id (λ e. h.1 (sym e))),
    all_behind done last docs new.1 (sym (passed (bytes_eq last.id doc.id) (Some doc) (find last.id docs) h.0) ∙ none),
  )
]

all_last : (done docs : List DocData) → AllNew done docs → AreDistinct docs → with_docs done docs ≡ done ++ docs
all_last done [] new distinct = sym (append-nil done)
all_last done (doc ∷ docs) new distinct =
    ap (λ (l : List DocData). with_docs l docs) (passed (is_some (find doc.id done)) done (done ++ doc ∷ []) (ap (λ (o : Option DocData). is_some o) new.0))
    ∙ all_last (done ++ doc ∷ []) docs (all_behind done doc docs new.1 distinct.0) distinct.1
    ∙ append_assoc done (doc ∷ []) docs

none_before : (docs : List DocData) → AllNew [] docs
none_before [] = tt
none_before (doc ∷ docs) = (refl, none_before docs)

-- documents of different ids are all taken
pub distinct_docs : (docs : List DocData) → AreDistinct docs → with_docs [] docs ≡ docs
distinct_docs docs distinct = all_last [] docs (none_before docs) distinct

abbrev pub seen : List DocData → List (List ℕ × ℕ) → DocumentsData
seen live deleted = record { live = live; deleted = deleted }

-- what a new list of documents is seen as
pub all_live_so : (live : List DocData) (es : List (String Global × ℕ)) (docs : List DocData) → es ≡ [] → live ≡ docs
    → seen live (versions_of es) ≡ all_live docs
all_live_so live es docs none same =
    ap (λ (l : List (String Global × ℕ)). seen live (versions_of l)) none ∙ ap all_live same
