-- Documents as plain data, and what a change makes of them.
use Rattle.std.specs.Prelude.{◌≡◌, ℕ, ◌+◌, List, [], ◌∷◌, ◌++◌, map, Option, Some, None, is_some, if◌then◌else◌, String, string_bytes}
use Rattle.std.specs.List.{list_any}
use Rattle.std.specs.Str.{bytes_eq}
use Rattle.std.specs.declared.alloc.Global.{Global}
use Rattle.serde_json.specs.Data.{Data}
use Rattle.serde_json.specs.View.{view}
use Rattle.update_store.specs.declared.document.Doc.{Doc}
use Rattle.update_store.specs.declared.document.Change.{Change}
use Rattle.update_store.specs.declared.document.Change.TheVariants as c

-- the bytes of its id, its version, and its source
pub record DocData : Type 0 where
  pub id : List ℕ
  pub version : ℕ
  pub source : Data

abbrev pub doc_view : Doc → DocData
doc_view doc = record { id = string_bytes doc.id; version = doc.version; source = view doc.source }

pub data ChangeData : Type 0 where
  Index : Data → ChangeData
  Delete : ChangeData

abbrev pub change_view : Change → ChangeData
change_view (c.Index source) = Index (view source)
change_view c.Delete = Delete

-- The live documents, and the ids that have none any more, each with its version.
pub record DocumentsData : Type 0 where
  pub live : List DocData
  pub deleted : List (List ℕ × ℕ)

-- ---- what is there

-- The document of an id: none where it was deleted or was never there.
abbrev pub find : List ℕ → List DocData → Option DocData
find id [] = None
find id (doc ∷ docs) = if bytes_eq id doc.id then Some doc else find id docs

abbrev pub deleted_version : List ℕ → List (List ℕ × ℕ) → ℕ
deleted_version id [] = 0
deleted_version id (one ∷ more) = if bytes_eq id one.0 then one.1 else deleted_version id more

abbrev pub version_in : Option DocData → ℕ → ℕ
version_in (Some doc) deleted = doc.version
version_in None deleted = deleted

-- The version of an id: that of its document, or the one that deleting it gave it. One that was never there has 0.
abbrev pub version_at : List ℕ → DocumentsData → ℕ
version_at id docs = version_in (find id docs.live) (deleted_version id docs.deleted)

-- No two documents have one id.
abbrev pub AreDistinct : List DocData → Type 0
AreDistinct [] = Unit {0}
AreDistinct (doc ∷ docs) = (find doc.id docs ≡ None) × AreDistinct docs

-- A document goes last, unless one of its id is there.
abbrev pub with_doc : List DocData → DocData → List DocData
with_doc docs doc = if is_some (find doc.id docs) then docs else docs ++ doc ∷ []

-- The first document of each id. Where no two have one id, that is each.
abbrev pub with_docs : List DocData → List DocData → List DocData
with_docs docs [] = docs
with_docs docs (doc ∷ more) = with_docs (with_doc docs doc) more

-- ---- what a change makes of it

abbrev pub rewritten : ℕ → Data → DocData → DocData
rewritten version source doc = record { id = doc.id; version = version; source = source }

abbrev pub with_source : List ℕ → ℕ → Data → List DocData → List DocData
with_source id version source [] = []
with_source id version source (doc ∷ docs) = if bytes_eq id doc.id then rewritten version source doc ∷ docs else doc ∷ with_source id version source docs

abbrev pub without : List ℕ → List DocData → List DocData
without id [] = []
without id (doc ∷ docs) = if bytes_eq id doc.id then without id docs else doc ∷ without id docs

abbrev pub with_version : List ℕ → ℕ → List (List ℕ × ℕ) → List (List ℕ × ℕ)
with_version id version [] = (id, version) ∷ []
with_version id version (one ∷ more) = if bytes_eq id one.0 then (one.0, version) ∷ more else one ∷ with_version id version more

-- The document of an id has another source and this version.
abbrev pub replaced : List ℕ → ℕ → Data → DocumentsData → DocumentsData
replaced id version source docs = record { live = with_source id version source docs.live; deleted = docs.deleted }

-- An id has no document, and this version.
abbrev pub removed : List ℕ → ℕ → DocumentsData → DocumentsData
removed id version docs = record { live = without id docs.live; deleted = with_version id version docs.deleted }

-- A change gives an id this version. What is deleted stays so: a change makes no document where there is none.
abbrev pub changed : List ℕ → ℕ → ChangeData → Option DocData → DocumentsData → DocumentsData
changed id version (Index source) (Some doc) docs = replaced id version source docs
changed id version (Index source) None docs = removed id version docs
changed id version Delete found docs = removed id version docs

-- A change gives an id its next version.
abbrev pub with_change : List ℕ → ChangeData → DocumentsData → DocumentsData
with_change id change docs = changed id (version_at id docs + 1) change (find id docs.live) docs

-- ---- how they are kept

abbrev pub ids_of : List DocData → List (List ℕ)
ids_of docs = map (λ doc. doc.id) docs

-- The versions of a map.
abbrev pub versions_of : List (String Global × ℕ) → List (List ℕ × ℕ)
versions_of entries = map (λ e. (string_bytes e.0, e.1)) entries

-- An id goes last, unless it is there.
abbrev pub with_id : List (List ℕ) → List ℕ → List (List ℕ)
with_id ids id = if list_any (bytes_eq id) ids then ids else ids ++ id ∷ []

-- These are the ids of documents, in their order, and none of them stands twice.
pub record ArePlaces (keys : List (String Global)) (docs : List DocData) : Type 0 where
  pub ids : map string_bytes keys ≡ ids_of docs
  pub distinct : AreDistinct docs

-- A document goes last among others and its id among theirs, unless it is there.
abbrev pub IsAdded : List (String Global) → List DocData → DocData → List (String Global) → List DocData → Type 0
IsAdded keys docs doc new_keys new_docs = ArePlaces keys docs → ArePlaces new_keys new_docs × (new_docs ≡ with_doc docs doc)
