-- The documents of a job as a store, and a store as what is told of it.
use Rattle.std.specs.Prelude.{List, [], ◌∷◌, codes, map}
use Rattle.serde_json.specs.Data.{Data, Members, array, number, object, unsigned, member, no_members, put}
use Rattle.serde_json.specs.View.{items_of}
use Rattle.job_file.specs.Mappings.{members_of}
use Rattle.update_store.specs.declared.document.Commit.{Commit}
use Rattle.update_store.specs.Documents.{DocData, with_docs}
use Rattle.update_store.specs.Committing.{StoreData, opened}

-- ---- the first documents

-- each is new
abbrev pub docs_in : Members → List DocData
docs_in no_members = []
docs_in (member id source ms) = record { id = id; version = 1; source = source } ∷ docs_in ms

abbrev pub first_store : Data → StoreData
first_store documents = opened (with_docs [] (docs_in (members_of documents)))

-- ---- what is told of a store

abbrev pub doc_reply : DocData → Data
doc_reply doc = object (member (codes "_source") doc.source (member (codes "_version") (number (unsigned doc.version)) no_members))

-- the documents by their ids, beside others
abbrev pub with_replies : Members → List DocData → Members
with_replies ms [] = ms
with_replies ms (doc ∷ docs) = with_replies (put doc.id (doc_reply doc) ms) docs

abbrev pub commit_reply : Commit → Data
commit_reply entry = object (member (codes "client") (number (unsigned entry.client)) (member (codes "version") (number (unsigned entry.version)) no_members))

-- the live documents, and what was committed, the earliest first
abbrev pub documents_and_history : Data → Data → Data
documents_and_history documents history = object (member (codes "documents") documents (member (codes "history") history no_members))

abbrev pub store_reply : StoreData → Data
store_reply store = documents_and_history (object (with_replies no_members store.documents.live)) (array (items_of (map commit_reply store.history)))
