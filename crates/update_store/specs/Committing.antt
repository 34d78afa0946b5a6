-- What a store has, and what a commit makes of it.
use Rattle.std.specs.Prelude.{◌≡◌, ◌≢◌, ℕ, ◌+◌, List, [], ◌∷◌, ◌++◌, Option}
use Rattle.update_store.specs.declared.document.Commit.{Commit}
use Rattle.update_store.specs.declared.store.CommitErr.{CommitErr}
use Rattle.update_store.specs.declared.store.CommitErr.TheVariants as e
use Rattle.update_store.specs.Documents.{DocData, ChangeData, DocumentsData, find, version_at, with_change}

-- The documents, those that were deleted among them, and what was committed, the earliest first.
pub record StoreData : Type 0 where
  pub documents : DocumentsData
  pub history : List Commit

-- These documents are live, and nothing was deleted.
abbrev pub all_live : List DocData → DocumentsData
all_live docs = record { live = docs; deleted = [] }

-- A store of these documents, in which nothing was committed.
abbrev pub opened : List DocData → StoreData
opened docs = record { documents = all_live docs; history = [] }

-- The live document of an id.
abbrev pub read : List ℕ → StoreData → Option DocData
read id store = find id store.documents.live

-- A client's change over a version is made, and entered in the history with the version that was read.
abbrev pub committed : ℕ → List ℕ → ℕ → ChangeData → StoreData → StoreData
committed client id version change store = record {
  documents = with_change id change store.documents;
  history = store.history ++ (record { client = client; version = version }) ∷ [];
}

-- A commit has come about: the version that was read is the one that is there, and the next one is told.
pub record IsCommitted (client : ℕ) (id : List ℕ) (version : ℕ) (change : ChangeData) (old new : StoreData) (result : ℕ) : Type 0 where
  pub same : version_at id old.documents ≡ version
  pub next : result ≡ version + 1
  pub is : new ≡ committed client id version change old

-- Why a commit has not: the version that is there is not the one that was read, and both are told. Want of memory is free.
abbrev pub IsErrFor : ℕ → ℕ → CommitErr → Type 0
IsErrFor version there (e.Conflict read found) = (read ≡ version) × (found ≡ there) × (there ≢ version)
IsErrFor version there e.NoMemory = Unit {0}

-- The store is as it was.
abbrev pub CommitsNot : ℕ → ℕ → StoreData → StoreData → CommitErr → Type 0
CommitsNot version there old new err = (new ≡ old) × IsErrFor version there err
