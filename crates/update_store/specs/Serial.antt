-- That the history is one of clients that came one after the other.
use Rattle.std.specs.Prelude.{◌≡◌, ℕ, ◌+◌, List, [], ◌∷◌, ◌++◌, map, get_or}
use Rattle.update_store.specs.declared.document.Commit.{Commit}
use Rattle.update_store.specs.Documents.{DocData}
use Rattle.update_store.specs.Committing.{StoreData}
use Rattle.update_store.specs.Updates.{Made, Read, ClientData, World, turns, alone}

-- the id of the client of a number
abbrev pub id_of : List (List ℕ) → ℕ → List ℕ
id_of ids number = get_or ids number []

-- A store came to be from another: the clients of what was entered in the history meanwhile, one after the other, each reading,
-- running and committing with nothing between, make the same documents with the same versions and enter the same history. So each
-- script that was committed ran on the version just before its commit.
pub record IsSerial (ran : ℕ → DocData → Made) (ids : List (List ℕ)) (old new : StoreData) : Type 0 where
  pub entries : List Commit
  pub entered : new.history ≡ old.history ++ entries
  pub same : alone ran (id_of ids) entries old ≡ new

-- The clients have not begun, and each has its number.
abbrev pub AreFresh : ℕ → List ClientData → Type 0
AreFresh number [] = Unit {0}
AreFresh number (c ∷ cs) = (c.number ≡ number) × (c.phase ≡ Read) × AreFresh (number + 1) cs

-- Whatever steps clients take, in whatever order.
abbrev pub AllSerial : Type 0
AllSerial = (ran : ℕ → DocData → Made) (order : List ℕ) (first : World)
    → AreFresh 0 first.clients → IsSerial ran (map (λ c. c.id) first.clients) first.store (turns ran order first).store
