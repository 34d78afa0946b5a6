-- What many clients make of the documents of one store, a step at a time.
use Rattle.std.specs.Prelude.{◌≡◌, ℕ, zero, suc, ◌+◌, ◌*◌, ◌==◌, length, Bool, true, false, List, [], ◌∷◌, ◌++◌, map, Option, Some, None, if◌then◌else◌, codes, string_bytes}
use Rattle.serde_json.specs.Data.{Data, null}
use Rattle.task_core.specs.Order.{rounds, all_done}
use Rattle.update_store.specs.declared.client.Client.{Client}
use Rattle.update_store.specs.declared.document.Commit.{Commit}
use Rattle.update_store.specs.Documents.{DocData, ChangeData, Index, Delete, version_at}
use Rattle.update_store.specs.Committing.{StoreData, read, committed}
use Rattle.update_store.specs.Replies.{change_reply, none_reply, missing_reply, conflict_reply}

-- What a run of the script comes to.
pub data Made : Type 0 where
  Writes : ChangeData → Made
  Nothing : Made
  Fails : Data → Made

-- What a client does next: it reads its document, runs the script over what it read, commits a change over the version that it
-- read, ends with nothing changed, or has ended with a reply.
pub data PhaseData : Type 0 where
  Read : PhaseData
  Run : DocData → PhaseData
  Write : ℕ → ChangeData → PhaseData
  Keep : PhaseData
  Ended : Data → PhaseData

-- A client: its number, the id of its document, how often it may begin again, and what it does next.
pub record ClientData : Type 0 where
  pub number : ℕ
  pub id : List ℕ
  pub retries : ℕ
  pub phase : PhaseData

abbrev pub client_data : ℕ → List ℕ → ℕ → PhaseData → ClientData
client_data number id retries phase = record { number = number; id = id; retries = retries; phase = phase }

-- ---- a step of a client

-- A client and the store after a step.
pub record Stepped : Type 0 where
  pub client : ClientData
  pub store : StoreData

abbrev pub stepped : ClientData → StoreData → Stepped
stepped c store = record { client = c; store = store }

abbrev pub in_phase : PhaseData → ClientData → ClientData
in_phase phase c = client_data c.number c.id c.retries phase

-- A read ends a client whose document is not there.
abbrev pub begun : Option DocData → PhaseData
begun None = Ended missing_reply
begun (Some doc) = Run doc

-- An error of the script ends its client.
abbrev pub run_made : DocData → Made → PhaseData
run_made doc (Writes change) = Write doc.version change
run_made doc Nothing = Keep
run_made doc (Fails error) = Ended error

abbrev pub op_of : ChangeData → List ℕ
op_of (Index source) = codes "index"
op_of Delete = codes "delete"

-- The versions differ: with retries left a client loses one and begins again, and without it ends.
abbrev pub again : ℕ → ClientData → ℕ → ℕ → ClientData
again zero c read found = client_data c.number c.id 0 (Ended (conflict_reply read found))
again (suc left) c read found = client_data c.number c.id left Read

-- A change is committed over the version that was read alone.
abbrev pub written : ℕ → ChangeData → ClientData → StoreData → Stepped
written version change c store =
    if version_at c.id store.documents == version
    then stepped (in_phase (Ended (change_reply (op_of change) c.id (version + 1))) c) (committed c.number c.id version change store)
    else stepped (again c.retries c version (version_at c.id store.documents)) store

abbrev pub step_in : PhaseData → (ℕ → DocData → Made) → ClientData → StoreData → Stepped
step_in Read ran c store = stepped (in_phase (begun (read c.id store)) c) store
step_in (Run doc) ran c store = stepped (in_phase (run_made doc (ran c.number doc)) c) store
step_in (Write version change) ran c store = written version change c store
step_in Keep ran c store = stepped (in_phase (Ended (none_reply c.id)) c) store
step_in (Ended reply) ran c store = stepped c store

-- One that has ended does nothing.
abbrev pub step : (ℕ → DocData → Made) → ClientData → StoreData → Stepped
step ran c store = step_in c.phase ran c store

-- ---- steps of many

-- The clients, in the order of their numbers, and the store.
pub record World : Type 0 where
  pub clients : List ClientData
  pub store : StoreData

abbrev pub world : List ClientData → StoreData → World
world clients store = record { clients = clients; store = store }

abbrev pub put_before : ClientData → World → World
put_before c w = world (c ∷ w.clients) w.store

abbrev pub put_first : List ClientData → Stepped → World
put_first more s = world (s.client ∷ more) s.store

-- The client of a number takes a step, where there is one.
abbrev pub turn : (ℕ → DocData → Made) → ℕ → List ClientData → StoreData → World
turn ran number [] store = world [] store
turn ran zero (c ∷ cs) store = put_first cs (step ran c store)
turn ran (suc number) (c ∷ cs) store = put_before c (turn ran number cs store)

abbrev pub turns : (ℕ → DocData → Made) → List ℕ → World → World
turns ran [] w = w
turns ran (number ∷ numbers) w = turns ran numbers (turn ran number w.clients w.store)

-- ---- what is asked of the script

-- A run of the script for a client, over the document that it read.
pub record Call : Type 0 where
  pub client : ℕ
  pub doc : DocData

abbrev pub calls_in : PhaseData → ℕ → List Call
calls_in Read number = []
calls_in (Run doc) number = (record { client = number; doc = doc }) ∷ []
calls_in (Write version change) number = []
calls_in Keep number = []
calls_in (Ended reply) number = []

abbrev pub calls_at : ℕ → List ClientData → List Call
calls_at number [] = []
calls_at zero (c ∷ cs) = calls_in c.phase c.number
calls_at (suc number) (c ∷ cs) = calls_at number cs

-- The runs that these steps ask for.
abbrev pub calls : (ℕ → DocData → Made) → List ℕ → World → List Call
calls ran [] w = []
calls ran (number ∷ numbers) w = calls_at number w.clients ++ calls ran numbers (turn ran number w.clients w.store)

-- ---- all of them

-- How many steps are left at most.
abbrev pub left_in : PhaseData → ℕ → ℕ
left_in Read retries = 3 + 3 * retries
left_in (Run doc) retries = 2 + 3 * retries
left_in (Write version change) retries = 1 + 3 * retries
left_in Keep retries = 1
left_in (Ended reply) retries = 0

abbrev pub left_of : ClientData → ℕ
left_of c = left_in c.phase c.retries

abbrev pub has_ended : PhaseData → Bool
has_ended (Ended reply) = true
has_ended _ = false

-- First each entry of an order gives the client of its number a step; then the clients take one step each in turn, from the first
-- on, round for round, until all have ended. Rounds behind that change nothing, so it does not matter how many are counted.
pub record IsUpdated (ran : ℕ → DocData → Made) (order : List ℕ) (first last : World) (made : List Call) : Type 0 where
  pub count : ℕ
  pub is : last ≡ turns ran (order ++ rounds count (length first.clients)) first
  pub called : made ≡ calls ran (order ++ rounds count (length first.clients)) first
  pub ended : all_done left_of last.clients ≡ true

-- The reply with which a client has ended.
abbrev pub reply_in : PhaseData → Data
reply_in (Ended reply) = reply
reply_in _ = null

abbrev pub replies_of : List ClientData → List Data
replies_of clients = map (λ c. reply_in c.phase) clients

-- Clients that have not begun, numbered from this number on.
abbrev pub numbered : ℕ → List Client → List ClientData
numbered number [] = []
numbered number (c ∷ cs) = client_data number (string_bytes c.id) c.retries Read ∷ numbered (number + 1) cs

-- ---- alone

-- It reads, runs and commits with no step of another between.
abbrev pub next : (ℕ → DocData → Made) → Stepped → Stepped
next ran s = step ran s.client s.store

abbrev pub alone_one : (ℕ → DocData → Made) → ClientData → StoreData → StoreData
alone_one ran c store = (next ran (next ran (step ran c store))).store

-- The clients of a history, one after the other, each with the document of this id.
abbrev pub alone : (ℕ → DocData → Made) → (ℕ → List ℕ) → List Commit → StoreData → StoreData
alone ran id_of [] store = store
alone ran id_of (entry ∷ more) store = alone ran id_of more (alone_one ran (client_data entry.client (id_of entry.client) 0 Read) store)
