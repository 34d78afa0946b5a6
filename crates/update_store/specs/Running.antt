-- What runners answer, and what they are asked for.
use Rattle.std.specs.Prelude.{◌≡◌, ℕ, ◌+◌, ◌-◌, ◌^◌, min, List, [], ◌∷◌}
use Rattle.serde_json.specs.Data.{Data}
use Rattle.serde_json.specs.View.{view}
use Rattle.task_core.specs.Steps.{State}
use Rattle.update_store.specs.declared.client.Phase.{Phase}
use Rattle.update_store.specs.declared.client.Phase.TheVariants as p
use Rattle.update_store.specs.declared.runner.Ran.{Ran}
use Rattle.update_store.specs.declared.runner.Ran.TheVariants as r
use Rattle.update_store.specs.Documents.{DocData, ChangeData, doc_view, change_view}
use Rattle.update_store.specs.Committing.{StoreData}
use Rattle.update_store.specs.Updates.{Made, Writes, Nothing, Fails, PhaseData, Read, Run, Write, Keep, Ended, ClientData, client_data, stepped, step, run_made, again, written, Call, calls_in, World, world, IsUpdated, replies_of}

abbrev pub phase_view : Phase → PhaseData
phase_view p.Read = Read
phase_view (p.Run doc) = Run (doc_view doc)
phase_view (p.Write version change) = Write version (change_view change)
phase_view p.Keep = Keep
phase_view (p.Ended reply) = Ended (view reply)

-- ---- a runner's answers

-- An answer is what the script makes. Want of memory is free.
abbrev pub RanMeans : Made → Ran → Type 0
RanMeans made (r.Write change) = made ≡ Writes (change_view change)
RanMeans made r.Nothing = made ≡ Nothing
RanMeans made (r.Failed error) = made ≡ Fails (view error)
RanMeans made r.NoMemory = Unit {0}

-- of a call that found memory
abbrev pub OnRan : Ran → Type 0 → Type 0
OnRan (r.Write change) fact = fact
OnRan r.Nothing fact = fact
OnRan (r.Failed error) fact = fact
OnRan r.NoMemory fact = Unit {0}

-- A count stands still at the end of its type.
abbrev pub counted : ℕ → ℕ → ℕ
counted spent more = min (spent + more) (2 ^ 64 - 1)

-- What scripts make: what that of each client makes of a document, and what a run of it costs.
pub record Meaning : Type 0 where
  pub ran : ℕ → DocData → Made
  pub cost : ℕ → DocData → ℕ

-- What is spent after these calls.
abbrev pub paid : (ℕ → DocData → ℕ) → List Call → ℕ → ℕ
paid cost [] spent = spent
paid cost (call ∷ more) spent = paid cost more (counted spent (cost call.client call.doc))

-- A runner was asked for these calls: it means what it meant, and their costs were paid.
pub record Asked {R : Type 0} (means : R → Meaning → Type 0) (spent : R → ℕ) (m : Meaning) (calls : List Call) (old new : R) : Type 0 where
  pub still : means new m
  pub pays : spent new ≡ paid m.cost calls (spent old)

-- ---- steps of the code

-- A client whose script is run next has this made of its document.
abbrev pub MakesIn : PhaseData → (ℕ → DocData → Made) → ℕ → Made → Type 0
MakesIn (Run doc) ran number made = ran number doc ≡ made
MakesIn Read ran number made = Unit {0}
MakesIn (Write version change) ran number made = Unit {0}
MakesIn Keep ran number made = Unit {0}
MakesIn (Ended reply) ran number made = Unit {0}

-- scripts that make this of each document
abbrev pub always : Made → ℕ → DocData → Made
always made number doc = made

-- What a step makes of a client, the store and the runner, whatever the runner means.
pub record Takes {R : Type 0} (means : R → Meaning → Type 0) (spent : R → ℕ) (old new : State ClientData StoreData R) : Type 0 where
  pub made : Made
  pub is : stepped new.tasks new.shared ≡ step (always made) old.tasks old.shared
  pub makes : (m : Meaning) → means old.runner m → MakesIn old.tasks.phase m.ran old.tasks.number made
  pub asked : (m : Meaning) → means old.runner m → Asked means spent m (calls_in old.tasks.phase old.tasks.number) old.runner new.runner

-- What a run of the script makes of a client that has read a document.
pub record IsRun {R : Type 0} (means : R → Meaning → Type 0) (spent : R → ℕ) (number : ℕ) (doc : DocData) (old new : R) (phase : Phase) : Type 0 where
  pub made : Made
  pub is : phase_view phase ≡ run_made doc made
  pub makes : (m : Meaning) → means old m → m.ran number doc ≡ made
  pub asked : (m : Meaning) → means old m → Asked means spent m ((record { client = number; doc = doc }) ∷ []) old new

-- What a conflict makes of a client, which has so many retries left then.
abbrev pub BeginsAgain : ℕ → ℕ → ℕ → ℕ → Phase → Type 0
BeginsAgain retries left read found phase = (c : ClientData) → client_data c.number c.id left (phase_view phase) ≡ again retries c read found

-- What a commit makes of a client and of the store.
abbrev pub IsWritten : ℕ → List ℕ → ℕ → ChangeData → ℕ → ℕ → StoreData → StoreData → Phase → Type 0
IsWritten number id version change retries left old new phase =
    stepped (client_data number id left (phase_view phase)) new ≡ written version change (client_data number id retries (Write version change)) old

-- ---- all of them

-- The clients were run to their ends, and these are their replies. The runner was asked for exactly the calls that their steps make.
pub record HasUpdated {R : Type 0} (means : R → Meaning → Type 0) (spent : R → ℕ) (m : Meaning) (order : List ℕ) (clients : List ClientData) (store : StoreData) (old : R) (replies : List Data) (after : StoreData) (new : R) : Type 0 where
  pub last : World
  pub made : List Call
  pub updated : IsUpdated m.ran order (world clients store) last made
  pub left : after ≡ last.store
  pub told : replies ≡ replies_of last.clients
  pub asked : Asked means spent m made old new
