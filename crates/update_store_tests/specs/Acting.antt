-- What scripts make of documents whose answers are fixed.
use Rattle.std.specs.Prelude.{◌≡◌, ℕ, List, codes, slice_get, unwrap_or, option_and_then}
use Rattle.serde_json.specs.Data.{Data, number, string, object, unsigned, member, no_members}
use Rattle.serde_json.specs.Find.{get, as_number, as_u64}
use Rattle.update_store.specs.Documents.{DocData, Index, Delete}
use Rattle.update_store.specs.Updates.{Made, Writes, Nothing, Fails}
use Rattle.update_store.specs.Running.{Meaning, counted}
use Rattle.update_store_tests.specs.declared.acting.Act.{Act}
use Rattle.update_store_tests.specs.declared.acting.Act.TheVariants as act

-- the number `n` of a source, and 0 where it has none
abbrev pub number_of : Data → ℕ
number_of source = unwrap_or (option_and_then as_u64 (option_and_then as_number (get (codes "n") source))) 0

abbrev pub with_number : ℕ → Data
with_number n = object (member (codes "n") (number (unsigned n)) no_members)

-- the error of a script that fails
abbrev pub error : Data
error = string (codes "fails")

-- what a script makes of a document
abbrev pub acted : Act → DocData → Made
acted (act.Add n) doc = Writes (Index (with_number (counted (number_of doc.source) n)))
acted act.Delete doc = Writes Delete
acted act.Keep doc = Nothing
acted act.Fail doc = Fails error

-- what a client's script does: one of which nothing is said keeps its document
abbrev pub act_of : List Act → ℕ → Act
act_of acts client = unwrap_or (slice_get acts client) act.Keep

-- scripts of clients that do this
abbrev pub ActsSo : List Act → Meaning → Type 0
ActsSo acts m = (client : ℕ) (doc : DocData) → (m.ran client doc ≡ acted (act_of acts client) doc) × (m.cost client doc ≡ number_of doc.source)
