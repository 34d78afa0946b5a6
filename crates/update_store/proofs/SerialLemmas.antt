-- What no step of any client breaks.
use Rattle.std.proofs.Common.{◌≡◌, ℕ, zero, suc, ◌+◌, ◌≤◌, Bool, true, cond, List, [], ◌∷◌, ◌++◌, length, map, Option, Some, None, inl, inr, string_bytes, refl, sym, ap, ◌∙◌, subst, arith, append_assoc, append-nil, length-append}
use Rattle.std.specs.Prelude.{◌==◌}
use Rattle.std.proofs.lemmas.Bool.{eqb-true}
use Rattle.std.proofs.lemmas.Bool.Decides.{eqb_tells}
use Rattle.std.proofs.lemmas.List.{get_or_at}
use Rattle.update_store.specs.declared.client.Client.{Client}
use Rattle.update_store.specs.declared.document.Commit.{Commit}
use Rattle.update_store.specs.Documents.{DocData, ChangeData, DocumentsData, find, deleted_version, version_in, version_at}
use Rattle.update_store.specs.Committing.{StoreData, read, committed}
use Rattle.update_store.specs.Replies.{change_reply, none_reply}
use Rattle.update_store.specs.Updates.{Made, Writes, Nothing, Fails, PhaseData, Read, Run, Write, Keep, Ended, ClientData, client_data, Stepped, stepped, in_phase, begun, run_made, op_of, again, written, step_in, step, World, turn, turns, numbered, next, alone_one, alone}
use Rattle.update_store.specs.Serial.{id_of, IsSerial, AreFresh, AllSerial}
use Rattle.update_store.proofs.DocumentLemmas.{chosen, passed, Grows, grows_none, grows_change}

-- ---- what a client knows

-- What it read is there as it was, wherever its version still stands.
pub record Holds (id : List ℕ) (doc : DocData) (docs : DocumentsData) : Type 0 where
  pub older : doc.version ≤ version_at id docs
  pub same : version_at id docs ≡ doc.version → find id docs.live ≡ Some doc

-- A change is what the script made of what was read.
pub record Wants (ran : ℕ → DocData → Made) (number : ℕ) (id : List ℕ) (version : ℕ) (change : ChangeData) (docs : DocumentsData) : Type 0 where
  pub doc : DocData
  pub holds : Holds id doc docs
  pub over_it : version ≡ doc.version
  pub made : ran number doc ≡ Writes change

abbrev pub Knows : PhaseData → (ℕ → DocData → Made) → ℕ → List ℕ → DocumentsData → Type 0
Knows Read ran number id docs = Unit {0}
Knows (Run doc) ran number id docs = Holds id doc docs
Knows (Write version change) ran number id docs = Wants ran number id version change docs
Knows Keep ran number id docs = Unit {0}
Knows (Ended reply) ran number id docs = Unit {0}

pub record Fits (ran : ℕ → DocData → Made) (ids : List (List ℕ)) (docs : DocumentsData) (c : ClientData) : Type 0 where
  pub sits : id_of ids c.number ≡ c.id
  pub knows : Knows c.phase ran c.number c.id docs

holds_on : (id : List ℕ) (doc : DocData) (old new : DocumentsData) → Grows old new → Holds id doc old → Holds id doc new
holds_on id doc old new grows holds = record {
  older = omega (arith, holds.older, grows.versions id);
  same = λ h.
      let still : version_at id old ≡ doc.version = omega (arith, h, holds.older, grows.versions id) in
      grows.same id (h ∙ sym still) ∙ holds.same still;
}

knows_on : (phase : PhaseData) (ran : ℕ → DocData → Made) (number : ℕ) (id : List ℕ) (old new : DocumentsData) → Grows old new → Knows phase ran number id old → Knows phase ran number id new
knows_on Read ran number id old new grows knows = tt
knows_on (Run doc) ran number id old new grows knows = holds_on id doc old new grows knows
knows_on (Write version change) ran number id old new grows knows =
    record { doc = knows.doc; holds = holds_on id knows.doc old new grows knows.holds; over_it = knows.over_it; made = knows.made }
knows_on Keep ran number id old new grows knows = tt
knows_on (Ended reply) ran number id old new grows knows = tt

fits_on : (ran : ℕ → DocData → Made) (ids : List (List ℕ)) (c : ClientData) (old new : DocumentsData) → Grows old new → Fits ran ids old c → Fits ran ids new c
fits_on ran ids c old new grows fits = record { sits = fits.sits; knows = knows_on c.phase ran c.number c.id old new grows fits.knows }

-- ---- one step

abbrev OfVersion : Option DocData → ℕ → Type 0
OfVersion None version = Unit {0}
OfVersion (Some doc) version = version ≡ doc.version

of_version : (o : Option DocData) (deleted : ℕ) → OfVersion o (version_in o deleted)
of_version None deleted = tt
of_version (Some doc) deleted = refl

knows_begun : (ran : ℕ → DocData → Made) (number : ℕ) (id : List ℕ) (docs : DocumentsData) (o : Option DocData)
    → OfVersion o (version_at id docs) → find id docs.live ≡ o → Knows (begun o) ran number id docs
knows_begun ran number id docs None version is = tt
knows_begun ran number id docs (Some doc) version is = record { older = omega (arith, version); same = λ h. is }

knows_run : (ran : ℕ → DocData → Made) (number : ℕ) (id : List ℕ) (docs : DocumentsData) (doc : DocData) (made : Made)
    → ran number doc ≡ made → Holds id doc docs → Knows (run_made doc made) ran number id docs
knows_run ran number id docs doc (Writes change) is holds = record { doc = doc; holds = holds; over_it = refl; made = is }
knows_run ran number id docs doc Nothing is holds = tt
knows_run ran number id docs doc (Fails error) is holds = tt

-- what a step leaves: versions have only grown, its client fits, and the history still tells how the store came to be
record Keeps (ran : ℕ → DocData → Made) (ids : List (List ℕ)) (first : StoreData) (old : StoreData) (new : Stepped) : Type 0 where
  pub grows : Grows old.documents new.store.documents
  pub fits : Fits ran ids new.store.documents new.client
  pub serial : IsSerial ran ids first new.store

alone_snoc : (ran : ℕ → DocData → Made) (of : ℕ → List ℕ) (entries : List Commit) (entry : Commit) (s : StoreData)
    → alone ran of (entries ++ entry ∷ []) s ≡ alone_one ran (client_data entry.client (of entry.client) 0 Read) (alone ran of entries s)
alone_snoc ran of [] entry s = refl
alone_snoc ran of (e ∷ es) entry s = alone_snoc ran of es entry (alone_one ran (client_data e.client (of e.client) 0 Read) s)

-- alone, a client commits what its script makes of the document as it is
alone_commits : (ran : ℕ → DocData → Made) (number : ℕ) (id : List ℕ) (doc : DocData) (change : ChangeData) (s : StoreData)
    → read id s ≡ Some doc → ran number doc ≡ Writes change → (version_at id s.documents == doc.version) ≡ true
    → alone_one ran (client_data number id 0 Read) s ≡ committed number id doc.version change s
alone_commits ran number id doc change s is made test =
    let c = client_data number id 0 (Write doc.version change) in
    ap (λ (o : Option DocData). (next ran (next ran (stepped (client_data number id 0 (begun o)) s))).store) is
    ∙ ap (λ (m : Made). (next ran (stepped (client_data number id 0 (run_made doc m)) s)).store) made
    ∙ ap (λ (b : Bool). (cond b (stepped (in_phase (Ended (change_reply (op_of change) id (doc.version + 1))) c) (committed number id doc.version change s)) (stepped (again 0 c doc.version (version_at id s.documents)) s)).store) test

-- one entry more
serial_more : (ran : ℕ → DocData → Made) (ids : List (List ℕ)) (first s : StoreData) (number : ℕ) (id : List ℕ) (doc : DocData) (change : ChangeData)
    → id_of ids number ≡ id → read id s ≡ Some doc → ran number doc ≡ Writes change → (version_at id s.documents == doc.version) ≡ true
    → IsSerial ran ids first s → IsSerial ran ids first (committed number id doc.version change s)
serial_more ran ids first s number id doc change sits is made test serial =
    let entry : Commit = record { client = number; version = doc.version } in
    record {
      entries = serial.entries ++ entry ∷ [];
      entered = ap (λ (h : List Commit). h ++ entry ∷ []) serial.entered ∙ append_assoc first.history serial.entries (entry ∷ []);
      same =
          alone_snoc ran (id_of ids) serial.entries entry first
          ∙ ap (λ (t : StoreData). alone_one ran (client_data number (id_of ids number) 0 Read) t) serial.same
          ∙ ap (λ (i : List ℕ). alone_one ran (client_data number i 0 Read) s) sits
          ∙ alone_commits ran number id doc change s is made test;
    }

fits_again : (ran : ℕ → DocData → Made) (ids : List (List ℕ)) (docs : DocumentsData) (c : ClientData) (retries was found : ℕ)
    → id_of ids c.number ≡ c.id → Fits ran ids docs (again retries c was found)
fits_again ran ids docs c zero was found sits = record { sits = sits; knows = tt }
fits_again ran ids docs c (suc left) was found sits = record { sits = sits; knows = tt }

keeps_commit : (ran : ℕ → DocData → Made) (ids : List (List ℕ)) (first s : StoreData) (c : ClientData) (doc : DocData) (change : ChangeData)
    → id_of ids c.number ≡ c.id → Holds c.id doc s.documents → ran c.number doc ≡ Writes change → IsSerial ran ids first s
    → (version_at c.id s.documents == doc.version) ≡ true
    → Keeps ran ids first s (stepped (in_phase (Ended (change_reply (op_of change) c.id (doc.version + 1))) c) (committed c.number c.id doc.version change s))
keeps_commit ran ids first s c doc change sits holds made serial test = record {
  grows = grows_change c.id change s.documents;
  fits = record { sits = sits; knows = tt };
  serial = serial_more ran ids first s c.number c.id doc change sits (holds.same (eqb-true (version_at c.id s.documents) doc.version test)) made test serial;
}

keeps_still : (ran : ℕ → DocData → Made) (ids : List (List ℕ)) (first s : StoreData) (c : ClientData) → Fits ran ids s.documents c
    → IsSerial ran ids first s → Keeps ran ids first s (stepped c s)
keeps_still ran ids first s c fits serial = record { grows = grows_none s.documents; fits = fits; serial = serial }

keeps_written : (ran : ℕ → DocData → Made) (ids : List (List ℕ)) (first s : StoreData) (c : ClientData) (doc : DocData) (change : ChangeData)
    → id_of ids c.number ≡ c.id → Holds c.id doc s.documents → ran c.number doc ≡ Writes change → IsSerial ran ids first s
    → Keeps ran ids first s (written doc.version change c s)
keeps_written ran ids first s c doc change sits holds made serial =
    let test = version_at c.id s.documents == doc.version in
    let yes : Stepped = stepped (in_phase (Ended (change_reply (op_of change) c.id (doc.version + 1))) c) (committed c.number c.id doc.version change s) in
    let no : Stepped = stepped (again c.retries c doc.version (version_at c.id s.documents)) s in
    elim (eqb_tells (version_at c.id s.documents) doc.version) [
      | inl h ↦ subst (λ (t : Stepped). Keeps ran ids first s t) (sym (chosen test yes no h.0)) (keeps_commit ran ids first s c doc change sits holds made serial h.0)
      | inr h ↦ subst (λ (t : Stepped). Keeps ran ids first s t) (sym (passed test yes no h.0))
          (keeps_still ran ids first s (again c.retries c doc.version (version_at c.id s.documents)) (fits_again ran ids s.documents c c.retries doc.version (version_at c.id s.documents) sits) serial)
    ]

keeps_phase : (phase : PhaseData) (ran : ℕ → DocData → Made) (ids : List (List ℕ)) (first s : StoreData) (c : ClientData)
    → id_of ids c.number ≡ c.id → Knows phase ran c.number c.id s.documents → Knows c.phase ran c.number c.id s.documents → IsSerial ran ids first s
    → Keeps ran ids first s (step_in phase ran c s)
keeps_phase Read ran ids first s c sits knows own serial =
    keeps_still ran ids first s (in_phase (begun (read c.id s)) c)
    (record {
      sits = sits;
      knows = knows_begun ran c.number c.id s.documents (read c.id s) (of_version (read c.id s) (deleted_version c.id s.documents.deleted)) refl;
    })
    serial
keeps_phase (Run doc) ran ids first s c sits knows own serial =
    keeps_still ran ids first s (in_phase (run_made doc (ran c.number doc)) c)
    (record { sits = sits; knows = knows_run ran c.number c.id s.documents doc (ran c.number doc) refl knows }) serial
keeps_phase (Write version change) ran ids first s c sits knows own serial =
    subst (λ (v : ℕ). Keeps ran ids first s (written v change c s)) (sym knows.over_it)
    (keeps_written ran ids first s c knows.doc change sits knows.holds knows.made serial)
keeps_phase Keep ran ids first s c sits knows own serial = keeps_still ran ids first s (in_phase (Ended (none_reply c.id)) c) (record { sits = sits; knows = tt }) serial
keeps_phase (Ended reply) ran ids first s c sits knows own serial = keeps_still ran ids first s c (record { sits = sits; knows = own }) serial

-- ---- steps of many

abbrev AllFit : (ℕ → DocData → Made) → List (List ℕ) → DocumentsData → List ClientData → Type 0
AllFit ran ids docs [] = Unit {0}
AllFit ran ids docs (c ∷ cs) = Fits ran ids docs c × AllFit ran ids docs cs

all_on : (ran : ℕ → DocData → Made) (ids : List (List ℕ)) (old new : DocumentsData) (cs : List ClientData) → Grows old new → AllFit ran ids old cs → AllFit ran ids new cs
all_on ran ids old new [] grows fit = tt
all_on ran ids old new (c ∷ cs) grows fit = (fits_on ran ids c old new grows fit.0, all_on ran ids old new cs grows fit.1)

record KeepsAll (ran : ℕ → DocData → Made) (ids : List (List ℕ)) (first : StoreData) (old : StoreData) (new : World) : Type 0 where
  pub grows : Grows old.documents new.store.documents
  pub fit : AllFit ran ids new.store.documents new.clients
  pub serial : IsSerial ran ids first new.store

keeps_turn : (ran : ℕ → DocData → Made) (ids : List (List ℕ)) (first s : StoreData) (number : ℕ) (cs : List ClientData)
    → AllFit ran ids s.documents cs → IsSerial ran ids first s → KeepsAll ran ids first s (turn ran number cs s)
keeps_turn ran ids first s number [] fit serial = record { grows = grows_none s.documents; fit = tt; serial = serial }
keeps_turn ran ids first s zero (c ∷ cs) fit serial =
    let one : Keeps ran ids first s (step ran c s) = keeps_phase c.phase ran ids first s c fit.0.sits fit.0.knows fit.0.knows serial in
    record { grows = one.grows; fit = (one.fits, all_on ran ids s.documents (step ran c s).store.documents cs one.grows fit.1); serial = one.serial }
keeps_turn ran ids first s (suc number) (c ∷ cs) fit serial =
    let more : KeepsAll ran ids first s (turn ran number cs s) = keeps_turn ran ids first s number cs fit.1 serial in
    record { grows = more.grows; fit = (fits_on ran ids c s.documents (turn ran number cs s).store.documents more.grows fit.0, more.fit); serial = more.serial }

serial_turns : (ran : ℕ → DocData → Made) (ids : List (List ℕ)) (first : StoreData) (numbers : List ℕ) (w : World)
    → AllFit ran ids w.store.documents w.clients → IsSerial ran ids first w.store → IsSerial ran ids first (turns ran numbers w).store
serial_turns ran ids first [] w fit serial = serial
serial_turns ran ids first (number ∷ numbers) w fit serial =
    let one : KeepsAll ran ids first w.store (turn ran number w.clients w.store) = keeps_turn ran ids first w.store number w.clients fit serial in
    serial_turns ran ids first numbers (turn ran number w.clients w.store) one.fit one.serial

-- ---- from the beginning

abbrev pub client_ids : List ClientData → List (List ℕ)
client_ids clients = map (λ c. c.id) clients

fit_fresh : (ran : ℕ → DocData → Made) (docs : DocumentsData) (front : List (List ℕ)) (number : ℕ) (cs : List ClientData)
    → length front ≡ number → AreFresh number cs → AllFit ran (front ++ client_ids cs) docs cs
fit_fresh ran docs front number [] long are = tt
fit_fresh ran docs front number (c ∷ cs) long are = (
  record {
    sits = get_or_at front c.id (client_ids cs) [] c.number (long ∙ sym are.0);
    knows = subst (λ (phase : PhaseData). Knows phase ran c.number c.id docs) (sym are.1) tt;
  },
  subst (λ (l : List (List ℕ)). AllFit ran l docs cs) (append_assoc front (c.id ∷ []) (client_ids cs))
      (fit_fresh ran docs (front ++ c.id ∷ []) (number + 1) cs (length-append front (c.id ∷ []) ∙ ap (λ (n : ℕ). n + 1) long) are.2),
)

serial_none : (ran : ℕ → DocData → Made) (ids : List (List ℕ)) (s : StoreData) → IsSerial ran ids s s
serial_none ran ids s = record { entries = []; entered = sym (append-nil s.history); same = refl }

pub all_serial : AllSerial
all_serial ran order first are =
    serial_turns ran (client_ids first.clients) first.store order first
    (fit_fresh ran first.store.documents [] 0 first.clients refl are)
    (serial_none ran (client_ids first.clients) first.store)

-- ---- clients that have not begun

pub fresh_numbered : (number : ℕ) (cs : List Client) → AreFresh number (numbered number cs)
fresh_numbered number [] = tt
fresh_numbered number (c ∷ cs) = (refl, refl, fresh_numbered (number + 1) cs)

pub ids_numbered : (number : ℕ) (cs : List Client) → client_ids (numbered number cs) ≡ map (λ (c : Client). string_bytes c.id) cs
ids_numbered number [] = refl
ids_numbered number (c ∷ cs) = ap (λ (l : List (List ℕ)). string_bytes c.id ∷ l) (ids_numbered (number + 1) cs)
