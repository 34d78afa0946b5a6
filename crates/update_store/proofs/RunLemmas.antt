-- What the code's steps make of clients, and what it tells of all of them.
use Rattle.std.proofs.Common.{◌≡◌, ◌≢◌, ℕ, zero, suc, ◌+◌, ◌-◌, false, List, [], ◌∷◌, ◌++◌, length, map, Result, Ok, Err, IfOk, OnOk, string_bytes, inl, inr, refl, sym, ap, ◌∙◌, subst, arith, eq-eqb, append_assoc}
use Rattle.std.specs.Prelude.{◌==◌}
use Rattle.std.proofs.lemmas.Bool.Decides.{eqb_tells}
use Rattle.serde_json.specs.Data.{Data}
use Rattle.task_core.specs.Order.{rounds}
use Rattle.task_core.specs.Steps.{State, over, AllStep}
use Rattle.update_store.specs.declared.client.Client.{Client}
use Rattle.update_store.specs.declared.client.Phase.{Phase}
use Rattle.update_store.specs.declared.document.Commit.{Commit}
use Rattle.update_store.specs.declared.store.CommitErr.TheVariants as e
use Rattle.update_store.specs.Documents.{DocData, ChangeData, DocumentsData, version_at}
use Rattle.update_store.specs.Committing.{StoreData, read, committed, IsCommitted, CommitsNot}
use Rattle.update_store.specs.Replies.{change_reply, none_reply, conflict_reply}
use Rattle.update_store.specs.Updates.{Nothing, PhaseData, Read, Run, Write, Keep, Ended, ClientData, client_data, Stepped, stepped, in_phase, begun, op_of, again, written, World, world, turns, left_of, IsUpdated, reply_in, replies_of, numbered, Call}
use Rattle.update_store.specs.Running.{Meaning, phase_view, Takes, IsRun, IsWritten, HasUpdated}
use Rattle.update_store.specs.Serial.{IsSerial, AreFresh}
use Rattle.update_store.proofs.DocumentLemmas.{chosen, passed}
use Rattle.update_store.proofs.SerialLemmas.{client_ids, all_serial, fresh_numbered, ids_numbered}
use Rattle.update_store.proofs.TurnLemmas.{asked_none, Updates, updates}

pub ok_as : {A E : Type 0} {P Q : A → Type 0} (o : Result A E) → ((x : A) → P x → Q x) → IfOk o P → IfOk o Q
ok_as (Ok x) f h = f x h
ok_as (Err e) f h = h

pub ok_on : {A E : Type 0} {Q : Type 0} (o : Result A E) → Q → OnOk o Q
ok_on (Ok x) q = q
ok_on (Err e) q = tt

abbrev pub store_of : DocumentsData → List Commit → StoreData
store_of documents history = record { documents = documents; history = history }

-- ---- a step

module _ {R : Type 0} (means : R → Meaning → Type 0) (spent : R → ℕ) where
  pub takes_in : (number : ℕ) (id : List ℕ) (retries : ℕ) (s : StoreData) (r : R) (was phase : Phase) (new : State ClientData StoreData R) → was ≡ phase
      → Takes means spent (over (client_data number id retries (phase_view phase)) s r) new → Takes means spent (over (client_data number id retries (phase_view was)) s r) new
  takes_in number id retries s r was phase new is takes =
      subst (λ (q : Phase). Takes means spent (over (client_data number id retries (phase_view q)) s r) new) (sym is) takes

  pub takes_read : (number : ℕ) (id : List ℕ) (retries : ℕ) (s : StoreData) (r : R) (phase : Phase) → phase_view phase ≡ begun (read id s)
      → Takes means spent (over (client_data number id retries Read) s r) (over (client_data number id retries (phase_view phase)) s r)
  takes_read number id retries s r phase is = record {
    made = Nothing;
    is = ap (λ (q : PhaseData). stepped (client_data number id retries q) s) is;
    makes = λ m h. tt;
    asked = λ m h. asked_none means spent m r h;
  }

  pub takes_run : (number : ℕ) (id : List ℕ) (retries : ℕ) (s : StoreData) (doc : DocData) (r r' : R) (phase : Phase) → IsRun means spent number doc r r' phase
      → Takes means spent (over (client_data number id retries (Run doc)) s r) (over (client_data number id retries (phase_view phase)) s r')
  takes_run number id retries s doc r r' phase run = record {
    made = run.made;
    is = ap (λ (q : PhaseData). stepped (client_data number id retries q) s) run.is;
    makes = λ m h. run.makes m h;
    asked = λ m h. run.asked m h;
  }

  pub takes_write : (number : ℕ) (id : List ℕ) (version : ℕ) (change : ChangeData) (retries left : ℕ) (s s' : StoreData) (r : R) (phase : Phase)
      → IsWritten number id version change retries left s s' phase
      → Takes means spent (over (client_data number id retries (Write version change)) s r) (over (client_data number id left (phase_view phase)) s' r)
  takes_write number id version change retries left s s' r phase written =
      record { made = Nothing; is = written; makes = λ m h. tt; asked = λ m h. asked_none means spent m r h }

  pub takes_keep : (number : ℕ) (id : List ℕ) (retries : ℕ) (s : StoreData) (r : R) (phase : Phase) → phase_view phase ≡ Ended (none_reply id)
      → Takes means spent (over (client_data number id retries Keep) s r) (over (client_data number id retries (phase_view phase)) s r)
  takes_keep number id retries s r phase is = record {
    made = Nothing;
    is = ap (λ (q : PhaseData). stepped (client_data number id retries q) s) is;
    makes = λ m h. tt;
    asked = λ m h. asked_none means spent m r h;
  }

  pub takes_none : (number : ℕ) (id : List ℕ) (retries : ℕ) (s : StoreData) (r : R) (reply : Data)
      → Takes means spent (over (client_data number id retries (Ended reply)) s r) (over (client_data number id retries (Ended reply)) s r)
  takes_none number id retries s r reply = record { made = Nothing; is = refl; makes = λ m h. tt; asked = λ m h. asked_none means spent m r h }

  -- ---- all of them

  updated_so : (m : Meaning) (order : List ℕ) (clients tasks : List ClientData) (s : StoreData) (w : World) (made : List Call) → tasks ≡ clients
      → IsUpdated m.ran order (world tasks s) w made → IsUpdated m.ran order (world clients s) w made
  updated_so m order clients tasks s w made same updated = subst (λ (l : List ClientData). IsUpdated m.ran order (world l s) w made) same updated

  pub has_updated : (m : Meaning) (order : List ℕ) (clients tasks tasks' : List ClientData) (s s' : StoreData) (r r' : R) (replies : List Data) → means r m
      → tasks ≡ clients → AllStep left_of (Takes means spent) order (over tasks s r) (over tasks' s' r') → replies ≡ replies_of tasks'
      → HasUpdated means spent m order clients s r replies s' r'
  has_updated m order clients tasks tasks' s s' r r' replies h same all told =
      let all_updates : Updates means spent m order (over tasks s r) (over tasks' s' r') = updates means spent m order (over tasks s r) (over tasks' s' r') h all in
      record {
        last = world tasks' s';
        made = all_updates.made;
        updated = updated_so m order clients tasks s (world tasks' s') all_updates.made same all_updates.updated;
        left = refl;
        told = told;
        asked = all_updates.asked;
      }

  pub is_serial : (m : Meaning) (order : List ℕ) (clients : List Client) (tasks tasks' : List ClientData) (s s' : StoreData) (r r' : R) → means r m
      → tasks ≡ numbered 0 clients → AllStep left_of (Takes means spent) order (over tasks s r) (over tasks' s' r')
      → IsSerial m.ran (map (λ (c : Client). string_bytes c.id) clients) s s'
  is_serial m order clients tasks tasks' s s' r r' h same all =
      let all_updates : Updates means spent m order (over tasks s r) (over tasks' s' r') = updates means spent m order (over tasks s r) (over tasks' s' r') h all in
      let numbers = order ++ rounds all_updates.updated.count (length tasks) in
      let fresh : AreFresh 0 tasks = subst (λ (l : List ClientData). AreFresh 0 l) (sym same) (fresh_numbered 0 clients) in
      let serial : IsSerial m.ran (client_ids tasks) s (turns m.ran numbers (world tasks s)).store = all_serial m.ran numbers (world tasks s) fresh in
      subst (λ (ids : List (List ℕ)). IsSerial m.ran ids s s') (ap client_ids same ∙ ids_numbered 0 clients)
      (subst (λ (t : StoreData). IsSerial m.ran (client_ids tasks) s t) (sym (ap (λ (w : World). w.store) all_updates.updated.is)) serial)

-- ---- a commit

pub commits_so : (number : ℕ) (id : List ℕ) (version : ℕ) (change : ChangeData) (retries : ℕ) (s s' : StoreData) (next : ℕ) (op : List ℕ) (reply : Data)
    → IsCommitted number id version change s s' next → op ≡ op_of change → reply ≡ change_reply op id next
    → stepped (client_data number id retries (Ended reply)) s' ≡ written version change (client_data number id retries (Write version change)) s
commits_so number id version change retries s s' next op reply committed_so named told =
    let c = client_data number id retries (Write version change) in
    let test = version_at id s.documents == version in
    let yes : Stepped = stepped (in_phase (Ended (change_reply (op_of change) id (version + 1))) c) (committed number id version change s) in
    let no : Stepped = stepped (again retries c version (version_at id s.documents)) s in
    ap (λ (d : Data). stepped (client_data number id retries (Ended d)) s')
    (told ∙ ap (λ (o : List ℕ). change_reply o id next) named ∙ ap (λ (n : ℕ). change_reply (op_of change) id n) committed_so.next)
    ∙ ap (λ (t : StoreData). stepped (client_data number id retries (Ended (change_reply (op_of change) id (version + 1)))) t) committed_so.is
    ∙ sym (chosen test yes no (eq-eqb (version_at id s.documents) version committed_so.same))

pub conflicts_so : (number : ℕ) (id : List ℕ) (version : ℕ) (change : ChangeData) (retries left : ℕ) (s s' : StoreData) (read found : ℕ) (phase : Phase)
    → CommitsNot version (version_at id s.documents) s s' (e.Conflict read found)
    → ((c : ClientData) → client_data c.number c.id left (phase_view phase) ≡ again retries c read found)
    → IsWritten number id version change retries left s s' phase
conflicts_so number id version change retries left s s' read found phase not begins =
    let c = client_data number id retries (Write version change) in
    let test = version_at id s.documents == version in
    let yes : Stepped = stepped (in_phase (Ended (change_reply (op_of change) id (version + 1))) c) (committed number id version change s) in
    let no : Stepped = stepped (again retries c version (version_at id s.documents)) s in
    let differ : test ≡ false = elim (eqb_tells (version_at id s.documents) version) [ inl h ↦ absurd (not.1.2 h.1) | inr h ↦ h.0 ] in
    ap (λ (t : StoreData). stepped (client_data number id left (phase_view phase)) t) not.0
    ∙ ap (λ (q : ClientData). stepped q s) (begins c ∙ ap (λ (n : ℕ). again retries c n found) not.1.0 ∙ ap (again retries c version) not.1.1)
    ∙ sym (passed test yes no differ)

pub again_none : (retries : ℕ) (c : ClientData) (read found : ℕ) (reply : Data) → retries ≡ 0 → reply ≡ conflict_reply read found
    → client_data c.number c.id retries (Ended reply) ≡ again retries c read found
again_none zero c read found reply none told = ap (λ (d : Data). client_data c.number c.id zero (Ended d)) told
again_none (suc left) c read found reply none told = absurd (omega (arith, none))

pub again_some : (retries : ℕ) (c : ClientData) (read found : ℕ) → retries ≢ 0 → client_data c.number c.id (retries - 1) Read ≡ again retries c read found
again_some zero c read found some = absurd (some refl)
again_some (suc left) c read found some = let less : suc left - 1 ≡ left = omega arith in ap (λ (k : ℕ). client_data c.number c.id k Read) less

-- ---- loops

pub nothing_left : {X : Type 0} (l : List X) → length l ≡ 0 → l ≡ []
nothing_left [] h = refl
nothing_left (x ∷ xs) h = absurd (omega (arith, h))

-- one client more is numbered
pub numbers_more : (tasks new : List ClientData) (number : ℕ) (c : Client) (rest all : List Client)
    → tasks ++ numbered number (c ∷ rest) ≡ numbered 0 all → new ≡ tasks ++ client_data number (string_bytes c.id) c.retries Read ∷ []
    → new ++ numbered (number + 1) rest ≡ numbered 0 all
numbers_more tasks new number c rest all so pushed =
    ap (λ (l : List ClientData). l ++ numbered (number + 1) rest) pushed
    ∙ append_assoc tasks (client_data number (string_bytes c.id) c.retries Read ∷ []) (numbered (number + 1) rest)
    ∙ so

-- one reply more is told
pub replies_more : (replies new : List Data) (task : ClientData) (rest all : List ClientData)
    → replies ++ replies_of (task ∷ rest) ≡ replies_of all → new ≡ replies ++ reply_in task.phase ∷ []
    → new ++ replies_of rest ≡ replies_of all
replies_more replies new task rest all so pushed =
    ap (λ (l : List Data). l ++ replies_of rest) pushed ∙ append_assoc replies (reply_in task.phase ∷ []) (replies_of rest) ∙ so
