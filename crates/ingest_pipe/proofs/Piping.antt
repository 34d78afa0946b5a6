-- A processor and what follows it.
use Rattle.std.proofs.Common.{◌≡◌, ℕ, List, [], ◌∷◌, ◌++◌, refl, sym, ap, ◌∙◌, subst}
use Rattle.serde_json.specs.Data.{Data}
use Rattle.pipe_fields.specs.declared.document.IngestDoc.{IngestDoc}
use Rattle.pipe_fields.specs.Documents.{DocData, doc_view}
use Rattle.pipe_fields.specs.Edits.{Edited}
use Rattle.ingest_pipe.specs.declared.processors.Action.{Action}
use Rattle.ingest_pipe.specs.declared.processors.Guard.{Guard}
use Rattle.ingest_pipe.specs.declared.processors.Follows.{Follows}
use Rattle.ingest_pipe.specs.declared.processors.Follows.TheVariants as f
use Rattle.ingest_pipe.specs.declared.processors.Processors.{Processors}
use Rattle.ingest_pipe.specs.declared.processors.Processors.TheVariants.{Then, rolls-Then}
use Rattle.ingest_pipe.specs.declared.processors.Processors.TheOpen.{Processors-F}
use Rattle.ingest_pipe.specs.declared.processors.Processors.TheFolds.{fold-roll-Processors}
use Rattle.ingest_pipe.specs.declared.running.Outcome.{Outcome}
use Rattle.ingest_pipe.specs.declared.running.Outcome.TheVariants as o
use Rattle.ingest_pipe.specs.Running.{Judged, Meaning, Made, Fails, Call, Ran, behind, tried, recovered, failed_on, followed, through, piped, counted, paid}
use Rattle.ingest_pipe.specs.Answers.{Asked, IsRan, IsOutcome}

-- a processor before the rest of its list
pub piped_then : (tested : ℕ → DocData → Judged) (changed : ℕ → DocData → Edited) (guard : Guard) (action : Action) (on_failure rest : Processors) (doc : DocData)
    → piped tested changed (Then guard action on_failure rest) doc
    ≡ through tested changed (Processors-F.Then guard action (piped tested changed on_failure) (piped tested changed rest)) doc
piped_then tested changed guard action on_failure rest doc =
    ap (λ (p : Processors). piped tested changed p doc) (sym (rolls-Then guard action on_failure rest))
    ∙ ap (λ (f : DocData → Ran). f doc) (fold-roll-Processors (DocData → Ran) (through tested changed) (Processors-F.Then guard action on_failure rest))

module _ {R : Type 0} (meant : R → Meaning → Type 0) (spent : R → ℕ) (m : Meaning) where
  pub paid_append : (price : ℕ → DocData → ℕ) (xs ys : List Call) (before : ℕ) → paid price (xs ++ ys) before ≡ paid price ys (paid price xs before)
  paid_append price [] ys before = refl
  paid_append price (x ∷ xs) ys before = paid_append price xs ys (counted before (price x.script x.doc))

  pub asked_on : (xs ys : List Call) (r rm r' : R) → Asked meant spent m xs r rm → Asked meant spent m ys rm r' → Asked meant spent m (xs ++ ys) r r'
  asked_on xs ys r rm r' first second = record {
    stays = second.stays;
    pays = second.pays ∙ ap (paid m.cost ys) first.pays ∙ sym (paid_append m.cost xs ys (spent r));
  }

  pub asked_none : (r : R) → meant r m → Asked meant spent m [] r r
  asked_none r has = record { stays = has; pays = refl }

  -- an end behind some calls
  pub end_on : (xs : List Call) (ran : Ran) (r rm r' : R) (left : IngestDoc) (result : Outcome) → Asked meant spent m xs r rm → IsOutcome meant spent m ran rm r' left result → IsOutcome meant spent m (behind xs ran) r r' left result
  end_on xs ran r rm r' left o.Passed asked ends = record { is = ends.is; asked = asked_on xs ran.calls r rm r' asked ends.asked }
  end_on xs ran r rm r' left o.Dropped asked ends = record { is = ends.is; asked = asked_on xs ran.calls r rm r' asked ends.asked }
  end_on xs ran r rm r' left (o.Failed error) asked ends = record { is = ends.is; asked = asked_on xs ran.calls r rm r' asked ends.asked }
  end_on xs ran r rm r' left o.NoMemory asked ends = tt

  -- the processors that are meant
  pub as_before : (at processors : Processors) (doc : DocData) (rm r' : R) (left : IngestDoc) (result : Outcome) → at ≡ processors
      → IsOutcome meant spent m (piped m.tested m.changed at doc) rm r' left result → IsOutcome meant spent m (piped m.tested m.changed processors doc) rm r' left result
  as_before at processors doc rm r' left result is ends = subst (λ (q : Processors). IsOutcome meant spent m (piped m.tested m.changed q doc) rm r' left result) is ends

  -- a list that follows a failure which was passed over
  pub passes_over : (on_failure rest : Processors) (before here : IngestDoc) (rm r' : R) (left : IngestDoc) (result : Outcome) (error : Data) (follows : Follows) → follows ≡ f.Ignored → here ≡ before
      → IsOutcome meant spent m (piped m.tested m.changed rest (doc_view here)) rm r' left result
      → IsOutcome meant spent m (followed (Fails error) follows (doc_view before) (piped m.tested m.changed on_failure) (piped m.tested m.changed rest)) rm r' left result
  passes_over on_failure rest before here rm r' left result error follows is same ends =
      subst (λ (w : Follows). IsOutcome meant spent m (failed_on w error (doc_view before) (piped m.tested m.changed on_failure) (piped m.tested m.changed rest)) rm r' left result) (sym is)
      (subst (λ (d : IngestDoc). IsOutcome meant spent m (piped m.tested m.changed rest (doc_view d)) rm r' left result) same ends)

  -- what one processor came to decides what follows
  pub follows_so : (processors : Processors) (guard : Guard) (action : Action) (on_failure rest : Processors) (doc : DocData) (r rm r' : R) (left : IngestDoc) (result : Outcome) (made : Made)
      → processors ≡ Then guard action on_failure rest
      → IsRan meant spent m (tried guard.test m.tested m.changed action doc) r rm made
      → IsOutcome meant spent m (followed made guard.follows doc (piped m.tested m.changed on_failure) (piped m.tested m.changed rest)) rm r' left result
      → IsOutcome meant spent m (piped m.tested m.changed processors doc) r r' left result
  follows_so processors guard action on_failure rest doc r rm r' left result made is ran ends =
      let first : Ran = tried guard.test m.tested m.changed action doc in
      subst (λ (p : Processors). IsOutcome meant spent m (piped m.tested m.changed p doc) r r' left result) (sym is)
      (subst (λ (n : Ran). IsOutcome meant spent m n r r' left result) (sym (piped_then m.tested m.changed guard action on_failure rest doc))
      (end_on first.calls (followed first.made guard.follows doc (piped m.tested m.changed on_failure) (piped m.tested m.changed rest)) r rm r' left result ran.asked
      (subst (λ (k : Made). IsOutcome meant spent m (followed k guard.follows doc (piped m.tested m.changed on_failure) (piped m.tested m.changed rest)) rm r' left result) (sym ran.is) ends)))

  -- .. and so does what the list for its failure came to
  pub recovers_so : (at on_failure rest : Processors) (before here : IngestDoc) (rm rn r' : R) (left : IngestDoc) (result : Outcome) (made : Made) (error : Data) (follows : Follows)
      → at ≡ on_failure → follows ≡ f.Recovers → here ≡ before
      → IsRan meant spent m (piped m.tested m.changed at (doc_view here)) rm rn made
      → IsOutcome meant spent m (recovered made (piped m.tested m.changed rest)) rn r' left result
      → IsOutcome meant spent m (followed (Fails error) follows (doc_view before) (piped m.tested m.changed on_failure) (piped m.tested m.changed rest)) rm r' left result
  recovers_so at on_failure rest before here rm rn r' left result made error follows at_is is same ran ends =
      subst (λ (w : Follows). IsOutcome meant spent m (failed_on w error (doc_view before) (piped m.tested m.changed on_failure) (piped m.tested m.changed rest)) rm r' left result) (sym is)
      (let on : Ran = piped m.tested m.changed on_failure (doc_view before) in
      let as_it_was : piped m.tested m.changed at (doc_view here) ≡ on =
      ap (λ (q : Processors). piped m.tested m.changed q (doc_view here)) at_is ∙ ap (λ (d : IngestDoc). piped m.tested m.changed on_failure (doc_view d)) same in
      let here : IsRan meant spent m on rm rn made = subst (λ (n : Ran). IsRan meant spent m n rm rn made) as_it_was ran in
      end_on on.calls (recovered on.made (piped m.tested m.changed rest)) rm rn r' left result here.asked
      (subst (λ (k : Made). IsOutcome meant spent m (recovered k (piped m.tested m.changed rest)) rn r' left result) (sym here.is) ends))
