-- What turns of tasks come to: steps of clients.
use Rattle.std.proofs.Common.{◌≡◌, ℕ, zero, suc, ◌+◌, ◌*◌, ◌<◌, true, false, List, [], ◌∷◌, ◌++◌, length, Option, Some, None, inl, inr, refl, sym, ap, ◌∙◌, subst, arith}
use Rattle.std.specs.Prelude.{◌==◌}
use Rattle.std.proofs.lemmas.Bool.Decides.{eqb_tells}
use Rattle.task_core.specs.Order.{rounds}
use Rattle.task_core.specs.Steps.{State, IsStep, left_at, HasTurn, HaveTurns, AllStep}
use Rattle.update_store.specs.Documents.{DocData, version_at}
use Rattle.update_store.specs.Committing.{StoreData, read, committed}
use Rattle.update_store.specs.Replies.{change_reply}
use Rattle.update_store.specs.Updates.{Made, Writes, Nothing, Fails, PhaseData, Read, Run, Write, Keep, Ended, ClientData, Stepped, stepped, in_phase, begun, run_made, op_of, again, step_in, step, world, put_before, turn, turns, Call, calls_in, calls_at, calls, left_in, left_of, has_ended, IsUpdated}
use Rattle.update_store.specs.Running.{Meaning, MakesIn, always, counted, paid, Asked, Takes}
use Rattle.update_store.proofs.DocumentLemmas.{chosen, passed}

-- ---- what is left

not_zero : (n : ℕ) → 0 < n → (n == 0) ≡ false
not_zero n some = elim (eqb_tells n 0) [ inl h ↦ absurd (omega (arith, h.1, some)) | inr h ↦ h.0 ]

-- a client has ended where no step is left
pub ended_tells : (phase : PhaseData) (retries : ℕ) → has_ended phase ≡ (left_in phase retries == 0)
ended_tells Read retries = sym (not_zero (3 + 3 * retries) (omega arith))
ended_tells (Run doc) retries = sym (not_zero (2 + 3 * retries) (omega arith))
ended_tells (Write version change) retries = sym (not_zero (1 + 3 * retries) (omega arith))
ended_tells Keep retries = refl
ended_tells (Ended reply) retries = refl

pub ended_none : (phase : PhaseData) (retries : ℕ) → has_ended phase ≡ true → left_in phase retries ≡ 0
ended_none Read retries e = cc
ended_none (Run doc) retries e = cc
ended_none (Write version change) retries e = cc
ended_none Keep retries e = cc
ended_none (Ended reply) retries e = refl

pub going_some : (phase : PhaseData) (retries : ℕ) → has_ended phase ≡ false → 0 < left_in phase retries
going_some Read retries e = omega arith
going_some (Run doc) retries e = omega arith
going_some (Write version change) retries e = omega arith
going_some Keep retries e = omega arith
going_some (Ended reply) retries e = absurd (cc)

begun_lower : (o : Option DocData) (retries : ℕ) → left_in (begun o) retries < 3 + 3 * retries
begun_lower None retries = omega arith
begun_lower (Some doc) retries = omega arith

run_lower : (doc : DocData) (made : Made) (retries : ℕ) → left_in (run_made doc made) retries < 2 + 3 * retries
run_lower doc (Writes change) retries = omega arith
run_lower doc Nothing retries = omega arith
run_lower doc (Fails error) retries = omega arith

again_lower : (retries : ℕ) (c : ClientData) (was found : ℕ) → left_of (again retries c was found) < 1 + 3 * retries
again_lower zero c was found = omega arith
again_lower (suc left) c was found = omega arith

step_lower : (phase : PhaseData) (ran : ℕ → DocData → Made) (c : ClientData) (s : StoreData) → 0 < left_in phase c.retries
    → left_of (step_in phase ran c s).client < left_in phase c.retries
step_lower Read ran c s some = begun_lower (read c.id s) c.retries
step_lower (Run doc) ran c s some = run_lower doc (ran c.number doc) c.retries
step_lower (Write version change) ran c s some =
    let test = version_at c.id s.documents == version in
    let yes : Stepped = stepped (in_phase (Ended (change_reply (op_of change) c.id (version + 1))) c) (committed c.number c.id version change s) in
    let no : Stepped = stepped (again c.retries c version (version_at c.id s.documents)) s in
    elim (eqb_tells (version_at c.id s.documents) version) [
      | inl h ↦ subst (λ (t : Stepped). left_of t.client < 1 + 3 * c.retries) (sym (chosen test yes no h.0)) (omega arith)
      | inr h ↦ subst (λ (t : Stepped). left_of t.client < 1 + 3 * c.retries) (sym (passed test yes no h.0)) (again_lower c.retries c version (version_at c.id s.documents))
    ]
step_lower Keep ran c s some = omega arith
step_lower (Ended reply) ran c s some = absurd (omega (arith, some))

idle_step : (phase : PhaseData) (ran : ℕ → DocData → Made) (c : ClientData) (s : StoreData) (retries : ℕ) → left_in phase retries ≡ 0
    → (step_in phase ran c s ≡ stepped c s) × (calls_in phase c.number ≡ [])
idle_step Read ran c s retries none = absurd (omega (arith, none))
idle_step (Run doc) ran c s retries none = absurd (omega (arith, none))
idle_step (Write version change) ran c s retries none = absurd (omega (arith, none))
idle_step Keep ran c s retries none = absurd (omega (arith, none))
idle_step (Ended reply) ran c s retries none = (refl, refl)

idle_turn : (ran : ℕ → DocData → Made) (place : ℕ) (cs : List ClientData) (s : StoreData) → left_at left_of place cs ≡ 0
    → (turn ran place cs s ≡ world cs s) × (calls_at place cs ≡ [])
idle_turn ran place [] s none = (refl, refl)
idle_turn ran zero (c ∷ cs) s none =
    let idle = idle_step c.phase ran c s c.retries none in
    (ap (λ (t : Stepped). world (t.client ∷ cs) t.store) idle.0, idle.1)
idle_turn ran (suc place) (c ∷ cs) s none =
    let idle = idle_turn ran place cs s none in
    (ap (put_before c) idle.0, idle.1)

turn_at : (ran : ℕ → DocData → Made) (front : List ClientData) (c : ClientData) (behind : List ClientData) (s : StoreData)
    → turn ran (length front) (front ++ c ∷ behind) s ≡ world (front ++ (step ran c s).client ∷ behind) (step ran c s).store
turn_at ran [] c behind s = refl
turn_at ran (f ∷ front) c behind s = ap (put_before f) (turn_at ran front c behind s)

calls_here : (front : List ClientData) (c : ClientData) (behind : List ClientData) → calls_at (length front) (front ++ c ∷ behind) ≡ calls_in c.phase c.number
calls_here [] c behind = refl
calls_here (f ∷ front) c behind = calls_here front c behind

paid_append : (cost : ℕ → DocData → ℕ) (xs ys : List Call) (spent : ℕ) → paid cost (xs ++ ys) spent ≡ paid cost ys (paid cost xs spent)
paid_append cost [] ys spent = refl
paid_append cost (x ∷ xs) ys spent = paid_append cost xs ys (counted spent (cost x.client x.doc))

-- ---- with a runner

-- what is made of the document of a client decides its step
same_step : (phase : PhaseData) (ran : ℕ → DocData → Made) (made : Made) (c : ClientData) (s : StoreData) → MakesIn phase ran c.number made → step_in phase (always made) c s ≡ step_in phase ran c s
same_step Read ran made c s is = refl
same_step (Run doc) ran made c s is = ap (λ (x : Made). stepped (in_phase (run_made doc x) c) s) (sym is)
same_step (Write version change) ran made c s is = refl
same_step Keep ran made c s is = refl
same_step (Ended reply) ran made c s is = refl

module _ {R : Type 0} (means : R → Meaning → Type 0) (spent : R → ℕ) where
  pub took : (old new : State ClientData StoreData R) → 0 < left_of old.tasks → Takes means spent old new → IsStep left_of (Takes means spent) old new
  took old new some takes = record {
    taken = takes;
    lower =
        subst (λ (n : ℕ). n < left_of old.tasks) (sym (ap (λ (t : Stepped). left_of t.client) takes.is))
        (step_lower old.tasks.phase (always takes.made) old.tasks old.shared some);
  }

  pub asked_none : (m : Meaning) (r : R) → means r m → Asked means spent m [] r r
  asked_none m r h = record { still = h; pays = refl }

  module _ (m : Meaning) where
    asked_on : (xs ys : List Call) (r mid r' : R) → Asked means spent m xs r mid → Asked means spent m ys mid r' → Asked means spent m (xs ++ ys) r r'
    asked_on xs ys r mid r' first second = record {
      still = second.still;
      pays = second.pays ∙ ap (paid m.cost ys) first.pays ∙ sym (paid_append m.cost xs ys (spent r));
    }

    record IsTurn (place : ℕ) (old new : State (List ClientData) StoreData R) : Type 0 where
      pub is : world new.tasks new.shared ≡ turn m.ran place old.tasks old.shared
      pub asked : Asked means spent m (calls_at place old.tasks) old.runner new.runner

    is_turn : (place : ℕ) (old new : State (List ClientData) StoreData R) → means old.runner m → HasTurn left_of (Takes means spent) place old new → IsTurn place old new
    is_turn place old new h (inl (none, same)) =
        let idle = idle_turn m.ran place old.tasks old.shared none in
        record {
          is = ap (λ (t : State (List ClientData) StoreData R). world t.tasks t.shared) same ∙ sym idle.0;
          asked =
              subst (λ (l : List Call). Asked means spent m l old.runner new.runner) (sym idle.1)
              (subst (λ (t : State (List ClientData) StoreData R). Asked means spent m [] old.runner t.runner) (sym same) (asked_none m old.runner h));
        }
    is_turn place old new h (inr steps) =
        let one = steps.taken.taken in
        let taken = one.is ∙ same_step steps.before.phase m.ran one.made steps.before old.shared (one.makes m h) in
        record {
          is =
              ap (λ (l : List ClientData). world l new.shared) steps.left
              ∙ ap (λ (t : Stepped). world (steps.front ++ t.client ∷ steps.behind) t.store) taken
              ∙ sym (turn_at m.ran steps.front steps.before steps.behind old.shared)
              ∙ ap (λ (l : List ClientData). turn m.ran (length steps.front) l old.shared) (sym steps.found)
              ∙ ap (λ (n : ℕ). turn m.ran n old.tasks old.shared) steps.stands;
          asked =
              subst (λ (l : List Call). Asked means spent m l old.runner new.runner)
              (sym (calls_here steps.front steps.before steps.behind) ∙ ap (λ (l : List ClientData). calls_at (length steps.front) l) (sym steps.found)
              ∙ ap (λ (n : ℕ). calls_at n old.tasks) steps.stands)
              (one.asked m h);
        }

    record AreTurns (places : List ℕ) (old new : State (List ClientData) StoreData R) : Type 0 where
      pub is : world new.tasks new.shared ≡ turns m.ran places (world old.tasks old.shared)
      pub asked : Asked means spent m (calls m.ran places (world old.tasks old.shared)) old.runner new.runner

    are_turns : (places : List ℕ) (old new : State (List ClientData) StoreData R) → means old.runner m → HaveTurns left_of (Takes means spent) places old new → AreTurns places old new
    are_turns [] old new h same = record {
      is = ap (λ (t : State (List ClientData) StoreData R). world t.tasks t.shared) same;
      asked = subst (λ (t : State (List ClientData) StoreData R). Asked means spent m [] old.runner t.runner) (sym same) (asked_none m old.runner h);
    }
    are_turns (place ∷ places) old new h (mid, one, more) =
        let first : IsTurn place old mid = is_turn place old mid h one in
        let rest : AreTurns places mid new = are_turns places mid new first.asked.still more in
        record {
          is = rest.is ∙ ap (turns m.ran places) first.is;
          asked =
              asked_on (calls_at place old.tasks) (calls m.ran places (turn m.ran place old.tasks old.shared)) old.runner mid.runner new.runner first.asked
              (subst (λ (l : List Call). Asked means spent m l mid.runner new.runner) (ap (calls m.ran places) first.is) rest.asked);
        }

    -- what the turns of all clients come to
    pub record Updates (order : List ℕ) (old new : State (List ClientData) StoreData R) : Type 0 where
      pub made : List Call
      pub updated : IsUpdated m.ran order (world old.tasks old.shared) (world new.tasks new.shared) made
      pub asked : Asked means spent m made old.runner new.runner

    pub updates : (order : List ℕ) (old new : State (List ClientData) StoreData R) → means old.runner m → AllStep left_of (Takes means spent) order old new → Updates order old new
    updates order old new h all =
        let places = order ++ rounds all.count (length old.tasks) in
        let turned : AreTurns places old new = are_turns places old new h all.turns in
        record {
          made = calls m.ran places (world old.tasks old.shared);
          updated = record { count = all.count; is = turned.is; called = refl; ended = all.done };
          asked = turned.asked;
        }
