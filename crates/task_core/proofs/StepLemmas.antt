-- Steps one behind the other, and that rounds of them end.
use Rattle.std.proofs.Common.{◌≡◌, ℕ, zero, suc, ◌+◌, ◌<◌, ◌≤◌, Bool, true, false, List, [], ◌∷◌, ◌++◌, length, map, take, drop, set, get_or, ◌⊎◌, inl, inr, length-append, refl, sym, ap, ◌∙◌, subst, arith, append_assoc, append-nil}
use Rattle.std.specs.Prelude.{◌==◌}
use Rattle.std.proofs.lemmas.List.{take_more, set_split, drop_more, take-append-drop, set-get_or, length-take, length-map, get_or_at}
use Rattle.std.proofs.lemmas.Bool.{eqb-true}
use Rattle.task_core.specs.declared.task.Turn.{Turn}
use Rattle.task_core.specs.declared.task.Turn.TheVariants.{More, Done}
use Rattle.task_core.specs.Order.{total, tasks_from, rounds, all_done}
use Rattle.task_core.specs.Steps.{State, over, IsStep, Steps, left_at, StepsAt, HasTurn, HaveTurns, AllStep}
use Rattle.task_core.proofs.RanLemmas.{one_more, zero_add, from_push, rounds_add, plus_none, none_all, contradicts, rest_at}

-- ---- what is left of tasks

pub regroup : (a b c : ℕ) → a + (b + c) ≡ a + b + c
regroup a b c = omega arith

pub total_at : {T : Type 0} (rest : T → ℕ) (front : List T) (t : T) (behind : List T)
    → total (map rest (front ++ t ∷ behind)) ≡ total (map rest front) + (rest t + total (map rest behind))
total_at rest [] t behind = sym (zero_add (rest t + total (map rest behind)))
total_at rest (x ∷ front) t behind =
    ap (λ n. rest x + n) (total_at rest front t behind) ∙ regroup (rest x) (total (map rest front)) (rest t + total (map rest behind))

pub less_between : (a b c d x y : ℕ) → x ≡ a + (b + d) → y ≡ a + (c + d) → b < c → x < y
less_between a b c d x y first second less = omega (arith, first, second, less)

pub less_trans : (a b c : ℕ) → a < b → b < c → a < c
less_trans a b c first second = omega (arith, first, second)

-- nothing is left at these places
abbrev pub NoneAt : List ℕ → List ℕ → Type 0
NoneAt [] rests = Unit {0}
NoneAt (place ∷ places) rests = (get_or rests place 0 ≡ 0) × NoneAt places rests

pub none_from : (front rests : List ℕ) → NoneAt (tasks_from (length front) (length rests)) (front ++ rests) → total rests ≡ 0
none_from front [] none = refl
none_from front (r ∷ rests) (here, more) =
    plus_none r (total rests) (sym (get_or_at front r rests 0 (length front) refl) ∙ here)
    (none_from (front ++ r ∷ []) rests
    (subst (λ (l : List ℕ). NoneAt (tasks_from (length (front ++ r ∷ [])) (length rests)) l) (sym (append_assoc front (r ∷ []) rests))
    (subst (λ (n : ℕ). NoneAt (tasks_from n (length rests)) (front ++ r ∷ rests)) (sym (length-append front (r ∷ []))) more)))

pub left_past : {T : Type 0} (rest : T → ℕ) (place : ℕ) (tasks : List T) → length tasks ≤ place → left_at rest place tasks ≡ 0
left_past rest place [] past = refl
left_past rest zero (t ∷ tasks) past = absurd (omega (arith, past))
left_past rest (suc place) (t ∷ tasks) past = left_past rest place tasks (omega (arith, past))

-- ---- turns

module _ {T S R : Type 0} (rest : T → ℕ) (step : State T S R → State T S R → Type 0) where
  pub turns_on : (xs ys : List ℕ) (old mid new : State (List T) S R) → HaveTurns rest step xs old mid → HaveTurns rest step ys mid new → HaveTurns rest step (xs ++ ys) old new
  turns_on [] ys old mid new first second = subst (λ (s : State (List T) S R). HaveTurns rest step ys s new) first second
  turns_on (x ∷ xs) ys old mid new (next, one, more) second = (next, one, turns_on xs ys next mid new more second)

  pub one_turn : (place : ℕ) (old new : State (List T) S R) → HasTurn rest step place old new → HaveTurns rest step (place ∷ []) old new
  one_turn place old new turn = (new, turn, refl)

  pub step_lowers : (place : ℕ) (old new : State (List T) S R) → StepsAt rest step place old new → total (map rest new.tasks) < total (map rest old.tasks)
  step_lowers place old new steps =
      less_between (total (map rest steps.front)) (rest steps.after) (rest steps.before) (total (map rest steps.behind)) (total (map rest new.tasks)) (total (map rest old.tasks))
      (ap (λ (l : List T). total (map rest l)) steps.left ∙ total_at rest steps.front steps.after steps.behind)
      (ap (λ (l : List T). total (map rest l)) steps.found ∙ total_at rest steps.front steps.before steps.behind)
      steps.taken.lower

  -- these turns lower what is left, or nothing was left at their places
  abbrev pub Passes : List ℕ → State (List T) S R → State (List T) S R → Type 0
  Passes places old new = (total (map rest new.tasks) < total (map rest old.tasks)) ⊎ ((new ≡ old) × NoneAt places (map rest old.tasks))

  pub passes_on : (place : ℕ) (places : List ℕ) (old mid new : State (List T) S R) → HasTurn rest step place old mid → Passes places mid new → Passes (place ∷ places) old new
  passes_on place places old mid new (inr steps) (inl less) =
      inl (less_trans (total (map rest new.tasks)) (total (map rest mid.tasks)) (total (map rest old.tasks)) less (step_lowers place old mid steps))
  passes_on place places old mid new (inr steps) (inr (same, none)) =
      inl (subst (λ (s : State (List T) S R). total (map rest s.tasks) < total (map rest old.tasks)) (sym same) (step_lowers place old mid steps))
  passes_on place places old mid new (inl (none, same)) (inl less) =
      inl (subst (λ (s : State (List T) S R). total (map rest new.tasks) < total (map rest s.tasks)) same less)
  passes_on place places old mid new (inl (none, same)) (inr (again, more)) =
      inr (again ∙ same, (none, subst (λ (s : State (List T) S R). NoneAt places (map rest s.tasks)) same more))

  pub turns_pass : (places : List ℕ) (old new : State (List T) S R) → HaveTurns rest step places old new → Passes places old new
  turns_pass [] old new same = inr (same, tt)
  turns_pass (place ∷ places) old new (mid, one, more) = passes_on place places old mid new one (turns_pass places mid new more)

  -- a round in which some task is not done takes steps
  pub round_lowers : (old new : State (List T) S R) → all_done rest old.tasks ≡ false → HaveTurns rest step (tasks_from 0 (length old.tasks)) old new → total (map rest new.tasks) < total (map rest old.tasks)
  round_lowers old new not turns = elim (turns_pass (tasks_from 0 (length old.tasks)) old new turns) [
    | inl less ↦ less
    | inr same ↦ absurd (contradicts (all_done rest old.tasks) not (none_all rest old.tasks (none_from [] (map rest old.tasks)
        (subst (λ (n : ℕ). NoneAt (tasks_from 0 n) (map rest old.tasks)) (sym (length-map old.tasks rest)) same.1))))
  ]

  -- ---- rounds

  pub record Rounds (order : List ℕ) (old now : State (List T) S R) : Type 0 where
    pub count : ℕ
    pub turns : HaveTurns rest step (order ++ rounds count (length old.tasks)) old now

  pub rounds_begin : (order : List ℕ) (old now : State (List T) S R) → HaveTurns rest step order old now → Rounds order old now
  rounds_begin order old now turns = record { count = 0; turns = subst (λ (l : List ℕ). HaveTurns rest step l old now) (sym (append-nil order)) turns }

  pub rounds_on : (order : List ℕ) (old mid now : State (List T) S R) → length mid.tasks ≡ length old.tasks
      → Rounds order old mid → HaveTurns rest step (tasks_from 0 (length mid.tasks)) mid now → Rounds order old now
  rounds_on order old mid now long run round =
      let n = length old.tasks in record {
        count = run.count + 1;
        turns =
            subst (λ (l : List ℕ). HaveTurns rest step l old now)
            (append_assoc order (rounds run.count n) (tasks_from 0 (length mid.tasks))
            ∙ ap (λ (l : List ℕ). order ++ l)
            (ap (λ (m : ℕ). rounds run.count n ++ tasks_from 0 m) long
            ∙ ap (λ (l : List ℕ). rounds run.count n ++ l) (sym (append-nil (tasks_from 0 n)))
            ∙ sym (rounds_add run.count 1 n)))
            (turns_on (order ++ rounds run.count n) (tasks_from 0 (length mid.tasks)) old mid now run.turns round);
      }

  pub rounds_end : (order : List ℕ) (old now : State (List T) S R) → all_done rest now.tasks ≡ true → Rounds order old now → AllStep rest step order old now
  rounds_end order old now done run = record { count = run.count; turns = run.turns; done = done }

  -- ---- what the code's steps say

  pub is_step : (old new : State T S R) (answer : Turn) → (answer ≡ More) ⊎ (answer ≡ Done) → Steps rest step old new answer → IsStep rest step old new
  is_step old new answer (inl more) steps = (subst (λ (a : Turn). Steps rest step old new a) more steps).0
  is_step old new answer (inr done) steps = (subst (λ (a : Turn). Steps rest step old new a) done steps).0

  pub gives_step : (place : ℕ) (tasks : List T) (at after : T) (s : S) (r : R) (s' : S) (r' : R) (answer : Turn)
      → place < length tasks → at ≡ get_or tasks place at → (answer ≡ More) ⊎ (answer ≡ Done)
      → Steps rest step (over (get_or tasks place at) s r) (over after s' r') answer
      → HaveTurns rest step (place ∷ []) (over tasks s r) (over (set tasks place after) s' r')
  gives_step place tasks at after s r s' r' answer within is came steps =
      let before = get_or tasks place at in
      one_turn place (over tasks s r) (over (set tasks place after) s' r') (inr (record {
        front = take place tasks;
        before = before;
        behind = drop (place + 1) tasks;
        after = after;
        found = sym (take-append-drop place tasks) ∙ ap (λ (l : List T). take place tasks ++ l) (drop_more tasks place before within ∙ ap (λ (x : T). x ∷ drop (place + 1) tasks) (sym (ap (get_or tasks place) is)));
        stands = omega (arith, length-take place tasks);
        taken = is_step (over before s r) (over after s' r') answer came steps;
        left = set_split tasks place after within ∙ ap (λ (j : ℕ). take place tasks ++ after ∷ drop j tasks) (one_more place);
      }))

  pub gives_none : (place : ℕ) (tasks : List T) (at : T) (s : S) (r : R) (is_done : Bool)
      → place < length tasks → at ≡ get_or tasks place at → is_done ≡ (rest (get_or tasks place at) == 0) → is_done ≡ true
      → HaveTurns rest step (place ∷ []) (over tasks s r) (over (set tasks place (get_or tasks place at)) s r)
  gives_none place tasks at s r is_done within is tells done =
      let before = get_or tasks place at in
      one_turn place (over tasks s r) (over (set tasks place before) s r) (inl (
        rest_at rest tasks place before within (ap (get_or tasks place) is) ∙ eqb-true (rest before) 0 (sym tells ∙ done),
        ap (λ (l : List T). over l s r) (set-get_or tasks place at),
      ))

  pub gives_past : (place : ℕ) (tasks : List T) (s : S) (r : R) → length tasks ≤ place → HaveTurns rest step (place ∷ []) (over tasks s r) (over tasks s r)
  gives_past place tasks s r past = one_turn place (over tasks s r) (over tasks s r) (inl (left_past rest place tasks past, refl))

  pub gives_next : (place : ℕ) (old mid new : State (List T) S R) → HaveTurns rest step (tasks_from 0 place) old mid → HaveTurns rest step (place ∷ []) mid new
      → HaveTurns rest step (tasks_from 0 (place + 1)) old new
  gives_next place old mid new first second =
      subst (λ (l : List ℕ). HaveTurns rest step l old new) (sym (from_push 0 place ∙ ap (λ (j : ℕ). tasks_from 0 place ++ j ∷ []) (zero_add place)))
      (turns_on (tasks_from 0 place) (place ∷ []) old mid new first second)

  pub gives_entry : (i : ℕ) (order : List ℕ) (old mid new : State (List T) S R) → i < length order
      → HaveTurns rest step (take i order) old mid → HaveTurns rest step (get_or order i 0 ∷ []) mid new → HaveTurns rest step (take (i + 1) order) old new
  gives_entry i order old mid new within first second =
      subst (λ (l : List ℕ). HaveTurns rest step l old new) (sym (take_more order i 0 within)) (turns_on (take i order) (get_or order i 0 ∷ []) old mid new first second)
