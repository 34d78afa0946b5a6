-- What turns make of tasks and of what is left of them.
use Rattle.std.proofs.Common.{◌≡◌, ◌≢◌, ℕ, zero, suc, ◌+◌, ◌-◌, ◌<◌, ◌≤◌, Bool, true, false, min, List, [], ◌∷◌, ◌++◌, length, map, take, drop, set, get_or, ◌⊎◌, inl, inr, length-append, true≢false, refl, sym, ap, ◌∙◌, subst, arith, append_assoc, append-nil}
use Rattle.std.specs.Prelude.{◌==◌}
use Rattle.std.proofs.lemmas.List.{take_more, set_split, drop_more, take-append-drop, map-set, set-get_or, get_or-map, length-take, length-map, get_or_at, set_at}
use Rattle.std.proofs.lemmas.Bool.{eqb-true, eqb-false, eq-eqb, and_parts, and_from}
use Rattle.task_core.specs.Turns.{IsTurn, Turns}
use Rattle.task_core.specs.declared.task.Turn.{Turn}
use Rattle.task_core.specs.declared.task.Turn.TheVariants.{More, Done}
use Rattle.task_core.specs.Order.{IsOrder, Taken, total, turn_of, lowered, left, turns, tasks_from, rounds, ordered, Ran, Went, AllEnd, all_done}

-- ---- what is left behind these entries

pub left_append : (q : ℕ) (xs ys rests : List ℕ) → left q (xs ++ ys) rests ≡ left q ys (left q xs rests)
left_append q [] ys rests = refl
left_append q (x ∷ xs) ys rests = left_append q xs ys (lowered q x rests)

pub turns_append : (q : ℕ) (xs ys rests : List ℕ) → turns q (xs ++ ys) rests ≡ turns q xs rests ++ turns q ys (left q xs rests)
turns_append q [] ys rests = refl
turns_append q (x ∷ xs) ys rests =
    ap (λ l. turn_of q x (get_or rests x 0) ++ l) (turns_append q xs ys (lowered q x rests))
    ∙ sym (append_assoc (turn_of q x (get_or rests x 0)) (turns q xs (lowered q x rests)) (turns q ys (left q xs (lowered q x rests))))

-- ---- turns one behind the other

pub ran_append : {T E : Type 0} (rest : T → ℕ) (ending : T → E) (q : ℕ) (xs ys : List Taken) (old mid new : List T)
    → Ran rest ending q xs old mid → Ran rest ending q ys mid new → Ran rest ending q (xs ++ ys) old new
ran_append rest ending q [] ys old mid new first second = subst (λ l. Ran rest ending q ys l new) first second
ran_append rest ending q (x ∷ xs) ys old mid new (front, before, behind, after, parts, place, turn, count, more) second =
    (front, before, behind, after, parts, place, turn, count, ran_append rest ending q xs ys (front ++ after ∷ behind) mid new more second)

pub map-append : {X Y : Type 0} (f : X → Y) (xs ys : List X) → map f (xs ++ ys) ≡ map f xs ++ map f ys
map-append f [] ys = refl
map-append f (x ∷ xs) ys = ap (λ l. f x ∷ l) (map-append f xs ys)

-- no turn changes what a task comes to
pub ran_endings : {T E : Type 0} (rest : T → ℕ) (ending : T → E) (q : ℕ) (xs : List Taken) (old new : List T)
    → Ran rest ending q xs old new → map ending new ≡ map ending old
ran_endings rest ending q [] old new same = ap (map ending) same
ran_endings rest ending q (x ∷ xs) old new (front, before, behind, after, parts, place, turn, count, more) =
    ran_endings rest ending q xs (front ++ after ∷ behind) new more
    ∙ map-append ending front (after ∷ behind)
    ∙ ap (λ e. map ending front ++ e ∷ map ending behind) turn.kept
    ∙ sym (map-append ending front (before ∷ behind))
    ∙ ap (map ending) (sym parts)

-- ---- one turn

pub one_more : (i : ℕ) → suc i ≡ i + 1
one_more i = omega arith

pub is_less : (q n : ℕ) → min q n ≡ n - (n - q)
is_less q n = omega arith

pub ran_one : {T E : Type 0} (rest : T → ℕ) (ending : T → E) (q : ℕ) (tasks : List T) (i : ℕ) (before after : T) (n : ℕ)
    → i < length tasks → before ≡ get_or tasks i before → rest before ≡ n → n ≢ 0 → IsTurn rest ending q before after
    → Ran rest ending q (turn_of q i n) tasks (set tasks i after)
ran_one rest ending q tasks i before after zero within is some not turn = absurd (not refl)
ran_one rest ending q tasks i before after (suc n) within is some not turn = (
  take i tasks,
  before,
  drop (i + 1) tasks,
  after,
  sym (take-append-drop i tasks) ∙ ap (λ l. take i tasks ++ l) (drop_more tasks i before within ∙ ap (λ x. x ∷ drop (i + 1) tasks) (sym is)),
  omega (arith, length-take i tasks),
  turn,
  is_less q (suc n) ∙ (λ k. sym some k - (sym some k - q)) ∙ ap (λ r. rest before - r) (sym turn.lowered),
  set_split tasks i after within ∙ ap (λ j. take i tasks ++ after ∷ drop j tasks) (one_more i),
)

pub rest_at : {T : Type 0} (rest : T → ℕ) (tasks : List T) (i : ℕ) (before : T) → i < length tasks → before ≡ get_or tasks i before
    → get_or (map rest tasks) i 0 ≡ rest before
rest_at rest tasks i before within is = get_or-map rest tasks i before 0 within ∙ ap rest (sym is)

pub ran_turn : {T E : Type 0} (rest : T → ℕ) (ending : T → E) (q : ℕ) (tasks : List T) (i : ℕ) (before after : T)
    → i < length tasks → before ≡ get_or tasks i before → (rest before == 0) ≡ false → IsTurn rest ending q before after
    → Ran rest ending q (turn_of q i (get_or (map rest tasks) i 0)) tasks (set tasks i after)
ran_turn rest ending q tasks i before after within is some turn =
    rw (rest_at rest tasks i before within is) (ran_one rest ending q tasks i before after (rest before) within is refl (eqb-false (rest before) 0 some) turn)

pub rests_turn : {T E : Type 0} (rest : T → ℕ) (ending : T → E) (q : ℕ) (tasks : List T) (i : ℕ) (before after : T)
    → i < length tasks → before ≡ get_or tasks i before → IsTurn rest ending q before after
    → map rest (set tasks i after) ≡ lowered q i (map rest tasks)
rests_turn rest ending q tasks i before after within is turn =
    map-set rest tasks i after ∙ ap (set (map rest tasks) i) (turn.lowered ∙ ap (λ r. r - q) (sym (rest_at rest tasks i before within is)))

-- a task that is done
pub ran_none : {T E : Type 0} (rest : T → ℕ) (ending : T → E) (q : ℕ) (tasks : List T) (i : ℕ) (before : T)
    → i < length tasks → before ≡ get_or tasks i before → (rest before == 0) ≡ true
    → Ran rest ending q (turn_of q i (get_or (map rest tasks) i 0)) tasks tasks
ran_none rest ending q tasks i before within is none =
    let zero : get_or (map rest tasks) i 0 ≡ 0 = rest_at rest tasks i before within is ∙ eqb-true (rest before) 0 none in rw zero refl

pub zero_less : (q : ℕ) → 0 - q ≡ 0
zero_less q = omega arith

pub lowered_none : (q : ℕ) (i : ℕ) (rests : List ℕ) → get_or rests i 0 ≡ 0 → lowered q i rests ≡ rests
lowered_none q i rests none = ap (set rests i) (ap (λ r. r - q) none ∙ zero_less q ∙ sym none) ∙ set-get_or rests i 0

-- ---- tasks in a row, and rounds

pub behind : (a n : ℕ) → a + 1 + n ≡ a + suc n
behind a n = omega arith

pub suc_add : (k m : ℕ) → suc k + m ≡ suc (k + m)
suc_add k m = omega arith

pub from_push : (a n : ℕ) → tasks_from a (n + 1) ≡ tasks_from a n ++ (a + n) ∷ []
from_push a zero = ap (λ i. i ∷ []) (omega arith)
from_push a (suc n) =
    ap (tasks_from a) (sym (one_more (suc n)))
    ∙ ap (λ l. a ∷ l) (ap (tasks_from (a + 1)) (one_more n) ∙ from_push (a + 1) n ∙ ap (λ i. tasks_from (a + 1) n ++ i ∷ []) (behind a n))

pub zero_add : (m : ℕ) → 0 + m ≡ m
zero_add m = omega arith

pub rounds_add : (k m n : ℕ) → rounds (k + m) n ≡ rounds k n ++ rounds m n
rounds_add zero m n = ap (λ i. rounds i n) (zero_add m)
rounds_add (suc k) m n =
    ap (λ i. rounds i n) (suc_add k m) ∙ ap (λ l. tasks_from 0 n ++ l) (rounds_add k m n) ∙ sym (append_assoc (tasks_from 0 n) (rounds k n) (rounds m n))

-- a pass over all tasks lowers each rest
pub left_pass : (q : ℕ) (front rests : List ℕ) → left q (tasks_from (length front) (length rests)) (front ++ rests) ≡ front ++ map (λ r. r - q) rests
left_pass q front [] = refl
left_pass q front (r ∷ rests) =
    ap (λ l. left q (tasks_from (length front + 1) (length rests)) l)
    (ap (λ x. set (front ++ r ∷ rests) (length front) (x - q)) (get_or_at front r rests 0 (length front) refl) ∙ set_at front r rests (r - q) (length front) refl ∙ sym (append_assoc front ((r - q) ∷ []) rests))
    ∙ ap (λ n. left q (tasks_from n (length rests)) ((front ++ (r - q) ∷ []) ++ rests)) (sym (length-append front ((r - q) ∷ [])))
    ∙ left_pass q (front ++ (r - q) ∷ []) rests
    ∙ append_assoc front ((r - q) ∷ []) (map (λ r. r - q) rests)

pub left_round : (q : ℕ) (rests : List ℕ) → left q (tasks_from 0 (length rests)) rests ≡ map (λ r. r - q) rests
left_round q rests = left_pass q [] rests

pub plus_le : (a b c d : ℕ) → a ≤ b → c ≤ d → a + c ≤ b + d
plus_le a b c d first second = omega (arith, first, second)

pub plus_lt : (a b c d : ℕ) → a ≤ b → c < d → a + c < b + d
plus_lt a b c d first second = omega (arith, first, second)

pub plus_some : (q r c d : ℕ) → 0 < q → c ≤ d → d ≡ 0 → suc r - q + c < suc r + d
plus_some q r c d some less none = omega (arith, some, less, none)

pub plus_none : (a b : ℕ) → a ≡ 0 → b ≡ 0 → a + b ≡ 0
plus_none a b first second = omega (arith, first, second)

pub none_plus : (a b : ℕ) → a + b ≡ 0 → (a ≡ 0) × (b ≡ 0)
none_plus a b none = (omega (arith, none), omega (arith, none))

pub less_le : (r q : ℕ) → r - q ≤ r
less_le r q = omega arith

pub lowers : (q : ℕ) (rests : List ℕ) → total (map (λ r. r - q) rests) ≤ total rests
lowers q [] = omega arith
lowers q (r ∷ rests) = plus_le (r - q) r (total (map (λ r. r - q) rests)) (total rests) (less_le r q) (lowers q rests)

pub lowers_one : (q r : ℕ) (rests : List ℕ) → 0 < q → (total (map (λ r. r - q) rests) < total rests) ⊎ (total rests ≡ 0)
    → (total (map (λ r. r - q) (r ∷ rests)) < total (r ∷ rests)) ⊎ (total (r ∷ rests) ≡ 0)
lowers_one q r rests some (inl less) = inl (plus_lt (r - q) r (total (map (λ r. r - q) rests)) (total rests) (less_le r q) less)
lowers_one q zero rests some (inr none) = inr (plus_none 0 (total rests) refl none)
lowers_one q (suc r) rests some (inr none) = inl (plus_some q r (total (map (λ r. r - q) rests)) (total rests) some (lowers q rests) none)

pub round_lowers : (q : ℕ) (rests : List ℕ) → 0 < q → (total (map (λ r. r - q) rests) < total rests) ⊎ (total rests ≡ 0)
round_lowers q [] some = inr refl
round_lowers q (r ∷ rests) some = lowers_one q r rests some (round_lowers q rests some)

-- ---- tasks that are done

pub none_at : (rests : List ℕ) (i : ℕ) → total rests ≡ 0 → get_or rests i 0 ≡ 0
none_at [] i none = refl
none_at (r ∷ rests) zero none = (none_plus r (total rests) none).0
none_at (r ∷ rests) (suc i) none = none_at rests i ((none_plus r (total rests) none).1)

pub turns_none : (q : ℕ) (entries rests : List ℕ) → total rests ≡ 0 → turns q entries rests ≡ []
turns_none q [] rests none = refl
turns_none q (i ∷ entries) rests none =
    let zero : get_or rests i 0 ≡ 0 = none_at rests i none in
    ap (λ r. turn_of q i r ++ turns q entries (lowered q i rests)) zero
    ∙ ap (λ l. turns q entries l) (lowered_none q i rests zero)
    ∙ turns_none q entries rests none

-- ---- a run in rounds

pub went_none : {T E : Type 0} (rest : T → ℕ) (ending : T → E) (q : ℕ) (old : List T) → Went rest ending q [] old old
went_none rest ending q old = record { ran = refl; rests = refl }

pub went_on : {T E : Type 0} (rest : T → ℕ) (ending : T → E) (q : ℕ) (xs ys : List ℕ) (old mid new : List T)
    → Went rest ending q xs old mid → Went rest ending q ys mid new → Went rest ending q (xs ++ ys) old new
went_on rest ending q xs ys old mid new first second = record {
  ran =
      subst (λ l. Ran rest ending q l old new)
      (ap (λ r. turns q xs (map rest old) ++ turns q ys r) first.rests ∙ sym (turns_append q xs ys (map rest old)))
      (ran_append rest ending q (turns q xs (map rest old)) (turns q ys (map rest mid)) old mid new first.ran second.ran);
  rests = second.rests ∙ ap (left q ys) first.rests ∙ sym (left_append q xs ys (map rest old));
}

pub went_turn : {T E : Type 0} (rest : T → ℕ) (ending : T → E) (q i : ℕ) (old new : List T)
    → Ran rest ending q (turn_of q i (get_or (map rest old) i 0)) old new → map rest new ≡ lowered q i (map rest old)
    → Went rest ending q (i ∷ []) old new
went_turn rest ending q i old new ran rests = record { ran = subst (λ l. Ran rest ending q l old new) (sym (append-nil (turn_of q i (get_or (map rest old) i 0)))) ran; rests = rests }

pub record InRounds {T E : Type 0} (rest : T → ℕ) (ending : T → E) (q : ℕ) (order : List ℕ) (old now : List T) : Type 0 where
  pub count : ℕ
  pub went : Went rest ending q (order ++ rounds count (length old)) old now
  pub within : count + total (map rest now) ≤ total (map rest old)

pub all_none : {T : Type 0} (rest : T → ℕ) (tasks : List T) → all_done rest tasks ≡ true → total (map rest tasks) ≡ 0
all_none rest [] done = refl
all_none rest (task ∷ tasks) done =
    let parts = and_parts (rest task == 0) (all_done rest tasks) done in
    plus_none (rest task) (total (map rest tasks)) (eqb-true (rest task) 0 parts.0) (all_none rest tasks parts.1)

pub none_all : {T : Type 0} (rest : T → ℕ) (tasks : List T) → total (map rest tasks) ≡ 0 → all_done rest tasks ≡ true
none_all rest [] none = refl
none_all rest (task ∷ tasks) none =
    and_from (rest task == 0) (all_done rest tasks) (eq-eqb (rest task) 0 ((none_plus (rest task) (total (map rest tasks)) none).0)) (none_all rest tasks ((none_plus (rest task) (total (map rest tasks)) none).1))

-- the entries were passed, and no round was yet
pub set_lowers : (rests : List ℕ) (i x : ℕ) → x ≤ get_or rests i 0 → total (set rests i x) ≤ total rests
set_lowers [] i x less = omega arith
set_lowers (r ∷ rests) zero x less = plus_le x r (total rests) (total rests) less (omega arith)
set_lowers (r ∷ rests) (suc i) x less = plus_le r r (total (set rests i x)) (total rests) (omega arith) (set_lowers rests i x less)

pub left_lowers : (q : ℕ) (entries rests : List ℕ) → total (left q entries rests) ≤ total rests
left_lowers q [] rests = omega arith
left_lowers q (i ∷ entries) rests = omega (arith, left_lowers q entries (lowered q i rests), set_lowers rests i (get_or rests i 0 - q) (omega arith))

pub contradicts : (b : Bool) → b ≡ false → b ≡ true → ⊥
contradicts b is_false is_true = true≢false (sym is_true ∙ is_false)

pub not_none : {T : Type 0} (rest : T → ℕ) (tasks : List T) → all_done rest tasks ≡ false → total (map rest tasks) ≢ 0
not_none rest tasks not none = contradicts (all_done rest tasks) not (none_all rest tasks none)

pub less_of : (now passed all : ℕ) → now ≡ passed → all ≢ 0 → (passed < all) ⊎ (all ≡ 0) → now < all
less_of now passed all is some (inl less) = omega (arith, is, less)
less_of now passed all is some (inr none) = absurd (some none)

pub round_less : {T E : Type 0} (rest : T → ℕ) (ending : T → E) (q : ℕ) (mid now : List T) → 0 < q → all_done rest mid ≡ false
    → Went rest ending q (tasks_from 0 (length mid)) mid now → total (map rest now) < total (map rest mid)
round_less rest ending q mid now some not round =
    let rests = map rest mid in
    let passed : map rest now ≡ map (λ r. r - q) rests = round.rests ∙ ap (λ n. left q (tasks_from 0 n) rests) (sym (length-map mid rest)) ∙ left_round q rests in
    less_of (total (map rest now)) (total (map (λ r. r - q) rests)) (total rests) (ap total passed) (not_none rest mid not) (round_lowers q rests some)

pub rounds_begin : {T E : Type 0} (rest : T → ℕ) (ending : T → E) (q : ℕ) (order : List ℕ) (old now : List T)
    → Went rest ending q order old now → InRounds rest ending q order old now
rounds_begin rest ending q order old now went = record {
  count = 0;
  went = subst (λ l. Went rest ending q l old now) (sym (append-nil order)) went;
  within = omega (arith, ap total went.rests, left_lowers q order (map rest old));
}

pub rounds_on : {T E : Type 0} (rest : T → ℕ) (ending : T → E) (q : ℕ) (order : List ℕ) (old mid now : List T) → 0 < q → length mid ≡ length old
    → all_done rest mid ≡ false → InRounds rest ending q order old mid → Went rest ending q (tasks_from 0 (length mid)) mid now
    → InRounds rest ending q order old now × (total (map rest now) < total (map rest mid))
rounds_on rest ending q order old mid now some long not run round =
    let less : total (map rest now) < total (map rest mid) = round_less rest ending q mid now some not round in (
      record {
        count = run.count + 1;
        went =
            subst (λ l. Went rest ending q l old now)
            (append_assoc order (rounds run.count (length old)) (tasks_from 0 (length mid))
            ∙ ap (λ l. order ++ l)
            (ap (λ n. rounds run.count (length old) ++ tasks_from 0 n) long
            ∙ ap (λ l. rounds run.count (length old) ++ l) (sym (append-nil (tasks_from 0 (length old))))
            ∙ sym (rounds_add run.count 1 (length old))))
            (went_on rest ending q (order ++ rounds run.count (length old)) (tasks_from 0 (length mid)) old mid now run.went round);
        within = omega (arith, run.within, less);
      },
      less,
    )

-- all are done: the turns were those of the order
pub rounds_end : {T E : Type 0} (rest : T → ℕ) (ending : T → E) (q : ℕ) (order : List ℕ) (old now : List T)
    → all_done rest now ≡ true → InRounds rest ending q order old now
    → Ran rest ending q (ordered q order (map rest old)) old now × AllEnd rest ending old now
rounds_end rest ending q order old now done run =
    let rests = map rest old in
    let n = length old in
    let k = run.count in
    let m = total rests - k in
    let none : total (map rest now) ≡ 0 = all_none rest now done in
    let some : k + m ≡ total rests = omega (arith, run.within) in
    let entries = order ++ rounds k n in
    let turned : ordered q order rests ≡ turns q entries rests =
    ap (λ j. turns q (order ++ rounds (total rests) j) rests) (length-map old rest)
    ∙ ap (λ j. turns q (order ++ rounds j n) rests) (sym some)
    ∙ ap (λ l. turns q (order ++ l) rests) (rounds_add k m n)
    ∙ ap (λ l. turns q l rests) (sym (append_assoc order (rounds k n) (rounds m n)))
    ∙ turns_append q entries (rounds m n) rests
    ∙ ap (λ l. turns q entries rests ++ l) (turns_none q (rounds m n) (left q entries rests) (ap total (sym run.went.rests) ∙ none))
    ∙ append-nil (turns q entries rests) in (
      subst (λ l. Ran rest ending q l old now) (sym turned) run.went.ran,
      record { done = done; kept = ran_endings rest ending q (turns q entries rests) old now run.went.ran },
    )

-- ---- what the code's steps say

pub is_turn : {T E : Type 0} (rest : T → ℕ) (ending : T → E) (q : ℕ) (old new : T) (result : Turn)
    → (result ≡ More) ⊎ (result ≡ Done) → Turns rest ending q old new result → IsTurn rest ending q old new
is_turn rest ending q old new result (inl more) turns = (subst (Turns rest ending q old new) more turns).0
is_turn rest ending q old new result (inr done) turns = (subst (Turns rest ending q old new) done turns).0

pub gives_turn : {T E : Type 0} (rest : T → ℕ) (ending : T → E) (q : ℕ) (tasks : List T) (i : ℕ) (at after : T) (is_done : Bool) (result : Turn)
    → i < length tasks → at ≡ get_or tasks i at → is_done ≡ (rest (get_or tasks i at) == 0) → is_done ≡ false
    → (result ≡ More) ⊎ (result ≡ Done) → Turns rest ending q (get_or tasks i at) after result
    → Went rest ending q (i ∷ []) tasks (set tasks i after)
gives_turn rest ending q tasks i at after is_done result within is tells not answer turns =
    let before = get_or tasks i at in
    let same : before ≡ get_or tasks i before = ap (get_or tasks i) is in
    let turn = is_turn rest ending q before after result answer turns in
    went_turn rest ending q i tasks (set tasks i after)
    (ran_turn rest ending q tasks i before after within same (sym tells ∙ not) turn)
    (rests_turn rest ending q tasks i before after within same turn)

pub gives_none : {T E : Type 0} (rest : T → ℕ) (ending : T → E) (q : ℕ) (tasks : List T) (i : ℕ) (at : T) (is_done : Bool)
    → i < length tasks → at ≡ get_or tasks i at → is_done ≡ (rest (get_or tasks i at) == 0) → is_done ≡ true
    → Went rest ending q (i ∷ []) tasks (set tasks i (get_or tasks i at))
gives_none rest ending q tasks i at is_done within is tells done =
    let before = get_or tasks i at in
    let same : before ≡ get_or tasks i before = ap (get_or tasks i) is in
    subst (λ l. Went rest ending q (i ∷ []) tasks l) (sym (set-get_or tasks i at)) (went_turn rest ending q i tasks tasks
    (ran_none rest ending q tasks i before within same (sym tells ∙ done))
    (sym (lowered_none q i (map rest tasks) (rest_at rest tasks i before within same ∙ eqb-true (rest before) 0 (sym tells ∙ done)))))

pub gives_next : {T E : Type 0} (rest : T → ℕ) (ending : T → E) (q i : ℕ) (old mid new : List T)
    → Went rest ending q (tasks_from 0 i) old mid → Went rest ending q (i ∷ []) mid new → Went rest ending q (tasks_from 0 (i + 1)) old new
gives_next rest ending q i old mid new first second =
    subst (λ l. Went rest ending q l old new) (sym (from_push 0 i ∙ ap (λ j. tasks_from 0 i ++ j ∷ []) (zero_add i)))
    (went_on rest ending q (tasks_from 0 i) (i ∷ []) old mid new first second)

pub none_below : (i : ℕ) → i < 0 → ⊥
none_below i below = omega (arith, below)

pub entry_within : (n : ℕ) (order : List ℕ) (i : ℕ) → IsOrder n order → i < length order → get_or order i 0 < n
entry_within n [] i is within = absurd (none_below i within)
entry_within n (entry ∷ entries) zero is within = is.0
entry_within n (entry ∷ entries) (suc i) is within = entry_within n entries i is.1 (omega (arith, within))

pub gives_entry : {T E : Type 0} (rest : T → ℕ) (ending : T → E) (q i : ℕ) (order : List ℕ) (old mid new : List T) → i < length order
    → Went rest ending q (take i order) old mid → Went rest ending q (get_or order i 0 ∷ []) mid new → Went rest ending q (take (i + 1) order) old new
gives_entry rest ending q i order old mid new within first second =
    subst (λ l. Went rest ending q l old new) (sym (take_more order i 0 within)) (went_on rest ending q (take i order) (get_or order i 0 ∷ []) old mid new first second)
