-- Turns add up.
use Rattle.std.proofs.Common.{◌≡◌, ℕ, zero, suc, ◌+◌, ◌-◌, ◌≤◌, Option, Some, None, refl, sym, ap, ◌∙◌, subst, arith}
use Rattle.run_state.specs.World.{Limits, End}
use Rattle.code_meaning.specs.declared.word.Word.{Word}
use Rattle.code_meaning.specs.Machine.{Next, Goes, Ends, Stuck, step, after, Codes}
use Rattle.machine.specs.Seen.{limits_in, codes_in}
use Rattle.machine.specs.Runs.{steps_taken}
use Rattle.machine.specs.Activations.{Activation, counted, later}
use Rattle.machine.specs.Laws.{TurnsAdd, ComesToItsEnd}

zero_add : (n : ℕ) → 0 + n ≡ n
zero_add n = omega arith

suc_add : (k n : ℕ) → suc k + n ≡ suc (k + n)
suc_add k n = omega arith

module _ (codes : Codes) (limits : Limits) where
  end_stays : (n : ℕ) (r : End (Option Word)) → after codes limits n (Ends r) ≡ Ends r
  end_stays zero r = refl
  end_stays (suc n) r = refl

  stuck_stays : (n : ℕ) → after codes limits n Stuck ≡ Stuck
  stuck_stays zero = refl
  stuck_stays (suc n) = refl

  none_behind : (n : ℕ) (r : End (Option Word)) → steps_taken codes limits n (Ends r) ≡ 0
  none_behind zero r = refl
  none_behind (suc n) r = refl

  none_stuck : (n : ℕ) → steps_taken codes limits n Stuck ≡ 0
  none_stuck zero = refl
  none_stuck (suc n) = refl

  pub adds : (first second : ℕ) (from : Next) → after codes limits (first + second) from ≡ after codes limits second (after codes limits first from)
  adds zero second from = ap (λ n. after codes limits n from) (zero_add second)
  adds (suc k) second (Goes c) = ap (λ n. after codes limits n (Goes c)) (suc_add k second) ∙ adds k second (step codes limits c)
  adds (suc k) second (Ends r) = end_stays (suc k + second) r ∙ sym (end_stays second r)
  adds (suc k) second Stuck = stuck_stays (suc k + second) ∙ sym (stuck_stays second)

  pub taken_adds : (first second : ℕ) (from : Next) → steps_taken codes limits (first + second) from ≡ steps_taken codes limits first from + steps_taken codes limits second (after codes limits first from)
  taken_adds zero second from = ap (λ n. steps_taken codes limits n from) (zero_add second) ∙ sym (zero_add (steps_taken codes limits second from))
  taken_adds (suc k) second (Goes c) =
      ap (λ n. steps_taken codes limits n (Goes c)) (suc_add k second) ∙ ap suc (taken_adds k second (step codes limits c))
      ∙ sym (suc_add (steps_taken codes limits k (step codes limits c)) (steps_taken codes limits second (after codes limits k (step codes limits c))))
  taken_adds (suc k) second (Ends r) = none_behind (suc k + second) r ∙ sym (zero_add (steps_taken codes limits second (Ends r)) ∙ none_behind second r)
  taken_adds (suc k) second Stuck = none_stuck (suc k + second) ∙ sym (zero_add (steps_taken codes limits second Stuck) ∙ none_stuck second)

counted_twice : (steps first second : ℕ) → counted (steps + (first + second)) ≡ counted (counted (steps + first) + second)
counted_twice steps first second = omega arith

of_sum : (steps first second sum : ℕ) → sum ≡ first + second → counted (steps + sum) ≡ counted (counted (steps + first) + second)
of_sum steps first second sum e = ap (λ n. counted (steps + n)) e ∙ counted_twice steps first second

module _ (a : Activation) (first second : ℕ) where
  abbrev made : ℕ → Option Next → Activation
  made steps now = record { executable = a.executable; limits = a.limits; now = now; steps = steps }

  by_now : (now : Option Next) → a.now ≡ now → later (first + second) a ≡ later second (later first a)
  by_now None e = subst (λ now. later (first + second) (made a.steps now) ≡ later second (later first (made a.steps now))) (sym e) refl
  by_now (Some n) e =
      subst (λ now. later (first + second) (made a.steps now) ≡ later second (later first (made a.steps now))) (sym e)
      (ap (λ next. made (counted (a.steps + steps_taken (codes_in a.executable) (limits_in a.executable a.limits) (first + second) n)) (Some next)) (adds (codes_in a.executable) (limits_in a.executable a.limits) first second n)
      ∙ ap (λ steps. made steps (Some (after (codes_in a.executable) (limits_in a.executable a.limits) second (after (codes_in a.executable) (limits_in a.executable a.limits) first n))))
      (of_sum a.steps (steps_taken (codes_in a.executable) (limits_in a.executable a.limits) first n) (steps_taken (codes_in a.executable) (limits_in a.executable a.limits) second (after (codes_in a.executable) (limits_in a.executable a.limits) first n))
      (steps_taken (codes_in a.executable) (limits_in a.executable a.limits) (first + second) n) (taken_adds (codes_in a.executable) (limits_in a.executable a.limits) first second n)))

pub turns_add : TurnsAdd
turns_add a first second = by_now a first second a.now refl

the_rest : (steps q : ℕ) → steps ≤ q → q ≡ steps + (q - steps)
the_rest steps q h = omega arith

pub comes_to_its_end : ComesToItsEnd
comes_to_its_end a from steps q end stands ends h =
    let codes = codes_in a.executable in
    let limits = limits_in a.executable a.limits in
    let there : after codes limits q from ≡ Ends end =
    ap (λ n. after codes limits n from) (the_rest steps q h) ∙ adds codes limits steps (q - steps) from ∙ ap (after codes limits (q - steps)) ends ∙ end_stays codes limits (q - steps) end in
    ap (λ now. (later q (record { executable = a.executable; limits = a.limits; now = now; steps = a.steps })).now) stands ∙ ap (λ next. Some next) there
