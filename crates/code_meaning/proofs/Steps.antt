-- Steps add up, and an end stays.
use Rattle.std.proofs.Common.{◌≡◌, ℕ, zero, suc, ◌+◌, Option, refl, sym, ap, ◌∙◌, arith}
use Rattle.run_state.specs.World.{Limits, End}
use Rattle.code_meaning.specs.declared.word.Word.{Word}
use Rattle.code_meaning.specs.Machine.{Codes, Next, Goes, Ends, Stuck, step, after}

zero_add : (n : ℕ) → 0 + n ≡ n
zero_add n = omega arith

suc_add : (k n : ℕ) → suc k + n ≡ suc (k + n)
suc_add k n = omega arith

turn_round : (k n : ℕ) → k + n ≡ n + k
turn_round k n = omega arith

module _ (codes : Codes) (limits : Limits) where
  end_stays : (n : ℕ) (r : End (Option Word)) → after codes limits n (Ends r) ≡ Ends r
  end_stays zero r = refl
  end_stays (suc n) r = refl

  stuck_stays : (n : ℕ) → after codes limits n Stuck ≡ Stuck
  stuck_stays zero = refl
  stuck_stays (suc n) = refl

  pub runs_on : (first second : ℕ) (from : Next) → after codes limits (first + second) from ≡ after codes limits second (after codes limits first from)
  runs_on zero second from = ap (λ n. after codes limits n from) (zero_add second)
  runs_on (suc k) second (Goes c) = ap (λ n. after codes limits n (Goes c)) (suc_add k second) ∙ runs_on k second (step codes limits c)
  runs_on (suc k) second (Ends r) = end_stays (suc k + second) r ∙ sym (end_stays second r)
  runs_on (suc k) second Stuck = stuck_stays (suc k + second) ∙ sym (stuck_stays second)

  pub ends_once : (first second : ℕ) (from : Next) (end other : End (Option Word)) → after codes limits first from ≡ Ends end → after codes limits second from ≡ Ends other → end ≡ other
  ends_once first second from end other is is_other =
      let one : after codes limits (first + second) from ≡ Ends end = runs_on first second from ∙ ap (after codes limits second) is ∙ end_stays second end in
      let two : after codes limits (second + first) from ≡ Ends other = runs_on second first from ∙ ap (after codes limits first) is_other ∙ end_stays first other in
      let same : Ends end ≡ Ends other = sym one ∙ ap (λ n. after codes limits n from) (turn_round first second) ∙ two in
      cc
