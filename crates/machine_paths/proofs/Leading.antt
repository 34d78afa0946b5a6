-- Steps that lead from one configuration to another.
use Rattle.std.proofs.Common.{◌≡◌, ℕ, suc, ◌+◌, sym, ap, ◌∙◌, arith}
use Rattle.run_state.specs.World.{Limits}
use Rattle.code_meaning.specs.Machine.{Config, Goes, step, after, Codes}
use Rattle.machine_paths.specs.Fast.{Leads}
use Rattle.machine_paths.specs.Steps.{steps_taken}

zero_add : (n : ℕ) → 0 + n ≡ n
zero_add n = omega arith

one_more : (k m : ℕ) → (k + 1) + m ≡ k + suc m
one_more k m = omega arith

module _ (codes : Codes) (limits : Limits) where
  pub starts : (c : Config) → Leads codes limits 0 c c
  starts c = record {
    leads = λ m. ap (λ n. after codes limits n (Goes c)) (zero_add m);
    taken = λ m. ap (λ n. steps_taken codes limits n (Goes c)) (zero_add m) ∙ sym (zero_add (steps_taken codes limits m (Goes c)));
  }

  pub steps_on : (k : ℕ) (from c d : Config) → Leads codes limits k from c → step codes limits c ≡ Goes d → Leads codes limits (k + 1) from d
  steps_on k from c d r e = record {
    leads = λ m. ap (λ n. after codes limits n (Goes from)) (one_more k m) ∙ r.leads (suc m) ∙ ap (after codes limits m) e;
    taken = λ m.
        ap (λ n. steps_taken codes limits n (Goes from)) (one_more k m) ∙ r.taken (suc m)
        ∙ ap (λ n. k + suc (steps_taken codes limits m n)) e
        ∙ sym (one_more k (steps_taken codes limits m (Goes d)));
  }
