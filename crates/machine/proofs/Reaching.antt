-- Instructions one after the other.
use Rattle.std.proofs.Common.{◌≡◌, ℕ, zero, suc, true, false, ◌+◌, ◌-◌, ◌<◌, refl, sym, ap, ◌∙◌, arith}
use Rattle.run_state.specs.World.{World, Limits}
use Rattle.code_meaning.specs.Machine.{Next, Goes, step, after, Codes}
use Rattle.machine_paths.specs.Fast.{Leads}
use Rattle.machine_paths.proofs.Leading.{starts, steps_on}
use Rattle.machine.specs.declared.configuration.Configuration.{Configuration}
use Rattle.machine.specs.declared.configuration.RunEnd.{RunEnd}
use Rattle.machine.specs.declared.configuration.RunEnd.TheVariants as end
use Rattle.machine.specs.declared.configuration.Step.{Step}
use Rattle.machine.specs.declared.configuration.Step.TheVariants as said
use Rattle.machine.specs.Seen.{configuration_of, world_of, ended, goes, Comes}
use Rattle.machine.specs.Runs.{steps_taken, RanTo}

add_zero : (n : ℕ) → n + 0 ≡ n
add_zero n = omega arith

the_rest : (k count : ℕ) → k < count → k + suc (count - k - 1) ≡ count
the_rest k count h = omega arith

together : (k j m : ℕ) → (k + j) + m ≡ k + (j + m)
together k j m = omega arith

module _ (codes : Codes) (limits : Limits) where
  -- From the one configuration so many steps lead to the other.
  abbrev pub Reached : ℕ → Configuration → Configuration → Type 0
  Reached k from c = Leads codes limits k (configuration_of from) (configuration_of c)

  pub begins : (c : Configuration) → Reached 0 c c
  begins c = starts codes limits (configuration_of c)

  pub goes_on : (k : ℕ) (from c d : Configuration) → Reached k from c → step codes limits (configuration_of c) ≡ Goes (configuration_of d) → Reached (k + 1) from d
  goes_on k from c d r e = steps_on codes limits k (configuration_of from) (configuration_of c) (configuration_of d) r e

  pub joined : (k j : ℕ) (from c d : Configuration) → Reached k from c → Reached j c d → Reached (k + j) from d
  joined k j from c d r l = record {
    leads = λ m. ap (λ n. after codes limits n (Goes (configuration_of from))) (together k j m) ∙ r.leads (j + m) ∙ l.leads m;
    taken = λ m.
        ap (λ n. steps_taken codes limits n (Goes (configuration_of from))) (together k j m) ∙ r.taken (j + m) ∙ ap (λ n. k + n) (l.taken m)
        ∙ sym (together k j (steps_taken codes limits m (Goes (configuration_of d))));
  }

  pub stays : (m : ℕ) (e : RunEnd) (w : World) → after codes limits m (ended e w) ≡ ended e w
  stays zero e w = refl
  stays (suc m) (end.Result word) w = refl
  stays (suc m) (end.Thrown id place) w = refl
  stays (suc m) (end.Limit which place) w = refl
  stays (suc m) end.Stuck w = refl

  pub none_taken : (m : ℕ) (e : RunEnd) (w : World) → steps_taken codes limits m (ended e w) ≡ 0
  none_taken zero e w = refl
  none_taken (suc m) (end.Result word) w = refl
  none_taken (suc m) (end.Thrown id place) w = refl
  none_taken (suc m) (end.Limit which place) w = refl
  none_taken (suc m) end.Stuck w = refl

  -- the steps that are left stay at the end
  stopped : (k count : ℕ) (from c : Configuration) (e : RunEnd) (w : World) → k < count → Reached k from c → step codes limits (configuration_of c) ≡ ended e w
      → (after codes limits count (Goes (configuration_of from)) ≡ ended e w) × (k + 1 ≡ steps_taken codes limits count (Goes (configuration_of from)))
  stopped k count from c e w h r comes =
      let m = count - k - 1 in
      let here : k + suc m ≡ count = the_rest k count h in (
        ap (λ n. after codes limits n (Goes (configuration_of from))) (sym here) ∙ r.leads (suc m) ∙ ap (after codes limits m) comes ∙ stays m e w,
        sym (ap (λ n. steps_taken codes limits n (Goes (configuration_of from))) (sym here) ∙ r.taken (suc m) ∙ ap (λ n. k + suc (steps_taken codes limits m n)) comes ∙ ap (λ n. k + suc n) (none_taken m e w)),
      )

  pub finishes : (k count : ℕ) (from c d : Configuration) (last : Step) → k < count → Reached k from c → Comes (step codes limits (configuration_of c)) last d → goes last ≡ false → RanTo codes limits count from last (k + 1) d
  finishes k count from c d said.Goes h r comes other = absurd (cc)
  finishes k count from c d said.NoMemory h r comes other = tt
  finishes k count from c d said.Ends h r comes other = stopped k count from c d.end (world_of d.world) h r comes
  finishes k count from c d said.Stuck h r comes other = stopped k count from c end.Stuck (world_of d.world) h r comes

  pub all_taken : (count : ℕ) (from c : Configuration) → Reached count from c → RanTo codes limits count from said.Goes count c
  all_taken count from c r = (
    ap (λ n. after codes limits n (Goes (configuration_of from))) (sym (add_zero count)) ∙ r.leads 0,
    sym (ap (λ n. steps_taken codes limits n (Goes (configuration_of from))) (sym (add_zero count)) ∙ r.taken 0 ∙ add_zero count),
  )

pub went : (next : Next) (last : Step) (c : Configuration) → goes last ≡ true → Comes next last c → next ≡ Goes (configuration_of c)
went next said.Goes c e h = h
went next said.Ends c e h = absurd (cc)
went next said.Stuck c e h = absurd (cc)
went next said.NoMemory c e h = absurd (cc)
