-- Where a run of verified code begins, and what it leaves once it has ended.
use Rattle.std.proofs.Common.{◌≡◌, ℕ, ◌+◌, ◌-◌, ◌<◌, ◌≤◌, Bool, false, List, [], ◌∷◌, Option, Some, None, refl, sym, ap, ◌∙◌, subst, arith}
use Rattle.std.specs.Prelude.{IfSome, ◌==◌}
use Rattle.std.proofs.lemmas.Bool.{false≢true}
use Rattle.object_values.specs.declared.object.Owner.TheVariants.{Script, Prelude}
use Rattle.pl_code.specs.declared.code.FunCode.{FunCode}
use Rattle.verifier_soundness.specs.Rows.{HaveRows}
use Rattle.verifier_soundness.specs.Fits.{kinds_of, main_params, AreWellShaped, ReachesAllowed, FitsNext}
use Rattle.verifier_soundness.specs.Laws.{AllHaveRows}
use Rattle.run_state.specs.World.{World, Limits, End}
use Rattle.object_heap.specs.declared.outcome.Which.TheVariants as which
use Rattle.code_meaning.specs.declared.word.Word.{Word}
use Rattle.code_meaning.specs.Machine.{Codes, Config, Next, Goes, Ends, Stuck, codes_of, start}
use Rattle.machine.specs.declared.activation.RunOutcome.{RunOutcome}
use Rattle.machine.specs.declared.configuration.Limits as configuration
use Rattle.machine.specs.declared.configuration.RunEnd as held
use Rattle.machine.specs.declared.configuration.RunEnd.TheVariants as end
use Rattle.machine.specs.Seen.{Executable, codes_in, limits_in, ended}
use Rattle.machine.specs.Activations.{Activation, counted, is_over, Leaves}
use Rattle.verifier_soundness.specs.Bounds.{most_steps}
use Rattle.verifier_soundness.proofs.Runs.{well_shaped, starts_fit}
use Rattle.verified_machine.specs.Tasks.{code_under, IsReady, Keeps, KeepsFrom, IsVerified, IsHeld, EndFits, LeavesFitting, rest_from, rest, outcome_in, ending_from, ending}
use Rattle.verified_machine.proofs.Resting.{taken_most, done_is, counted_none}

ended_so : (ticks left steps : ℕ) (w : World) (e : held.RunEnd) → w.ticks ≡ left → (next : Next) → next ≡ ended e w → (next ≡ Stuck → ⊥)
    → outcome_in ticks steps next ≡ Some (record { end = e; heap = w.store; ticks = ticks - left; steps = steps; reached = w.reached })
ended_so ticks left steps w (end.Result word) same next is stuck = ap (outcome_in ticks steps) is ∙ ap (λ n. Some (record { end = end.Result word; heap = w.store; ticks = ticks - n; steps = steps; reached = w.reached })) same
ended_so ticks left steps w (end.Thrown id place) same next is stuck = ap (outcome_in ticks steps) is ∙ ap (λ n. Some (record { end = end.Thrown id place; heap = w.store; ticks = ticks - n; steps = steps; reached = w.reached })) same
ended_so ticks left steps w (end.Limit which.Loop place) same next is stuck = ap (outcome_in ticks steps) is ∙ ap (λ n. Some (record { end = end.Limit which.Loop place; heap = w.store; ticks = ticks - n; steps = steps; reached = w.reached })) same
ended_so ticks left steps w (end.Limit which.Depth place) same next is stuck = ap (outcome_in ticks steps) is ∙ ap (λ n. Some (record { end = end.Limit which.Depth place; heap = w.store; ticks = ticks - n; steps = steps; reached = w.reached })) same
ended_so ticks left steps w (end.Limit which.Ticks place) same next is stuck = ap (outcome_in ticks steps) is ∙ ap (λ n. Some (record { end = end.Limit which.Ticks place; heap = w.store; ticks = ticks - n; steps = steps; reached = w.reached })) same
ended_so ticks left steps w (end.Limit which.Room place) same next is stuck = ap (outcome_in ticks steps) is ∙ ap (λ n. Some (record { end = end.Limit which.Room place; heap = w.store; ticks = ticks - n; steps = steps; reached = w.reached })) same
ended_so ticks left steps w end.Stuck same next is stuck = absurd (stuck is)

not_goes : (e : held.RunEnd) (w : World) (c : Config) → Goes c ≡ ended e w → ⊥
not_goes (end.Result word) w c e = cc
not_goes (end.Thrown id place) w c e = cc
not_goes (end.Limit limit place) w c e = cc
not_goes end.Stuck w c e = cc

not_stuck : (r : End (Option Word)) → Ends r ≡ Stuck → ⊥
not_stuck r e = cc

some_next : (n m : Next) → Some n ≡ Some m → n ≡ m
some_next n m e = cc

-- the world that an outcome has
abbrev world_left : RunOutcome → ℕ → World
world_left o left = record { store = o.heap; ticks = left; reached = o.reached }

leaves_from : (a : Activation) (o : RunOutcome) (now : Option Next) (left : ℕ) → KeepsFrom (codes_in a.executable) (limits_in a.executable a.limits) a.steps now → now ≡ Some (ended o.end (world_left o left))
    → o.ticks ≡ a.limits.ticks - left → o.steps ≡ a.steps → Some o ≡ ending_from a now
leaves_from a o None left k is ticks steps = cc
leaves_from a o (Some (Goes c)) left k is ticks steps = absurd (not_goes o.end (world_left o left) c (some_next (Goes c) (ended o.end (world_left o left)) is))
leaves_from a o (Some (Ends r)) left k is ticks steps =
    let counts = counted_none a.steps k.counts in
    let same : o.steps ≡ counted (a.steps + 0) = steps ∙ sym counts in
    let given = ended_so a.limits.ticks left (counted (a.steps + 0)) (world_left o left) o.end refl (Ends r) (some_next (Ends r) (ended o.end (world_left o left)) is) (not_stuck r) in
    let fields : Some o ≡ Some (record { end = o.end; heap = o.heap; ticks = a.limits.ticks - left; steps = counted (a.steps + 0); reached = o.reached }) =
    (λ i. Some (record { end = o.end; heap = o.heap; ticks = ticks i; steps = same i; reached = o.reached })) in
    fields ∙ sym given
leaves_from a o (Some Stuck) left k is ticks steps = absurd k.fits

none_is_over : (b : Bool) (n : ℕ) → b ≡ false → b ≡ (n == 0) → n ≡ 0 → ⊥
none_is_over b n e g z = false≢true (sym e ∙ g ∙ ap (λ n. n == 0) z)

-- what a run leaves once nothing is left is what it comes to
pub leaves_ending : (a : Activation) (o : Option RunOutcome) → IsVerified a → rest a ≡ 0 → Leaves a o → o ≡ ending a
leaves_ending a None k none l = absurd (none_is_over (is_over a.now) (rest a) l (done_is a k) none)
leaves_ending a (Some o) k none l = leaves_from a o a.now l.0 k l.1 l.2 l.3

-- ---- where a run begins

no_code : 0 < 0 → ⊥
no_code h = omega (arith, h)

begins : (script prelude : List FunCode) (limits : Limits) (args : List Word) (w : World) → AreWellShaped (codes_of script prelude) limits → AllHaveRows (codes_of script prelude) limits → kinds_of args ≡ main_params script
    → ReachesAllowed limits.ground.allowed w → Keeps (codes_of script prelude) limits 0 (start (codes_of script prelude) args w) × (false ≡ is_over (Some (start (codes_of script prelude) args w)))
begins [] prelude limits args w well rows params reached = absurd (no_code (well Script).some)
begins (f ∷ fs) prelude limits args w well rows params reached = (
  record { well = well; rows = rows; fits = starts_fit (codes_of (f ∷ fs) prelude) limits f args w well refl params reached; counts = omega arith },
  refl,
)

-- the code of both texts is well shaped, and has rows
wells_of : (e : Executable) (limits : configuration.Limits) → IsReady e → AreWellShaped (codes_in e) (limits_in e limits)
wells_of e limits ready Script = well_shaped (code_under e.script) (ready Script).0
wells_of e limits ready Prelude = well_shaped (code_under e.prelude) (ready Prelude).0

rows_of : (e : Executable) (limits : configuration.Limits) → HaveRows e.script.allow e.script.code.functions → HaveRows e.prelude.allow e.prelude.code.functions → AllHaveRows (codes_in e) (limits_in e limits)
rows_of e limits script prelude Script = script
rows_of e limits script prelude Prelude = prelude

-- where an activation begins
abbrev pub started : Executable → configuration.Limits → List Word → World → Activation
started e limits args w = record { executable = e; limits = limits; now = Some (start (codes_in e) args w); steps = 0 }

pub started_with : (held e : Executable) (limits : configuration.Limits) (args : List Word) (w : World) (a : Activation) → held ≡ e → a ≡ started held limits args w → a ≡ started e limits args w
started_with held e limits args w a same is = is ∙ ap (λ (e : Executable). started e limits args w) same

pub starts : (held e : Executable) (limits : configuration.Limits) (args : List Word) (w : World) (a : Activation) → held ≡ e → IsReady e → HaveRows e.prelude.allow e.prelude.code.functions
    → HaveRows e.script.allow e.script.code.functions → kinds_of args ≡ main_params e.script.code.functions → ReachesAllowed e.script.allow w → a ≡ started held limits args w → IsVerified a × IsHeld a × (false ≡ is_over a.now)
starts held e limits args w a same ready others rows params reached is =
    let x = begins e.script.code.functions e.prelude.code.functions (limits_in e limits) args w (wells_of e limits ready) (rows_of e limits rows others) params reached in
    subst (λ (a : Activation). IsVerified a × IsHeld a × (false ≡ is_over a.now)) (sym (started_with held e limits args w a same is)) (x.0, (λ text. (ready text).1), x.1)

-- no more is left where it begins than the bound
none_of : (n : ℕ) → 0 ≤ n
none_of n = omega arith

begins_bounded : (script prelude : List FunCode) (limits : Limits) (args : List Word) (w : World)
    → rest_from (codes_of script prelude) limits (Some (start (codes_of script prelude) args w)) ≤ most_steps (codes_of script prelude) limits w.ticks
begins_bounded [] prelude limits args w = none_of (most_steps (codes_of [] prelude) limits w.ticks)
begins_bounded (f ∷ fs) prelude limits args w = taken_most (codes_of (f ∷ fs) prelude) limits (most_steps (codes_of (f ∷ fs) prelude) limits w.ticks) (start (codes_of (f ∷ fs) prelude) args w)

pub starts_bounded : (held e : Executable) (limits : configuration.Limits) (args : List Word) (w : World) (a : Activation) → held ≡ e → a ≡ started held limits args w
    → rest a ≤ most_steps (codes_in e) (limits_in e limits) w.ticks
starts_bounded held e limits args w a same is =
    subst (λ (a : Activation). rest a ≤ most_steps (codes_in e) (limits_in e limits) w.ticks) (sym (started_with held e limits args w a same is))
    (begins_bounded e.script.code.functions e.prelude.code.functions (limits_in e limits) args w)

-- ---- how it ends

end_fits : (codes : Codes) (limits : Limits) (e : held.RunEnd) (w : World) → FitsNext codes limits (ended e w) → EndFits codes.script e × ReachesAllowed limits.ground.allowed w
end_fits codes limits (end.Result result) w fits = fits
end_fits codes limits (end.Thrown id place) w fits = (tt, fits)
end_fits codes limits (end.Limit limit place) w fits = (tt, fits)
end_fits codes limits end.Stuck w fits = absurd fits

ends_fitting : (codes : Codes) (limits : Limits) (steps : ℕ) (e : held.RunEnd) (w : World) (now : Option Next) → now ≡ Some (ended e w) → KeepsFrom codes limits steps now
    → EndFits codes.script e × ReachesAllowed limits.ground.allowed w
ends_fitting codes limits steps e w now is k =
    let keeps : Keeps codes limits steps (ended e w) = subst (KeepsFrom codes limits steps) is k in
    end_fits codes limits e w keeps.fits

pub leaves_fitting : (a : Activation) (o : Option RunOutcome) → IsVerified a → Leaves a o → IfSome o (LeavesFitting a)
leaves_fitting a None k l = tt
leaves_fitting a (Some o) k l =
    let x = ends_fitting (codes_in a.executable) (limits_in a.executable a.limits) a.steps o.end (world_left o l.0) a.now l.1 k in
    record { end = x.0; reached = x.1 }
