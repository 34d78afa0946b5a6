-- Activations that have ended.
use Rattle.std.proofs.Common.{◌≡◌, ℕ, ◌+◌, ◌^◌, ◌<◌, false, Option, Some, IsTrue, refl, sym, ap, subst, ◌∙◌, arith}
use Rattle.run_state.specs.World.{World}
use Rattle.code_meaning.specs.Machine.{Next, after}
use Rattle.machine.specs.declared.configuration.Configuration.{Configuration}
use Rattle.machine.specs.declared.configuration.Limits.{Limits}
use Rattle.machine.specs.declared.configuration.RunEnd.{RunEnd}
use Rattle.machine.specs.declared.configuration.RunEnd.TheVariants as end
use Rattle.machine.specs.declared.configuration.Step.{Step}
use Rattle.machine.specs.declared.configuration.Step.TheVariants as said
use Rattle.task_core.specs.declared.task.Turn.TheVariants as turn
use Rattle.machine.specs.Seen.{Executable, codes_in, limits_in, world_of, ended, end_in, goes}
use Rattle.machine.specs.Activations.{Activation, now_of, counted, later, is_over, turn_of, Turned}
use Rattle.machine.proofs.Reaching.{stays, none_taken}

over : (e : RunEnd) (w : World) → IsTrue (is_over (Some (ended e w)))
over (end.Result word) w = refl
over (end.Thrown id place) w = refl
over (end.Limit which place) w = refl
over end.Stuck w = refl

not_more : (steps : ℕ) → steps < 2 ^ 64 → steps ≡ counted (steps + 0)
not_more steps h = omega (arith)

at_end : (executable : Executable) (limits : Limits) (q : ℕ) (e : RunEnd) (w : World) (steps : ℕ) → steps < 2 ^ 64
    → (a : Activation) → a ≡ record { executable = executable; limits = limits; now = Some (ended e w); steps = steps } → Turned q a a turn.Done
at_end executable limits q e w steps fits a is =
    let at : ℕ → Option Next → Activation = λ n now. record { executable = executable; limits = limits; now = now; steps = n } in
    let same : at steps (Some (ended e w)) ≡ later q (at steps (Some (ended e w))) =
    ap (λ n. at steps (Some n)) (sym (stays (codes_in executable) (limits_in executable limits) q e w))
    ∙ ap (λ n. at n (Some (after (codes_in executable) (limits_in executable limits) q (ended e w)))) (not_more steps fits ∙ ap (λ k. counted (steps + k)) (sym (none_taken (codes_in executable) (limits_in executable limits) q e w))) in
    subst (λ a. Turned q a a turn.Done) (sym is) (same, over e w)

-- more instructions leave it as it is
pub still : (executable : Executable) (limits : Limits) (q : ℕ) (c : Configuration) (last : Step) (steps : ℕ) → goes last ≡ false → steps < 2 ^ 64
    → (a : Activation) → a ≡ record { executable = executable; limits = limits; now = now_of last c; steps = steps } → Turned q a a (turn_of last)
still executable limits q c said.Goes steps none fits a is = absurd (cc)
still executable limits q c said.NoMemory steps none fits a is = subst (λ a. Turned q a a (turn_of said.NoMemory)) (sym is) refl
still executable limits q c said.Ends steps none fits a is = at_end executable limits q c.end (world_of c.world) steps fits a is
still executable limits q c said.Stuck steps none fits a is = at_end executable limits q end.Stuck (world_of c.world) steps fits a is

-- where a run has ended, it stands there
pub left_by : (last : Step) (c : Configuration) (e : RunEnd) → Some e ≡ end_in last c.end → now_of last c ≡ Some (ended e (world_of c.world))
left_by said.Goes c e h = absurd (cc)
left_by said.Ends c e h =
    let same : c.end ≡ e = cc in
    ap (λ e. Some (ended e (world_of c.world))) same
left_by said.Stuck c e h =
    let same : end.Stuck ≡ e = cc in
    ap (λ e. Some (ended e (world_of c.world))) same
left_by said.NoMemory c e h = absurd (cc)
