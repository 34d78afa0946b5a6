-- Runs that are taken to their ends.
use Rattle.std.specs.List.{list_all}
use Rattle.std.proofs.Common.{◌≡◌, ℕ, ◌+◌, true, Option, Some, None, IsTrue, sym, ap, subst, ◌∙◌}
use Rattle.std.specs.Prelude.{option_map}
use Rattle.allowlist.specs.Allow.{flag}
use Rattle.code_meaning.specs.Machine.{after}
use Rattle.machine.proofs.Turning.{adds}
use Rattle.machine.specs.Activations.{Activation, Leaves, Turned, is_over, later}
use Rattle.machine.specs.Seen.{Executable, codes_in, limits_in}
use Rattle.machine.specs.declared.activation.RunOutcome.{RunOutcome}
use Rattle.task_core.specs.declared.task.Turn.TheVariants as turn
use Rattle.task_core.specs.Turns.{Turns}
use Rattle.verified_machine.specs.Tasks.{EndFits, LeavesFitting, OnlySpares, SparesMemory, ending, rest}

-- where no instruction takes memory, the next ones do not
pub only : (q : ℕ) (a : Activation) → SparesMemory a → OnlySpares q a
only q a s = record { next = s.next; stands = s.stands; fits = s.fits; spares = λ k c less is. s.spares k c is }

-- nor do those behind a turn
pub spares_on : (q : ℕ) (a new : Activation) → new ≡ later q a → SparesMemory a → SparesMemory new
spares_on q a new is s =
    let codes = codes_in a.executable in
    let limits = limits_in a.executable a.limits in
    subst SparesMemory (sym is)
    (record {
      next = after codes limits q s.next;
      stands = ap (option_map (after codes limits q)) s.stands;
      fits = s.fits;
      spares = λ k c leads. s.spares (q + k) c (adds codes limits q k s.next ∙ leads);
    })

-- A turn behind which the run goes on.
module _ (q : ℕ) (old new : Activation) (turned : Turned q old new turn.More) (turns : Turns rest ending q old new turn.More) where
  pub ends_alike : ending new ≡ ending old
  ends_alike = turns.0.kept

  pub executable_alike : new.executable ≡ old.executable
  executable_alike = ap (λ (a : Activation). a.executable) turned.0

-- what an activation leaves that is over
pub left_by : (a : Activation) (o : Option RunOutcome) → IsTrue (is_over a.now) → Leaves a o → o ≡ None → ⊥
left_by a (Some left) over leaves none = absurd (cc)
left_by a None over leaves none = absurd (cc (over, leaves))

pub fits_still : (old new : Activation) (o : RunOutcome) → new.executable ≡ old.executable → LeavesFitting new o → LeavesFitting old o
fits_still old new o same fits = record {
  end = subst (λ (e : Executable). EndFits e.script.code.functions o.end) same fits.end;
  reached = subst (λ (e : Executable). list_all (flag e.script.allow.members) o.reached ≡ true) same fits.reached;
}
