-- What a run of verified code leaves fits by the rules of the codes, where it stood in a moment that fits.
use Rattle.std.proofs.Common.{◌≡◌, ℕ, List, Option, Some, None, subst}
use Rattle.std.specs.Prelude.{IfSome}
use Rattle.object_values.specs.declared.object.Object.{Object}
use Rattle.object_heap.specs.Fits.{Rules}
use Rattle.run_state.specs.World.{End, Result, Uncaught, Limited}
use Rattle.code_meaning.specs.declared.word.Word.{Word}
use Rattle.code_meaning.specs.Machine.{Next, Goes, Ends, Stuck}
use Rattle.machine.specs.CodeRules.{rules_of_codes}
use Rattle.machine.specs.Moments.{NextFits}
use Rattle.machine.proofs.Steps.{runs_fit}
use Rattle.machine.specs.Activations.{Activation}
use Rattle.machine.specs.Fitting.{NowFits, LeavesFit}
use Rattle.machine.specs.Seen.{codes_in, limits_in}
use Rattle.machine.specs.declared.activation.RunOutcome.{RunOutcome}
use Rattle.verified_machine.specs.Tasks.{outcome_of, outcome_in, ending_from, ending, most_left}

end_fits : (rules : Rules) (before : List Object) (ticks steps : ℕ) (e : End (Option Word)) → NextFits rules before (Ends e) → LeavesFit rules before (outcome_of ticks steps e)
end_fits rules before ticks steps (Result result w) h = (record { fits = h.0.fits; there = h.0.there }, h.1)
end_fits rules before ticks steps (Uncaught id place w) h = (record { fits = h.0.fits; there = h.0.there }, h.1)
end_fits rules before ticks steps (Limited limit place w) h = record { fits = h.fits; there = h.there }

outcome_fits : (rules : Rules) (before : List Object) (ticks steps : ℕ) (n : Next) → NextFits rules before n → IfSome (outcome_in ticks steps n) (LeavesFit rules before)
outcome_fits rules before ticks steps (Goes c) h = tt
outcome_fits rules before ticks steps (Ends e) h = end_fits rules before ticks steps e h
outcome_fits rules before ticks steps Stuck h = tt

-- by the rules of the codes that an activation runs
abbrev rules_in : Activation → Rules
rules_in a = rules_of_codes (codes_in a.executable)

from_fits : (a : Activation) (now : Option Next) (before : List Object) → NowFits (rules_in a) before now → IfSome (ending_from a now) (LeavesFit (rules_in a) before)
from_fits a None before h = tt
from_fits a (Some n) before h =
    outcome_fits (rules_in a) before a.limits.ticks _ _
    (runs_fit before (codes_in a.executable) (limits_in a.executable a.limits) (most_left (codes_in a.executable) (limits_in a.executable a.limits) n) n h)

-- what a run comes to alone
pub ending_fits : (a : Activation) (o : RunOutcome) → ending a ≡ Some o → (before : List Object) → NowFits (rules_of_codes (codes_in a.executable)) before a.now → LeavesFit (rules_of_codes (codes_in a.executable)) before o
ending_fits a o is before h = subst (λ (x : Option RunOutcome). IfSome x (LeavesFit (rules_in a) before)) is (from_fits a a.now before h)

-- said of the run that is seen
pub left_under : (held seen : Activation) (o : Option RunOutcome) → held ≡ seen
    → ((before : List Object) → NowFits (rules_of_codes (codes_in held.executable)) before held.now → IfSome o (LeavesFit (rules_of_codes (codes_in held.executable)) before))
    → (before : List Object) → NowFits (rules_of_codes (codes_in seen.executable)) before seen.now → IfSome o (LeavesFit (rules_of_codes (codes_in seen.executable)) before)
left_under held seen o same fits = subst (λ (a : Activation). (before : List Object) → NowFits (rules_in a) before a.now → IfSome o (LeavesFit (rules_in a) before)) same fits
