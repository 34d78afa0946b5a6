-- What a run leaves fits, where it stood in a moment that fits.
use Rattle.std.proofs.Common.{ℕ, List, Option, Some, None, subst}
use Rattle.std.specs.Prelude.{IfSome, option_map}
use Rattle.object_values.specs.declared.object.Object.{Object}
use Rattle.object_heap.specs.Fits.{Rules}
use Rattle.object_heap.specs.Store.{Store}
use Rattle.code_meaning.specs.Machine.{Next, after}
use Rattle.machine_paths.specs.CodeRules.{rules_of_codes}
use Rattle.machine_paths.specs.Moments.{NextFits}
use Rattle.machine_paths.proofs.Steps.{runs_fit}
use Rattle.machine.specs.Activations.{Activation, Leaves}
use Rattle.machine.specs.Fitting.{NowFits, EndFits, LeavesFit}
use Rattle.machine.specs.Laws.{TurnsFit}
use Rattle.machine.specs.Seen.{ended, codes_in, limits_in}
use Rattle.machine.specs.declared.activation.RunOutcome.{RunOutcome}
use Rattle.machine.specs.declared.configuration.RunEnd.{RunEnd}
use Rattle.machine.specs.declared.configuration.RunEnd.TheVariants as end

-- in a world of the same store and members, however many ticks are left
end_fits : (rules : Rules) (before : List Object) (heap : Store) (ticks : ℕ) (reached : List ℕ) (e : RunEnd)
    → NextFits rules before (ended e (record { store = heap; ticks = ticks; reached = reached })) → EndFits rules before (record { store = heap; ticks = 0; reached = reached }) e
end_fits rules before heap ticks reached (end.Result result) h = (record { fits = h.0.fits; there = h.0.there }, h.1)
end_fits rules before heap ticks reached (end.Thrown id place) h = (record { fits = h.0.fits; there = h.0.there }, h.1)
end_fits rules before heap ticks reached (end.Limit limit place) h = record { fits = h.fits; there = h.there }
end_fits rules before heap ticks reached end.Stuck h = tt

-- the rules of what is run
abbrev rules_in : Activation → Rules
rules_in a = rules_of_codes (codes_in a.executable)

pub left_fits : (a : Activation) (o : Option RunOutcome) → Leaves a o → (before : List Object) → NowFits (rules_of_codes (codes_in a.executable)) before a.now → IfSome o (LeavesFit (rules_of_codes (codes_in a.executable)) before)
left_fits a None l before h = tt
left_fits a (Some o) l before h = end_fits (rules_in a) before o.heap l.0 o.reached o.end (subst (NowFits (rules_in a) before) l.1 h)

-- a turn keeps it
pub later_fits : TurnsFit
later_fits before q a h = now_fits a.now h where
  now_fits : (now : Option Next) → NowFits (rules_in a) before now → NowFits (rules_in a) before (option_map (after (codes_in a.executable) (limits_in a.executable a.limits) q) now)
  now_fits None f = tt
  now_fits (Some next) f = runs_fit before (codes_in a.executable) (limits_in a.executable a.limits) q next f
