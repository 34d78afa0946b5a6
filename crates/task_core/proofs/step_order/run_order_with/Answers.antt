use Rattle.std.proofs.Common.{List, ℕ, subst, sym, ◌∙◌}
use Rattle.std.proofs.lemmas.List.{take_all}
use Rattle.task_core.specs.Steps.{HaveTurns, over}
use Rattle.task_core.proofs.StepLemmas.{gives_entry, rounds_begin, rounds_on, rounds_end, round_lowers}
use Rattle.task_core.proofs.step_order.run_order_with.Goals as goal

pub entries-preserved : goal.entries-preserved
entries-preserved g c = gives_entry _ _ _ _ _ _ _ c.entries-test.true c.entries.invariant c.in_ok-give_step.ensures

pub rounds-init : goal.rounds-init
rounds-init g c =
    rounds_begin _ _ _ _ _
    (subst (λ (l : List ℕ). HaveTurns g.T.Step.rest g.T.Step.step l (over c.args.tasks.now c.args.shared.now c.args.runner.now) (over c.entries.tasks c.entries.shared c.entries.runner))
    (take_all c.entries.entry-index c.args.order.now c.entries-test.false) c.entries.invariant)

pub rounds-smaller : goal.rounds-smaller
rounds-smaller g c = round_lowers _ _ _ _ (sym c.are_done.ensures ∙ c.rounds-test.true) c.in_ok-give_steps.ensures

pub rounds-preserved : goal.rounds-preserved
rounds-preserved g c = rounds_on _ _ _ _ _ _ (c.rounds.auto.tasks ∙ c.entries.auto.tasks) c.rounds.invariant c.in_ok-give_steps.ensures

pub returns : goal.returns
returns g c = rounds_end _ _ _ _ _ (sym c.are_done.ensures ∙ c.rounds-test.false) c.rounds.invariant
