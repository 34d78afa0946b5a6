use Rattle.std.proofs.Common.{arith, subst, sym, ◌∙◌}
use Rattle.std.proofs.lemmas.List.{take_all}
use Rattle.task_core.specs.Order.{Went}
use Rattle.task_core.proofs.RanLemmas.{entry_within, gives_entry, rounds_begin, rounds_on, rounds_end}
use Rattle.task_core.proofs.order.run_order.Goals as goal

pub give_turn-requires-clause-within : goal.give_turn-requires-clause-within
give_turn-requires-clause-within g c = omega (arith, entry_within _ _ c.entries.entry-index c.requires.entries c.entries-test.true, c.entries.auto.tasks)

pub entries-preserved : goal.entries-preserved
entries-preserved g c = gives_entry _ _ _ _ _ _ _ _ c.entries-test.true c.entries.invariant c.in_ok-give_turn.ensures

pub rounds-init : goal.rounds-init
rounds-init g c = rounds_begin _ _ _ _ _ _ (subst (λ l. Went g.T.Task.rest g.T.Task.ending c.args.q l c.args.tasks.now c.entries.tasks) (take_all c.entries.entry-index c.args.order.now c.entries-test.false) c.entries.invariant)

pub rounds-smaller : goal.rounds-smaller
rounds-smaller g c = (rounds_on g.T.Task.rest g.T.Task.ending c.args.q c.args.order.now c.args.tasks.now c.rounds.tasks c.give_round.new.tasks c.requires.slice (c.rounds.auto.tasks ∙ c.entries.auto.tasks) (sym c.is_over.ensures ∙ c.rounds-test.true) c.rounds.invariant c.in_ok-give_round.ensures).1

pub rounds-preserved : goal.rounds-preserved
rounds-preserved g c = (rounds_on g.T.Task.rest g.T.Task.ending c.args.q c.args.order.now c.args.tasks.now c.rounds.tasks c.give_round.new.tasks c.requires.slice (c.rounds.auto.tasks ∙ c.entries.auto.tasks) (sym c.is_over.ensures ∙ c.rounds-test.true) c.rounds.invariant c.in_ok-give_round.ensures).0

pub returns-clause-ordered : goal.returns-clause-ordered
returns-clause-ordered g c = (rounds_end _ _ _ _ _ _ (sym c.is_over.ensures ∙ c.rounds-test.false) c.rounds.invariant).0

pub returns-clause-ended : goal.returns-clause-ended
returns-clause-ended g c = (rounds_end _ _ _ _ _ _ (sym c.is_over.ensures ∙ c.rounds-test.false) c.rounds.invariant).1
