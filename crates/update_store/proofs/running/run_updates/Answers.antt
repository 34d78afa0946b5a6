use Rattle.std.proofs.Common.{map, take_at, ap, ◌∙◌}
use Rattle.serde_json.specs.View.{view}
use Rattle.update_store.specs.Updates.{numbered, replies_of}
use Rattle.update_store.proofs.RunLemmas.{has_updated, is_serial, ok_as, ok_on}
use Rattle.update_store.proofs.running.run_updates.Goals as goal

pub returns-clause-updated : goal.returns-clause-updated
returns-clause-updated g c = λ m h.
    ok_as c.replies_of.result
    (λ replies told. has_updated _ _ m c.args.order.now (numbered 0 c.args.clients.items) c.deref_mut.result.now c.run_order_with.new.tasks c.args.store.now c.run_order_with.new.shared c.args.runner.now c.run_order_with.new.runner
    (map view replies.items) h (c.deref_mut.ensures.value ∙ c.in_ok-tasks.ensures) c.in_ok-run_order_with.ensures
    (told ∙ ap replies_of (take_at c.run_order_with.new.tasks _ c.in_ok-tasks.tasks.len (c.run_order_with.auto.tasks ∙ c.deref_mut.ensures.len))))
    c.replies_of.ensures

pub returns-clause-serial : goal.returns-clause-serial
returns-clause-serial g c = λ m h.
    ok_on c.replies_of.result
    (is_serial _ _ m c.args.order.now c.args.clients.items c.deref_mut.result.now c.run_order_with.new.tasks c.args.store.now c.run_order_with.new.shared c.args.runner.now c.run_order_with.new.runner h
    (c.deref_mut.ensures.value ∙ c.in_ok-tasks.ensures) c.in_ok-run_order_with.ensures)
