use Rattle.std.proofs.Common.{ℕ, length, ap, subst, sym, ◌∙◌}
use Rattle.metric_ctx.specs.Order.{IsOrder}
use Rattle.metric_ctx_tests.proofs.orders.run.Goals as goal

pub run-requires-clause-entries : goal.run-requires-clause-entries
run-requires-clause-entries c = subst (λ (n : ℕ). IsOrder n c.args.order.now) (sym (ap length c.new-shards.ensures ∙ c.in_ok-tasks.ensures)) c.requires.entries
