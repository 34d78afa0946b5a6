use Rattle.std.proofs.Common.{◌*◌, ◌/◌, ◌%◌, ap, ◌∙◌}
use Rattle.std.specs.Prelude.{replicate}
use Rattle.instruction_types.specs.Effects.{taken}
use Rattle.verifier.proofs.Takings.{taken_then, taken_not, copies_cut}
use Rattle.verifier.proofs.take.copies.Goals as goal

pub returns-then-not-window_copies-clause-stack : goal.returns-then-not-window_copies-clause-stack
returns-then-not-window_copies-clause-stack c =
    taken_not (replicate (31 * (c.args.number / 31)) c.args.kind) (replicate (c.args.number % 31) c.args.kind) c.args.table.now.stack c.if-not-window_copies.ensures.stack
    ∙ ap (λ ks. taken ks c.args.table.now.stack) (copies_cut c.args.number c.args.kind)

pub returns-clause-stack : goal.returns-clause-stack
returns-clause-stack c =
    taken_then (replicate (31 * (c.args.number / 31)) c.args.kind) (replicate (c.args.number % 31) c.args.kind) c.args.table.now.stack c.window_copies.new.table.stack c.few_copies.new.table.stack c.few_copies.result
    c.if-not-window_copies.ensures.stack c.few_copies.ensures.stack
    ∙ ap (λ ks. taken ks c.args.table.now.stack) (copies_cut c.args.number c.args.kind)
