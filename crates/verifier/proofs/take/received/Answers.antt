use Rattle.std.specs.Prelude.{[], ◌∷◌}
use Rattle.pl_code.specs.declared.kinds.Slot.TheVariants.{R}
use Rattle.instruction_types.specs.Members.{argument_kinds}
use Rattle.verifier.proofs.Takings.{taken_then, taken_not}
use Rattle.verifier.proofs.take.received.Goals as goal

pub returns-then-not-arguments-clause-stack : goal.returns-then-not-arguments-clause-stack
returns-then-not-arguments-clause-stack c = taken_not (argument_kinds c.args.params.now) (R ∷ []) c.args.table.now.stack c.if-not-arguments.ensures.stack

pub returns-clause-stack : goal.returns-clause-stack
returns-clause-stack c =
    taken_then (argument_kinds c.args.params.now) (R ∷ []) c.args.table.now.stack c.arguments.new.table.stack c.one.new.table.stack c.one.result c.if-not-arguments.ensures.stack c.one.ensures.stack
