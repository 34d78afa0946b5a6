use Rattle.std.proofs.Common.{arith}
use Rattle.verifier.proofs.Takings.{arguments_yet, one_argument, no_arguments, one_goes, one_fails, all_gone}
use Rattle.verifier.proofs.take.arguments.Goals as goal

pub loop-done-init : goal.loop-done-init
loop-done-init c = arguments_yet c.args.params.now c.args.table.now

pub returns-then-not-one-clause-stack : goal.returns-then-not-one-clause-stack
returns-then-not-one-clause-stack c =
    one_fails _ _ _ c.kind_of_type-kind.result _ _ c.loop-done.invariant (one_argument c.args.params.now c.loop-done.done _ _ c.index-params-params.is c.kind_of_type-kind.ensures (omega arith)) c.if-not-one.ensures.stack

pub loop-done-preserved : goal.loop-done-preserved
loop-done-preserved c =
    one_goes _ _ _ c.kind_of_type-kind.result _ _ _ c.loop-done.invariant (one_argument c.args.params.now c.loop-done.done _ _ c.index-params-params.is c.kind_of_type-kind.ensures (omega arith)) c.if-not-one.ensures.stack c.if-not-one.ensures.lines

pub returns-clause-stack : goal.returns-clause-stack
returns-clause-stack c = all_gone _ _ _ _ c.loop-done.invariant (no_arguments c.args.params.now c.loop-done.done (omega arith))
