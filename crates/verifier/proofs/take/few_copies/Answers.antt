use Rattle.std.proofs.Common.{◌≡◌, ◌-◌, ap, ◌∙◌, arith}
use Rattle.std.specs.Prelude.{replicate}
use Rattle.verifier.proofs.Takings.{copies_yet, one_copy, one_goes, one_fails, all_gone}
use Rattle.verifier.proofs.take.few_copies.Goals as goal

pub loop-done-init : goal.loop-done-init
loop-done-init c = copies_yet c.args.number c.args.kind c.args.table.now

pub returns-then-not-one-clause-stack : goal.returns-then-not-one-clause-stack
returns-then-not-one-clause-stack c = one_fails _ _ _ c.args.kind _ _ c.loop-done.invariant (one_copy c.args.number c.loop-done.done c.args.kind (omega arith)) c.if-not-one.ensures.stack

pub returns-then-not-one-clause-lines : goal.returns-then-not-one-clause-lines
returns-then-not-one-clause-lines c = c.if-not-one.ensures.lines ∙ c.loop-done.invariant.lines

pub loop-done-preserved : goal.loop-done-preserved
loop-done-preserved c =
    one_goes _ _ _ c.args.kind _ _ _ c.loop-done.invariant (one_copy c.args.number c.loop-done.done c.args.kind (omega arith)) c.if-not-one.ensures.stack c.if-not-one.ensures.lines

pub returns-clause-stack : goal.returns-clause-stack
returns-clause-stack c = all_gone _ _ _ _ c.loop-done.invariant (let z : c.args.number - c.loop-done.done ≡ 0 = omega arith in ap (λ n. replicate n c.args.kind) z)
