use Rattle.std.proofs.Common.{ap, sym, ◌∙◌, refl, length}
use Rattle.std.proofs.lemmas.Bool.{false≢true}
use Rattle.verifier.specs.Faults.{traps_fault}
use Rattle.verifier.proofs.Counting.{no_instruction, at_trap, at_instruction, nowhere}
use Rattle.verifier.proofs.functions.function_fault.Goals as goal

pub returns-then-is_empty-clause-fault : goal.returns-then-is_empty-clause-fault
returns-then-is_empty-clause-fault c = no_instruction c.args.allow.now c.args.functions.now c.args.function.now c.args.first (c.if-is_empty.ensures.0 refl)

pub returns-in-Some-clause-fault : goal.returns-in-Some-clause-fault
returns-in-Some-clause-fault c =
    at_trap c.args.allow.now c.args.functions.now c.args.function.now c.args.first c.behind-next.result c.behind.result c.in-Some.at c.in-Some.kind (λ e. false≢true (c.if-is_empty.ensures.1 e))
    (sym c.in-Some.is ∙ c.traps_fault.ensures ∙ (λ i. traps_fault (c.len.ensures i) 0 (c.as_slice-traps.ensures i))) c.behind-next.ensures c.behind.ensures

pub returns-in-Some-2-clause-fault : goal.returns-in-Some-2-clause-fault
returns-in-Some-2-clause-fault c =
    at_instruction c.args.allow.now c.args.functions.now c.args.function.now c.args.first c.behind-next.result c.behind-later.result c.behind-in-Some-2.result c.in-Some-2.at (length c.as_slice-traps.result.now) c.in-Some-2.kind (λ e. false≢true (c.if-is_empty.ensures.1 e))
    (sym c.in-None.is ∙ c.traps_fault.ensures ∙ (λ i. traps_fault (c.len.ensures i) 0 (c.as_slice-traps.ensures i))) (sym c.in-Some-2.is ∙ c.in_ok-at-in-None.ensures.fault)
    (ap length c.as_slice-traps.ensures) c.behind-next.ensures c.behind-later.ensures c.behind-in-Some-2.ensures

pub returns-in-None-2-clause-fault : goal.returns-in-None-2-clause-fault
returns-in-None-2-clause-fault c n is =
    nowhere c.args.allow.now c.args.functions.now c.args.function.now (λ e. false≢true (c.if-is_empty.ensures.1 e))
    (sym c.in-None.is ∙ c.traps_fault.ensures ∙ (λ i. traps_fault (c.len.ensures i) 0 (c.as_slice-traps.ensures i))) (sym c.in-None-2.is ∙ c.in_ok-at-in-None.ensures.fault) n
