use Rattle.std.proofs.Common.{List, ◌∷◌, ap, ◌∙◌, subst}
use Rattle.pl_code.specs.declared.kinds.Slot.TheVariants.{R}
use Rattle.pl_code.specs.declared.code.Trap.{Trap}
use Rattle.pl_code.specs.declared.code.Instruction.{Instruction}
use Rattle.verifier.specs.Acts.{Caught, Turned}
use Rattle.verifier.proofs.Passing.{begins, first_led}
use Rattle.verifier.proofs.pass.begin.Goals as goal

pub returns : goal.returns
returns c =
    let f = c.args.function.now in
    let b = c.merge_into.new.table in
    let first = first_led f c.len.result c.in_ok-table.table b c.in_ok-table.ensures c.len.ensures c.merge_into.ensures in
    begins f c.in_ok-table.table b c.put.new.self c.catch.new.table c.clear.new.self c.turn.new.table first.0 first.1 first.2
    (c.in_ok-put.ensures ∙ ap (λ ks. record { stack = R ∷ ks; lines = b.lines }) first.3)
    (subst (λ (traps : List Trap). Caught traps c.put.new.self c.catch.new.table) c.as_slice.ensures c.catch.ensures)
    c.clear.ensures
    (subst (λ (lines : List Instruction). Turned lines c.clear.new.self c.turn.new.table) c.as_slice-2.ensures c.turn.ensures)
