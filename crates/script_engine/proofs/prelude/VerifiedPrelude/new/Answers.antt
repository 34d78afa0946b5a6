-- The prelude's code breaks nowhere, has rows, and is that of the text.
use Rattle.std.proofs.Common.{sym, subst, ◌∙◌}
use Rattle.verified_machine.specs.Faults.{shape_fault}
use Rattle.verified_machine.specs.Rows.{HaveRows}
use Rattle.verified_machine.specs.Verified.{CodeUnder}
use Rattle.script_engine.proofs.Beside.{prelude_is, prelude_rows, prelude_sound}
use Rattle.script_engine.proofs.prelude.VerifiedPrelude.new.Goals as goal

pub verified_code-requires : goal.verified_code-requires
verified_code-requires c = (λ i. shape_fault (c.in_ok-allow.ensures i) (c.in_ok-code.ensures i)) ∙ prelude_sound

pub new-requires : goal.new-requires
new-requires c =
    subst (λ (v : CodeUnder). HaveRows v.allow v.code.functions) (sym (c.in_ok-verified.ensures ∙ (λ i. record { code = c.in_ok-code.ensures i; allow = c.in_ok-allow.ensures i })))
    (prelude_rows c.programs_run.ensures.rows)

pub invariant_of-result : goal.invariant_of-result
invariant_of-result c =
    prelude_is c.in_ok-new.field-0.text c.in_ok-verified.verified c.in_ok-code.code c.in_ok-allow.allow c.in_ok-new.ensures c.in_ok-verified.ensures c.in_ok-code.ensures c.in_ok-allow.ensures

pub returns : goal.returns
returns c =
    prelude_is c.in_ok-new.field-0.text c.in_ok-verified.verified c.in_ok-code.code c.in_ok-allow.allow c.in_ok-new.ensures c.in_ok-verified.ensures c.in_ok-code.ensures c.in_ok-allow.ensures
