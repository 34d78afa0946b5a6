use Rattle.std.proofs.Common.{ℕ, Option, None, length, sym, ap, ◌∙◌}
use Rattle.std.proofs.lemmas.Bool.{eqb-true}
use Rattle.allowlist.specs.Allow.{AllowList}
use Rattle.allowlist.specs.Files.{lines_of, read_lines, allowlist_of}
use Rattle.allowlist.proofs.Splitting.{reads_step, reads_error, reads_end}
use Rattle.allowlist.proofs.allow.Allow.read.Goals as goal

pub loop-rest-init : goal.loop-rest-init
unfolding allowlist_of
loop-rest-init c = ap (λ (a : AllowList). read_lines 1 (record { inside = None; allow = a }) (lines_of c.args.bytes.now)) (sym c.in_ok-allow.ensures)

pub returns-in-Err : goal.returns-in-Err
returns-in-Err c = reads_error (λ (i : Option ℕ). record { inside = i; allow = c.read_line.new.allow }) c.in-Err.fault c.loop-rest.number (record { inside = c.loop-rest.inside; allow = c.loop-rest.allow }) c.loop-rest.rest.now c.first_line-line.result.now c.past_line-after.result.now c.is_empty-in-loop-rest.result _ c.is_empty-in-loop-rest.ensures c.first_line-line.ensures c.past_line-after.ensures (sym c.is_empty.ensures ∙ c.loop-rest-test.true) c.loop-rest.invariant c.in-Err.ensures

pub loop-rest-preserved : goal.loop-rest-preserved
loop-rest-preserved c = c.loop-rest.invariant ∙ reads_step c.loop-rest.number c.saturating_add-number.result (record { inside = c.loop-rest.inside; allow = c.loop-rest.allow }) (record { inside = c.in-Ok.class; allow = c.read_line.new.allow }) c.loop-rest.rest.now c.first_line-line.result.now c.past_line-after.result.now c.is_empty-in-loop-rest.result c.is_empty-in-loop-rest.ensures c.first_line-line.ensures c.past_line-after.ensures (sym c.is_empty.ensures ∙ c.loop-rest-test.true) c.saturating_add-number.ensures c.in-Ok.ensures

pub returns : goal.returns
returns c = c.loop-rest.invariant ∙ reads_end c.loop-rest.number (record { inside = c.loop-rest.inside; allow = c.loop-rest.allow }) c.loop-rest.rest.now (eqb-true (length c.loop-rest.rest.now) 0 (sym c.is_empty.ensures ∙ c.loop-rest-test.false))
