use Rattle.std.proofs.Common.{◌≡◌, ◌+◌, ◌&&◌, true, false, ltb, length, sym, ◌∙◌, subst}
use Rattle.std.specs.Prelude.{not}
use Rattle.instruction_types.specs.Effects.{flow_of}
use Rattle.verifier.specs.Meets.{goes_to, left_at}
use Rattle.verifier.specs.Faults.{falls}
use Rattle.verifier.specs.Acts.{Does, MergesInto, at_line}
use Rattle.verifier.proofs.Lines.{passes_on, no_fault}
use Rattle.verifier.proofs.line.instruction_fault.Goals as goal

pub returns : goal.returns
returns c =
    let allow = c.args.allow.now in
    let functions = c.args.functions.now in
    let f = c.args.function.now in
    let i = c.args.instruction.now in
    let old = c.args.table.now in
    let mid = c.leave.new.table in
    let left = left_at allow functions f i (at_line old c.args.line) in
    let does : Does old mid true left = subst (λ fits. Does old mid fits left) c.if-not-branch.false c.in_ok-leave.ensures in
    let leads : MergesInto mid c.merge_into_successors.new.table (goes_to (flow_of i) c.args.line) = subst (λ way. MergesInto mid c.merge_into_successors.new.table (goes_to way c.args.line)) c.flow_of-flow.ensures c.merge_into_successors.ensures in
    let last : (falls (flow_of i) && not (ltb (c.args.line + 1) (length f.lines))) ≡ false =
    (λ k. falls (sym c.flow_of-flow.ensures k) && not (ltb (c.args.line + 1) (sym c.len-count.ensures k))) ∙ sym c.is_last.ensures ∙ c.if-is_last.false in (
      no_fault allow functions f c.args.line i old mid.stack (sym c.is_bad_target.ensures ∙ c.if-is_bad_target.false) (sym c.is_bad_member.ensures ∙ c.if-is_bad_member.false)
          (sym c.is_bad_jump.ensures ∙ c.if-is_bad_jump.false) does.stack last,
      λ none. passes_on allow functions f c.args.line i old mid c.merge_into_successors.new.table does leads,
    )
