use Rattle.std.proofs.Common.{sym, ◌∙◌, subst}
use Rattle.std.specs.Prelude.{option_map}
use Rattle.verifier.specs.Faults.{shape_fault, code_fault, told_fault}
use Rattle.verifier.specs.Verified.{FrameWords, LeastWords}
use Rattle.verifier.proofs.Counted.{of_frames, least_of_frames}
use Rattle.verifier.proofs.verified.verify.Goals as goal

pub invariant_of-result : goal.invariant_of-result
unfolding shape_fault
invariant_of-result c = (
  record { none = (λ i. option_map told_fault (code_fault (c.in-Ok.ensures.0 i) (sym c.as_slice.ensures i))) ∙ sym c.in-Ok-None.ensures.fault ∙ c.in-Ok-None.field-0-is },
  subst (λ n. FrameWords n (record { code = c.args.code; allow = c.in-Ok.under })) (sym c.in-Ok.ensures.1)
      (of_frames c.args.allow.now c.in-Ok.under c.as_slice.result.now c.args.code c.code_fault.new.most (c.in-Ok-None.ensures.words c.in-Ok-None.field-0-is) c.in-Ok.ensures.0 c.as_slice.ensures),
  subst (λ n. LeastWords n (record { code = c.args.code; allow = c.in-Ok.under })) (sym c.in-Ok.ensures.1)
      (least_of_frames c.args.allow.now c.in-Ok.under c.as_slice.result.now c.args.code c.code_fault.new.most (c.in-Ok-None.ensures.least c.in-Ok-None.field-0-is) c.in-Ok.ensures.0 c.as_slice.ensures),
)
