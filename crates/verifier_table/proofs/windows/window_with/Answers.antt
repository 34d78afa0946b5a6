use Rattle.std.proofs.Common.{◌+◌, ◌*◌, ◌%◌, ap, ◌∙◌}
use Rattle.verifier_table.proofs.Numerals.{one_pushed}
use Rattle.verifier_table.proofs.windows.window_with.Goals as goal

pub returns : goal.returns
returns c kinds e = ap (λ d. 4 * (c.args.window % 1152921504606846976) + d) c.digit.ensures.digit ∙ one_pushed c.args.kind kinds c.args.window e
