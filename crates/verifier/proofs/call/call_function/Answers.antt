use Rattle.std.proofs.Common.{Some, ap, ◌∙◌}
use Rattle.std.specs.Prelude.{◌++◌, reverse, option_map}
use Rattle.verifier_table.specs.Shapes.{Table}
use Rattle.instruction_types.specs.Effects.{taken, calls, left_by, result_kinds}
use Rattle.verifier.proofs.call.call_function.Goals as goal

pub returns-then-not-take_params : goal.returns-then-not-take_params
unfolding left_by calls
returns-then-not-take_params c =
    record {
      stack = ap (option_map (λ left. result_kinds c.args.function.now.result ++ left)) (c.if-not-take_params.ensures.stack ∙ ap (λ params. taken (reverse params) c.args.table.now.stack) c.as_slice.ensures);
      lines = c.if-not-take_params.ensures.lines;
    }

pub returns : goal.returns
unfolding left_by calls
returns c =
    let given = c.in_ok-give.ensures in
    record {
      stack = ap (λ (t : Table). Some t.stack) given
          ∙ ap (option_map (λ left. result_kinds c.args.function.now.result ++ left)) (c.if-not-take_params.ensures.stack ∙ ap (λ params. taken (reverse params) c.args.table.now.stack) c.as_slice.ensures);
      lines = ap (λ (t : Table). t.lines) given ∙ c.if-not-take_params.ensures.lines;
    }
