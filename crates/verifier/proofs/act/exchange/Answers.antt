use Rattle.std.proofs.Common.{Some, ap, ◌∙◌}
use Rattle.std.specs.Prelude.{option_map, ◌++◌}
use Rattle.verifier_table.specs.Shapes.{Table}
use Rattle.instruction_types.specs.Effects.{left_by, result_kinds}
use Rattle.verifier.proofs.act.exchange.Goals as goal

pub returns-then-not-take : goal.returns-then-not-take
unfolding left_by
returns-then-not-take c = record { stack = ap (option_map (λ left. result_kinds c.args.gives ++ left)) c.if-not-take.ensures.stack; lines = c.if-not-take.ensures.lines }

pub returns : goal.returns
unfolding left_by
returns c =
    let given = c.in_ok-give.ensures in
    record {
      stack = ap (λ (t : Table). Some t.stack) given ∙ ap (option_map (λ left. result_kinds c.args.gives ++ left)) c.if-not-take.ensures.stack;
      lines = ap (λ (t : Table). t.lines) given ∙ c.if-not-take.ensures.lines;
    }
