use Rattle.std.proofs.Common.{subst, ◌∙◌, List}
use Rattle.std.specs.Option.{option_copied}
use Rattle.typed_tree.specs.declared.program.Named.{Named}
use Rattle.typing_rules.specs.Outcomes.{Keeps}
use Rattle.typing_functions.specs.Chosen as spec
use Rattle.typing_functions.proofs.chosen.calling_as.Goals as goal

pub returns : goal.returns
returns c =
    subst (λ (ps : List Named). Keeps (spec.calling c.args.headers.now c.args.at c.args.name.now (option_copied c.args.method) ps) c.calling.result)
    (c.as_slice.ensures ∙ c.in_ok-parameters.ensures) c.calling.ensures
