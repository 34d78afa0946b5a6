use Rattle.std.proofs.Common.{ap, sym, ◌∙◌}
use Rattle.std.specs.Option.{option_copied}
use Rattle.std.specs.Prelude.{slice_get}
use Rattle.machine_parts.specs.Code.{codes_in}
use Rattle.machine_paths.proofs.Moving.{steps_so}
use Rattle.machine_paths.proofs.value_path.value_step.Goals as goal

pub returns-in-Some-clause-exact : goal.returns-in-Some-clause-exact
returns-in-Some-clause-exact c = λ limits store reached loops depth.
    steps_so (codes_in c.args.executable.now) limits _ _ c.args.function.now _ _ c.requires.found
    (sym (ap option_copied c.in-Some.is) ∙ c.get.ensures.value ∙ ap (slice_get c.args.function.now.lines) c.line-line.ensures)
    (c.take_value.ensures.exact limits store reached loops depth)
