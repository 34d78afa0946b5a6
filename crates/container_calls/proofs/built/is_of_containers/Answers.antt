use Rattle.std.proofs.Common.{ap, sym, ◌∙◌}
use Rattle.container_calls.specs.Members.{in_ranges}
use Rattle.container_calls.proofs.Ranges.{of_containers}
use Rattle.container_calls.proofs.built.is_of_containers.Goals as goal

pub returns : goal.returns
returns c = c.is_in.ensures ∙ ap (λ ranges. in_ranges ranges c.args.number) c.container_ranges.ensures ∙ sym (of_containers c.args.number)
