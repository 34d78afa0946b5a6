use Rattle.std.proofs.Common.{ap, ◌∙◌}
use Rattle.pl_code.specs.declared.kinds.Slot.TheVariants.{R}
use Rattle.instruction_types.specs.Members.{argument_kinds}
use Rattle.instruction_types.specs.Effects.{Exchanges, one}
use Rattle.instruction_types.specs.Seen.{seen_action, seen_takes}
use Rattle.instruction_types.proofs.Named.{made}
use Rattle.instruction_types.proofs.actions.makes.Goals as goal

pub returns : goal.returns
unfolding seen_action seen_takes
returns c = ap (λ params. Exchanges (argument_kinds params) (one R)) c.as_slice.ensures ∙ made c.args.allow.now c.args.member c.member_type-made.result.now c.member_type-made.ensures
