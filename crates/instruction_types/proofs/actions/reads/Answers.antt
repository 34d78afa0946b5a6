use Rattle.std.proofs.Common.{◌∙◌}
use Rattle.instruction_types.proofs.Named.{was_read}
use Rattle.instruction_types.proofs.actions.reads.Goals as goal

pub returns : goal.returns
returns c = c.puts.ensures ∙ was_read c.args.allow.now c.args.member c.member_type-read.result.now c.kind_of_type.result c.member_type-read.ensures c.kind_of_type.ensures
