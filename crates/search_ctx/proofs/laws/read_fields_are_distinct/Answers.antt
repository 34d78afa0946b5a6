use Rattle.search_ctx.proofs.Reading.{read_distinct}
use Rattle.search_ctx.proofs.laws.read_fields_are_distinct.Goals as goal

pub returns : goal.returns
returns c text d e = read_distinct text d e
