use Rattle.search_ctx.proofs.FieldLemmas.{fields_same}
use Rattle.search_ctx.proofs.laws.fields_stay.Goals as goal

pub returns : goal.returns
returns c = fields_same
