use Rattle.std.proofs.Common.{◌∙◌}
use Rattle.search_ctx.proofs.FieldLemmas.{place_found}
use Rattle.search_ctx.proofs.fields.Fields.place_of.Goals as goal

pub returns : goal.returns
returns c = rw (← c.self.view_is) (c.get_index_of.ensures.index ∙ place_found c.args.name.now c.self.inside.kinds.entries)
