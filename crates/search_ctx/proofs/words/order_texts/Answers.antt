use Rattle.std.proofs.lemmas.List.Filters.{dedup_is}
use Rattle.search_ctx.proofs.Sorting.{words_ordered}
use Rattle.search_ctx.proofs.words.order_texts.Goals as goal

pub returns : goal.returns
returns c = words_ordered _ _ _ c.sort_unstable.ensures.permutation c.sort_unstable.ensures.sorted (dedup_is _ _ _ c.dedup.ensures.filtered)
