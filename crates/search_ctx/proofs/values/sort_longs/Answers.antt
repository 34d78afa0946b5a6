use Rattle.std.specs.Ordering.{int_cmp}
use Rattle.std.proofs.lemmas.Cmp.{int_cmp_total}
use Rattle.std.proofs.lemmas.Map.Lookups.{exact_signed}
use Rattle.search_ctx.proofs.Sorting.{sorted_is}
use Rattle.search_ctx.proofs.values.sort_longs.Goals as goal

pub returns : goal.returns
returns c = sorted_is int_cmp int_cmp_total exact_signed _ _ c.sort_unstable.ensures.permutation c.sort_unstable.ensures.sorted
