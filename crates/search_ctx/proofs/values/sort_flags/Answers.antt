use Rattle.std.specs.Ordering.{bool_cmp}
use Rattle.std.specs.Cmp.{bool_cmp_total}
use Rattle.search_ctx.proofs.Sorting.{sorted_is, exact_flags}
use Rattle.search_ctx.proofs.values.sort_flags.Goals as goal

pub returns : goal.returns
returns c = sorted_is bool_cmp bool_cmp_total exact_flags _ _ c.sort_unstable.ensures.permutation c.sort_unstable.ensures.sorted
