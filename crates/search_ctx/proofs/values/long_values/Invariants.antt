use Rattle.std.proofs.Common.{◌≡◌, ◌++◌, map, drop}
use Rattle.object_values.specs.declared.value.Value.TheVariants as v
use Rattle.search_ctx.proofs.values.long_values.Given as goal

abbrev pub invariant-loop-long : goal.invariant-loop-long
invariant-loop-long l = l.values ++ map v.Long (drop l.long-index l.longs) ≡ map v.Long l.longs
