use Rattle.std.proofs.Common.{◌≡◌, ◌++◌, map, drop}
use Rattle.object_values.specs.declared.value.Value.TheVariants as v
use Rattle.search_ctx.proofs.values.flag_values.Given as goal

abbrev pub invariant-loop-flag : goal.invariant-loop-flag
invariant-loop-flag l = l.values ++ map v.Bool (drop l.flag-index l.flags) ≡ map v.Bool l.flags
