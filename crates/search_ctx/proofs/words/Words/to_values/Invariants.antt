use Rattle.std.proofs.Common.{◌≡◌, ◌++◌, map, drop, string_bytes}
use Rattle.object_values.specs.declared.value.Value.TheVariants as v
use Rattle.pl_units.specs.Utf16.{units}
use Rattle.search_ctx.proofs.words.Words.to_values.Given as goal

abbrev pub invariant-loop-word : goal.invariant-loop-word
invariant-loop-word l =
    l.values ++ map (λ word. v.Str (units word)) (map string_bytes (drop l.word-index l.word-items)) ≡ map (λ word. v.Str (units word)) (map string_bytes l.word-items)
