-- Words whose copy takes memory.
use Rattle.std.specs.Prelude.{Bool, true, false}
use Rattle.object_values.specs.declared.value.Value.TheVariants as v
use Rattle.code_meaning.specs.declared.word.Word.{Word}
use Rattle.code_meaning.specs.declared.word.Word.TheVariants.{R}

abbrev pub is_text : Word → Bool
is_text (R (v.Str text)) = true
is_text word = false
