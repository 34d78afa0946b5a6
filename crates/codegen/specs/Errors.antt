-- Which errors are answered.
use Rattle.std.specs.Prelude.{Result, IsOkUnless}
use Rattle.codegen.specs.declared.error.CodeError.{CodeError}
use Rattle.codegen.specs.declared.error.CodeError.TheVariants.{NoMemory}

-- the one error is that of memory
abbrev pub OnlyMemory : {T : Type 0} → Result T CodeError → Type 0
OnlyMemory result = IsOkUnless result NoMemory
