-- Where memory runs out, a step has nothing to keep.
use Rattle.std.proofs.Common.{◌≡◌, List, Err}
use Rattle.source_meaning.specs.Tree.{Program}
use Rattle.codegen.specs.Worklist.{Item}
use Rattle.codegen.specs.Sound.{Keeps}
use Rattle.codegen.specs.declared.config.Config.{Config}
use Rattle.codegen.specs.declared.error.CodeError.{CodeError}
use Rattle.codegen.specs.declared.error.CodeError.TheVariants.{NoMemory}

pub only_memory : (funs : Program) (todo todo' : List Item) (c c' : Config) (e : CodeError) → e ≡ NoMemory → Keeps funs todo c (Err e) todo' c'
only_memory funs todo todo' c c' e is = record { by = λ allow s. is }
