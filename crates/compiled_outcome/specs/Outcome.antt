-- The end of a program, and that of its code, beside a prelude.
use Rattle.std.specs.Prelude.{◌≡◌, ℕ, ◌≤◌, List, Option, Some}
use Rattle.object_values.specs.declared.object.Owner.TheVariants.{Prelude}
use Rattle.object_values.specs.declared.value.Value.{Value}
use Rattle.run_state.specs.World.{World, Limits, End}
use Rattle.typed_tree.specs.declared.program.Program.{Program}
use Rattle.program_typing.specs.Programs.{fun_of}
use Rattle.program_typing.specs.Tree as tree
use Rattle.compiler_relation.specs.code_meaning_declared.word.Word.{Word}
use Rattle.compiler_relation.specs.Correct.{Words, EndsAs, IsCodeOf, programs_of, program_ends}
use Rattle.compiler_relation.specs.Stands.{Compiled}
use Rattle.compiler_relation.specs.Machine.{Codes, start}
use Rattle.program_typing.specs.Types.{HaveAll}
use Rattle.program_typing.specs.Agreeing.{types_in, AreWellFormed}
use Rattle.program_typing.specs.Enough.{enough}

-- So a program ends on these arguments, at every bound that is enough.
pub record EndsSo (p : Program) (prelude : tree.Program) (limits : Limits) (args : List Value) (w : World) (end : End (Option Word)) : Type 0 where
  pub always : (bound : ℕ) → enough (programs_of p prelude) w ≤ bound → program_ends p prelude limits bound args w ≡ Some end

-- How a program ends, and its code with it: from the words that the arguments are, the code comes to that end.
pub record Outcome (p : Program) (prelude : tree.Program) (codes : Codes) (limits : Limits) (args : List Value) (w : World) : Type 0 where
  pub end : End (Option Word)
  pub ends : EndsSo p prelude limits args w end
  pub words : List Word
  pub are : Words (fun_of p.main).params args words
  pub code_ends : EndsAs codes limits (start codes words w) end

abbrev pub CodeEndsAsPrograms : Type 0
CodeEndsAsPrograms =
    (p : Program) (prelude : tree.Program) (codes : Codes) (limits : Limits) → AreWellFormed (programs_of p prelude) limits → IsCodeOf p codes.script
    → Compiled Prelude prelude codes.prelude → (args : List Value) → HaveAll (types_in (fun_of p.main).params) args → (w : World)
    → Outcome p prelude codes limits args w
