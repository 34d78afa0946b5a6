-- What the runs of the code of programs come to.
use Rattle.std.specs.Prelude.{◌≡◌, ◌<◌, List, length}
use Rattle.object_values.specs.declared.object.Owner.{Owner}
use Rattle.object_values.specs.declared.object.Owner.TheVariants.{Prelude}
use Rattle.pl_code.specs.declared.code.FunCode.{FunCode}
use Rattle.typed_tree.specs.declared.program.Program as typed
use Rattle.compiled_shapes.specs.Programs.{program_of}
use Rattle.compiled_shapes.specs.Agreeing.{AreWellFormed, Known, WellFormed}
use Rattle.compiled_shapes.specs.Reached.{Reached}
use Rattle.compiled_shapes.specs.Correct.{IsCodeOf, programs_of}
use Rattle.compiled_shapes.specs.Stands.{Compiled}
use Rattle.compiled_shapes.specs.Tree.{Program}
use Rattle.run_state.specs.World.{World, Limits}
use Rattle.verifier_soundness.specs.code_meaning_declared.word.Word.{Word}
use Rattle.verifier_soundness.specs.Machine.{Codes, start}
use Rattle.verifier_soundness.specs.Rows.{HaveRows}
use Rattle.verifier_soundness.specs.Fits.{kinds_of, main_params, ReachesAllowed}
use Rattle.verifier_soundness.specs.Bounds.{most_steps, EndsWithin}

-- Each instruction of the code of a well-formed program of either text has a row.
abbrev pub CodeHasRows : Type 0
CodeHasRows = (text : Owner) (funs : Known) (code : List FunCode) → WellFormed funs → Compiled text funs.functions code → HaveRows funs.allowed code

-- So a run of it, beside the code of a prelude, on words of its parameters' kinds ends within the bound, reaching members of the script's list
-- alone, whatever the host is. The prelude has a function.
abbrev pub ProgramsRun : Type 0
ProgramsRun =
    (p : typed.Program) (prelude : Program) (codes : Codes) (limits : Limits) → AreWellFormed (programs_of p prelude) limits → Reached (program_of p) → Reached prelude → 0 < length prelude
    → IsCodeOf p codes.script → Compiled Prelude prelude codes.prelude → (words : List Word) (w : World) → kinds_of words ≡ main_params codes.script → ReachesAllowed limits.ground.allowed w
    → EndsWithin codes limits (most_steps codes limits w.ticks) (start codes words w)
