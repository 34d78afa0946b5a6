-- What the code of programs is.
use Rattle.std.specs.Prelude.{◌≡◌, ◌<◌, List, length, None}
use Rattle.object_values.specs.declared.object.Owner.{Owner}
use Rattle.pl_code.specs.declared.code.Code.{Code}
use Rattle.pl_code.specs.declared.code.FunCode.{FunCode}
use Rattle.allowlist.specs.Allow.{AllowList}
use Rattle.typed_tree.specs.declared.program.Program as typed
use Rattle.program_typing.specs.Programs.{program_of}
use Rattle.program_typing.specs.Agreeing.{Known, known, WellFormed}
use Rattle.program_typing.specs.Reached.{Reached}
use Rattle.compiler_relation.specs.Correct.{IsCodeOf}
use Rattle.compiler_relation.specs.Stands.{Compiled}
use Rattle.verifier.specs.Faults.{shape_fault}
use Rattle.verifier.specs.Shaped.{IsWellShapedCode}

-- Code of a well-formed program of either text, in which each statement is reached, is well shaped under the list by which the program is
-- well formed.
abbrev pub CodeIsWellShaped : Type 0
CodeIsWellShaped =
    (text : Owner) (funs : Known) (code : List FunCode) → 0 < length funs.functions → WellFormed funs → Reached funs.functions → Compiled text funs.functions code
    → IsWellShapedCode funs.allowed code

-- So the code of such a typed program breaks nowhere.
abbrev pub CodeBreaksNowhere : Type 0
CodeBreaksNowhere = (allow : AllowList) (p : typed.Program) (code : Code) → WellFormed (known allow (program_of p)) → Reached (program_of p) → IsCodeOf p code.functions → shape_fault allow code ≡ None
