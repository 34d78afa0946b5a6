-- The prelude, which has no function yet: its program is the empty one.
use Rattle.std.specs.Prelude.{[], ◌∷◌, None, false}
use Rattle.pl_types.specs.declared.ty.Ty.TheVariants as ty
use Rattle.static_types.specs.Allow.{empty_list}
use Rattle.typed_tree.specs.declared.program.Program.{Program}
use Rattle.typed_tree.specs.declared.program.FunctionKind.TheVariants as function
use Rattle.pl_code.specs.declared.code.Code.{Code}
use Rattle.pl_code.specs.declared.code.FunCode.{FunCode}
use Rattle.pl_code.specs.declared.code.Instruction.TheVariants as instruction
use Rattle.pl_code.specs.declared.kinds.Plain.TheVariants as plain
use Rattle.verified_machine.specs.Code.{TextCode}

abbrev pub empty_program : Program
empty_program = record {
  functions = [];
  main = record { kind = function.Main; at = 0; name = []; captured = []; parameters = []; result = ty.Void; body = [] };
}

-- its code
abbrev pub prelude_main : FunCode
prelude_main = record { loops = false; result = None; params = []; locals = []; traps = []; lines = instruction.Plain plain.Ret ∷ [] }

abbrev pub prelude_code : Code
prelude_code = record { functions = prelude_main ∷ [] }

-- .. which calls no member
abbrev pub prelude_text : TextCode
prelude_text = record { code = prelude_code; allow = empty_list }
