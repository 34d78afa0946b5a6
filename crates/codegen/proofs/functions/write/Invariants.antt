use Rattle.std.proofs.Common.{◌∷◌, map, take}
use Rattle.source_meaning.specs.Programs.{program_of, fun_of}
use Rattle.codegen.specs.Functions.{Written}
use Rattle.codegen.proofs.functions.write.Given as goal

abbrev pub invariant-loop-f : goal.invariant-loop-f
invariant-loop-f l = Written (program_of l.program) (map fun_of (l.program.main ∷ take l.f-index l.program.functions)) l.functions
