use Rattle.std.proofs.Common.{arith}
use Rattle.object_values.specs.declared.object.Owner.TheVariants.{Script}
use Rattle.program_typing.specs.Programs.{program_of}
use Rattle.program_typing.specs.Agreeing.{known}
use Rattle.verifier.proofs.Whole.{sound_is_well_shaped}
use Rattle.compiled_shapes.proofs.Functions as functions
use Rattle.compiled_shapes.proofs.laws.code_is_well_shaped.Goals as goal

pub returns : goal.returns
returns c = record {
  shaped = functions.code_is_well_shaped c.names_of_members.ensures.names;
  sound = λ allow p code formed reached made. (sound_is_well_shaped allow code).1 (functions.code_is_well_shaped c.names_of_members.ensures.names Script (known allow (program_of p)) code.functions (omega arith) formed reached made);
}
