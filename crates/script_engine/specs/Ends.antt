-- How the run of a program ends.
use Rattle.std.specs.Prelude.{◌≡◌, ℕ, List, [], Option, Some, None, unwrap_or}
use Rattle.object_values.specs.declared.value.Value.{Value}
use Rattle.object_values.specs.declared.object.Owner.{Owner}
use Rattle.object_values.specs.declared.object.Owner.TheVariants.{Script}
use Rattle.object_values.specs.declared.value.Value.TheVariants as v
use Rattle.pl_types.specs.declared.ty.Ty.{Ty, out-Ty}
use Rattle.pl_types.specs.declared.ty.Ty.TheOpen.{Ty-F}
use Rattle.compiled_outcome.specs.World.{World, Limits, End, Result, Uncaught, Limited}
use Rattle.typed_tree.specs.declared.program.Program.{Program}
use Rattle.codegen.specs.Programs.{fun_of, program_of}
use Rattle.codegen.specs.Tree.{Fun, Programs}
use Rattle.codegen.specs.Operating.{in_box}
use Rattle.codegen.specs.Meaning.{Env, Out, Done, Thrown, Over, More, Flow, entry, returned, meaning}

-- what a function of this result type gives: without a result null, and of a primitive type a value in its box
abbrev pub given_layer : Ty-F Ty → Value → Value
given_layer Ty-F.Void value = v.Null
given_layer (Ty-F.Prim p) value = unwrap_or (in_box p value) value
given_layer other value = value

abbrev pub given : Ty → Value → Value
given of value = given_layer (out-Ty of) value

abbrev pub end_with : Ty → Option Value → World → Option (End Value)
end_with of None w = None
end_with of (Some value) w = Some (Result (given of value) w)

-- the end of a function of this result type; nothing where it is More
abbrev pub end_of : Ty → Out Flow → Option (End Value)
end_of of (Done flow s e) = end_with of (returned of flow) s.world
end_of of (Thrown id place s e) = Some (Uncaught id place s.world)
end_of of (Over limit place w) = Some (Limited limit place w)
end_of of More = None

-- a script's program beside the prelude's
abbrev pub beside : Program → Program → Programs
beside p prelude = record { script = program_of p; prelude = program_of prelude }

-- how the run of a function of a text ends at a bound, from where it is entered, if it is
abbrev pub end_from : Programs → Owner → Limits → ℕ → Fun → Option Env → World → Option (End Value)
end_from funs text limits bound f None w = None
end_from funs text limits bound f (Some e) w =
    end_of f.result ((meaning funs limits bound).stmts (record { text = text; depth = 0 }) (record { world = w; turns = 0 }) e f.body)

abbrev pub end_in : Program → Program → Limits → ℕ → Fun → Option Env → World → Option (End Value)
end_in p prelude limits bound main e w = end_from (beside p prelude) Script limits bound main e w

-- how the main script's run on these arguments ends at a bound
abbrev pub end_at : Program → Program → Limits → ℕ → List Value → World → Option (End Value)
end_at p prelude limits bound args w = end_in p prelude limits bound (fun_of p.main) (entry (fun_of p.main).params args []) w

-- A program's run beside the prelude's program ends so: at some bound, and so at every greater one.
pub record RunsTo (p prelude : Program) (limits : Limits) (args : List Value) (w : World) (end : End Value) : Type 0 where
  pub bound : ℕ
  pub is : end_at p prelude limits bound args w ≡ Some end
