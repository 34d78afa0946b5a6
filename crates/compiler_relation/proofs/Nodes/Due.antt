-- The casts that are due of what a function gives: the code's words and the meaning's values go through the same ones.
use Rattle.std.proofs.Common.{◌≡◌, ℕ, suc, true, false, List, [], ◌∷◌, Option, Some, None, refl, sym, ap, ◌∙◌, subst}
use Rattle.pl_types.specs.declared.primitive.Primitive.{Primitive}
use Rattle.pl_types.specs.declared.primitive.Primitive.TheVariants as prim
use Rattle.pl_types.specs.declared.ty.Ty.{Ty, out-Ty}
use Rattle.pl_types.specs.declared.ty.Ty.TheOpen.{Ty-F}
use Rattle.object_values.specs.declared.value.Value.{Value}
use Rattle.object_values.specs.declared.value.Value.TheVariants as v
use Rattle.number_ops.specs.Casts.{cast_at_run_time}
use Rattle.number_ops.specs.Outcomes as outcomes
use Rattle.pl_code.specs.declared.code.Instruction.{Instruction}
use Rattle.run_state.specs.World.{World, Limits, not_told, Outcome, Given, Raised, Full, acts_in}
use Rattle.source_meaning.specs.Tree.{Programs}
use Rattle.source_meaning.specs.Operating.{in_box, passed_result_layer, passed_result}
use Rattle.source_meaning.specs.Meaning.{State, Env, Out, bind, found, effect, casts_due}
use Rattle.source_meaning.specs.Meaning as meaning
use Rattle.source_meaning.proofs.Due.{DueOf}
use Rattle.code_meaning.specs.declared.word.Word.{Word}
use Rattle.code_meaning.specs.Words.{unboxed, boxed}
use Rattle.code_meaning.specs.Members.{taken_result_layer, taken_result}
use Rattle.code_meaning.specs.Machine.{Codes, Handlers, Next, on_value, on_given, cast_each, cast_due}
use Rattle.compiler_relation.specs.Representation.{Representation, Boxed, representation_of, representation_of_layer, low}
use Rattle.compiler_relation.specs.Stands.{Scope, At}
use Rattle.compiler_relation.proofs.Locals.{Fits}
use Rattle.compiler_relation.proofs.Follows.{Ctx, Sim, frame, ended, done, throws}
use Rattle.compiler_relation.proofs.Refines.{Any, land_value}

pub in_boxed : (p : Primitive) (value given : Value) → in_box p value ≡ Some given → boxed p (unboxed value) ≡ Some given
in_boxed prim.Boolean (v.Bool true) given e = e
in_boxed prim.Boolean (v.Bool false) given e = e
in_boxed prim.Boolean value given e = cc
in_boxed prim.Byte (v.Byte a) given e = e
in_boxed prim.Byte value given e = cc
in_boxed prim.Short (v.Short a) given e = e
in_boxed prim.Short value given e = cc
in_boxed prim.Char (v.Char a) given e = e
in_boxed prim.Char value given e = cc
in_boxed prim.Int (v.Int a) given e = e
in_boxed prim.Int value given e = cc
in_boxed prim.Long (v.Long a) given e = e
in_boxed prim.Long value given e = cc

-- what a function gives is taken as it is passed
layer_taken : (y : Ty-F Ty) (value given : Value) → passed_result_layer y value ≡ Some given → taken_result_layer y (low (representation_of_layer y) value) ≡ Some given
layer_taken Ty-F.Void value given e = e
layer_taken Ty-F.Null value given e = e
layer_taken Ty-F.Def value given e = e
layer_taken (Ty-F.Prim p) value given e = in_boxed p value given e
layer_taken (Ty-F.Class class) value given e = e
layer_taken (Ty-F.Array elem) value given e = e

-- how what comes of the casts is represented: as what the function gives where there are none, else as a reference
abbrev pub due_representation : Ty → List Ty → Representation
due_representation of [] = representation_of of
due_representation of (from ∷ tos) = Boxed

module _ (funs : Programs) (codes : Codes) (limits : Limits) (c : Ctx codes) (h : Handlers) (g : Scope) (q : ℕ) (call : Instruction) (e : Env) (l st : List Word) where
  -- what comes of an operation, and then the rest
  given_runs : At c.body h q call → Fits c.body g e l → {land : Value → State → List Word → Next} {good : Value → Type 0} (s : State) (x : Outcome Value) (next : Value → World → Next) (k : Value → State → Env → Out Value)
      → ((value : Value) (w : World) → Sim codes limits c h g land good (next value w) (k value (record { world = w; turns = s.turns }) e))
      → Sim codes limits c h g land good (on_given codes limits x (frame codes limits c q l st s) c.below s.world next) (bind (effect x s e) k)
  given_runs a f s (Given value w) next k d = d value w
  given_runs a f s (Raised id w) next k d = record { by = λ r j. throws codes limits c h q call l st id not_told (record { world = w; turns = s.turns }) r a (j l f) }
  given_runs a f s Full next k d = record { by = ended codes limits _ }

  each_runs : At c.body h q call → Fits c.body g e l → (tos : List Ty) (value : Value) (s : State)
      → Sim codes limits c h g (land_value funs codes limits c Boxed (suc q) st) Any (cast_each codes limits tos value (frame codes limits c q l st s) c.below s.world) (meaning.cast_each tos value s e)
  each_runs a f [] value s = done codes limits f tt
  each_runs a f (to ∷ tos) value s =
      given_runs a f s (acts_in s.world (outcomes.effect s.world.store (cast_at_run_time s.world.store.objects value to false))) _ _
      (λ value w. each_runs a f tos value (record { world = w; turns = s.turns }))

  -- the casts that are due, in the frame that waits at the call
  pub due_runs : At c.body h q call → Fits c.body g e l → (of : Ty) (due : List Ty) → DueOf of due → (value : Value) (s : State)
      → Sim codes limits c h g (land_value funs codes limits c (due_representation of due) (suc q) st) Any
      (cast_due codes limits due (low (representation_of of) value) (frame codes limits c q l st s) c.below s.world) (casts_due due value s e)
  due_runs a f of [] x value s = done codes limits f tt
  due_runs a f of (from ∷ tos) x value s = tried (passed_result from value) refl
    where
      rest : Value → Next
      rest value = cast_each codes limits tos value (frame codes limits c q l st s) c.below s.world

      tried : (o : Option Value) → passed_result from value ≡ o
          → Sim codes limits c h g (land_value funs codes limits c Boxed (suc q) st) Any (on_value (taken_result from (low (representation_of of) value)) (λ value. rest value)) (bind (found o s e) (λ value s e. meaning.cast_each tos value s e))
      tried None is = record { by = tt }
      tried (Some given) is =
          let taken : taken_result from (low (representation_of of) value) ≡ Some given =
          ap (λ of. taken_result from (low (representation_of of) value)) (sym x) ∙ layer_taken (out-Ty from) value given is in
          subst (λ o. Sim codes limits c h g (land_value funs codes limits c Boxed (suc q) st) Any (on_value o (λ value. rest value)) (meaning.cast_each tos given s e)) (sym taken) (each_runs a f tos given s)
