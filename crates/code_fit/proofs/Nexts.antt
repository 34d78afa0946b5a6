-- What holds of all that a step goes on to, and where it is stuck, holds of the step: where it asks for a word of a kind, a type or a function
-- first, and where it goes one of two ways.
use Rattle.std.proofs.Common.{ℤ, zero, suc, Bool, true, false, List, Option, Some, None}
use Rattle.std.specs.Prelude.{pos, negsuc, if◌then◌else◌}
use Rattle.pl_types.specs.declared.ty.Ty.{Ty}
use Rattle.object_values.specs.declared.value.Value.{Value}
use Rattle.object_values.specs.declared.value.Value.TheVariants as v
use Rattle.pl_code.specs.declared.code.FunCode.{FunCode}
use Rattle.run_state.specs.World.{Limits}
use Rattle.code_meaning.specs.declared.word.Word.{Word}
use Rattle.code_meaning.specs.declared.word.Word.TheVariants.{I, J, R}
use Rattle.code_meaning.specs.Machine.{Codes, Next, Stuck, on_int, on_long, on_type, on_ints, on_loops, unless_zero, if_null}

module _ (Holds : Next → Type 0) (stuck : Holds Stuck) where
  pub int_holds : (word : Word) (next : ℤ → Next) → ((a : ℤ) → Holds (next a)) → Holds (on_int word next)
  int_holds (I a) next k = k a
  int_holds (J a) next k = stuck
  int_holds (R value) next k = stuck

  pub long_holds : (word : Word) (next : ℤ → Next) → ((a : ℤ) → Holds (next a)) → Holds (on_long word next)
  long_holds (I a) next k = stuck
  long_holds (J a) next k = k a
  long_holds (R value) next k = stuck

  pub type_holds : (o : Option Ty) (next : Ty → Next) → ((of : Ty) → Holds (next of)) → Holds (on_type o next)
  type_holds None next k = stuck
  type_holds (Some of) next k = k of

  pub ints_hold : (o : Option (List ℤ)) (next : List ℤ → Next) → ((numbers : List ℤ) → Holds (next numbers)) → Holds (on_ints o next)
  ints_hold None next k = stuck
  ints_hold (Some numbers) next k = k numbers

  pub loops_hold : (codes : Codes) (limits : Limits) (o : Option FunCode) (next : Bool → Next) → ((limited : Bool) → Holds (next limited)) → Holds (on_loops codes limits o next)
  loops_hold codes limits None next k = stuck
  loops_hold codes limits (Some g) next k = k g.loops

module _ (Holds : Next → Type 0) where
  pub either_holds : (a : ℤ) (first second : Next) → Holds first → Holds second → Holds (unless_zero a first second)
  either_holds (pos zero) first second x y = y
  either_holds (pos (suc a)) first second x y = x
  either_holds (negsuc a) first second x y = x

  pub chosen_holds : (test : Bool) (first second : Next) → Holds first → Holds second → Holds (if test then first else second)
  chosen_holds true first second x y = x
  chosen_holds false first second x y = y

  pub null_holds : (value : Value) (first second : Next) → Holds first → Holds second → Holds (if_null value first second)
  null_holds v.Null first second x y = x
  null_holds (v.Bool a) first second x y = y
  null_holds (v.Byte a) first second x y = y
  null_holds (v.Short a) first second x y = y
  null_holds (v.Char a) first second x y = y
  null_holds (v.Int a) first second x y = y
  null_holds (v.Long a) first second x y = y
  null_holds (v.Str a) first second x y = y
  null_holds (v.Ref a) first second x y = y
