-- The path of values: what is done there with numbers in their boxes, with the store as it is.
use Rattle.std.specs.Prelude.{◌≡◌, suc, ℤ, Bool, List, ◌∷◌, Option, Some, None}
use Rattle.pl_types.specs.declared.primitive.Primitive.{Primitive}
use Rattle.pl_types.specs.declared.primitive.Primitive.TheVariants as prim
use Rattle.pl_types.specs.declared.ty.Ty.TheVariants as ty
use Rattle.object_values.specs.declared.value.Value.{Value}
use Rattle.object_values.specs.declared.value.Value.TheVariants as v
use Rattle.arithmetic.specs.declared.operator.Num.{Num}
use Rattle.arithmetic.specs.declared.operator.Num.TheVariants as n
use Rattle.number_ops.specs.Casts.{cast_at_run_time}
use Rattle.number_ops.specs.Outcomes.{effect}
use Rattle.pl_code.specs.declared.kinds.ArithmeticOp.{ArithmeticOp}
use Rattle.pl_code.specs.declared.kinds.ArithmeticOp.TheVariants as code
use Rattle.pl_code.specs.declared.kinds.DynamicOp.{DynamicOp}
use Rattle.pl_code.specs.declared.kinds.DynamicOp.TheVariants as dynamic
use Rattle.run_state.specs.World.{World, Limits, acts_in}
use Rattle.code_meaning.specs.declared.word.Word.{Word}
use Rattle.code_meaning.specs.declared.word.Word.TheVariants.{I, J, R}
use Rattle.code_meaning.specs.Words.{bit, op_of_dynamic, unboxed}
use Rattle.code_meaning.specs.Machine.{Codes, Frame, on_operated, on_outcome, to_line}

-- The operator on numbers that one on values is: none of one operand, and no shift.
abbrev pub plain_operator : DynamicOp → Option ArithmeticOp
plain_operator dynamic.Add = Some code.Add
plain_operator dynamic.Sub = Some code.Sub
plain_operator dynamic.Mul = Some code.Mul
plain_operator dynamic.Div = Some code.Div
plain_operator dynamic.Rem = Some code.Rem
plain_operator dynamic.And = Some code.And
plain_operator dynamic.Or = Some code.Or
plain_operator dynamic.Xor = Some code.Xor
plain_operator dynamic.Lt = Some code.Lt
plain_operator dynamic.Le = Some code.Le
plain_operator dynamic.Gt = Some code.Gt
plain_operator dynamic.Ge = Some code.Ge
plain_operator other = None

-- the number in the box of an int or a long
abbrev pub number_boxed : Value → Option Num
number_boxed (v.Int number) = Some (n.Int number)
number_boxed (v.Long number) = Some (n.Long number)
number_boxed value = None

-- an operator gives this word of two values, in each frame and world
abbrev pub Operates : ArithmeticOp → Value → Value → Word → Type 0
Operates op a b word =
    (codes : Codes) (limits : Limits) (o : DynamicOp) (f : Frame) (below : List Frame) (w : World) (stack : List Word) → plain_operator o ≡ Some op
    → on_operated codes limits (op_of_dynamic o) a b f below w stack ≡ to_line f below w (suc f.line) (word ∷ stack)

-- the same of the two upper words on a stack
abbrev pub OperatesOn : ArithmeticOp → List Word → Word → Type 0
OperatesOn op (R b ∷ R a ∷ stack) word = Operates op a b word
OperatesOn op stack word = ⊥

-- the word of what is in the box of an int, a long or a truth value, as a primitive of its type, and of an int as a long too
abbrev pub int_out : Primitive → ℤ → Option Word
int_out prim.Int a = Some (I a)
int_out prim.Long a = Some (J a)
int_out p a = None

abbrev pub long_out : Primitive → ℤ → Option Word
long_out prim.Long a = Some (J a)
long_out p a = None

abbrev pub flag_out : Primitive → Bool → Option Word
flag_out prim.Boolean flag = Some (I (bit flag))
flag_out p flag = None

abbrev pub taken_out : Primitive → Value → Option Word
taken_out p (v.Int a) = int_out p a
taken_out p (v.Long a) = long_out p a
taken_out p (v.Bool flag) = flag_out p flag
taken_out p value = None

-- a cast to a primitive gives this word of a value, in each frame and world, whether it is written or not
abbrev pub Unboxes : Primitive → Value → Word → Type 0
Unboxes p value word =
    (codes : Codes) (limits : Limits) (f : Frame) (below : List Frame) (w : World) (stack : List Word) (written : Bool)
    → on_outcome codes limits (acts_in w (effect w.store (cast_at_run_time w.store.objects value (ty.Prim p) written))) unboxed f below w stack ≡ to_line f below w (suc f.line) (word ∷ stack)
