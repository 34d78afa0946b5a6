-- A small program and its code, line by line: `int x = 1; while (x < 3) { x += 2 } return x + 2`, where an int is wanted.
use Rattle.std.specs.Prelude.{ℕ, true, List, [], ◌∷◌, Some, pos}
use Rattle.pl_types.specs.declared.ty.Ty.{Ty}
use Rattle.pl_types.specs.declared.ty.Ty.TheVariants as t
use Rattle.pl_types.specs.declared.primitive.Primitive.TheVariants as prim
use Rattle.pl_types.specs.declared.conversion.Cast.TheVariants as cast
use Rattle.arithmetic.specs.declared.operator.Op.TheVariants as op
use Rattle.object_values.specs.declared.object.Owner.TheVariants.{Script}
use Rattle.pl_code.specs.declared.kinds.ArithmeticOp.TheVariants as a
use Rattle.pl_code.specs.declared.kinds.Width.TheVariants as width
use Rattle.pl_code.specs.declared.kinds.Plain.TheVariants as plain
use Rattle.pl_code.specs.declared.kinds.Numbered.TheVariants as numbered
use Rattle.pl_code.specs.declared.kinds.Slot.TheVariants as slot
use Rattle.pl_code.specs.declared.code.FunCode.{FunCode}
use Rattle.pl_code.specs.declared.code.Instruction.TheVariants as i
use Rattle.typed_tree.specs.declared.operation.Constant.TheVariants as constant
use Rattle.typed_tree.specs.declared.operation.Operation.TheVariants as operation
use Rattle.typed_tree.specs.declared.operation.Operator.TheVariants as operator
use Rattle.typed_tree.specs.declared.operation.Target.TheVariants as target
use Rattle.typed_tree.specs.declared.operation.Gives.TheVariants as gives
use Rattle.typed_tree.specs.declared.program.FunctionKind.TheVariants as function
use Rattle.compiler_relation.specs.Stands.{Compiled}
use Rattle.source_meaning.specs.Tree.{Expr, Literal, Local, Apply, Modify, None', One, Missing, Given, Do, While, Return, Finish, Then, Declare, Fun}

abbrev pub int : Ty
int = t.Prim prim.Int

abbrev pub x : List ℕ
x = 120 ∷ []

abbrev pub number : ℕ → Expr
number n = Literal 0 int (constant.Int (pos n))

abbrev pub main : Fun
main = record {
  kind = function.Main;
  captured = [];
  params = [];
  result = int;
  body =
      Declare x int (Given (number 1))
      (Then (While (Given (Apply 0 (t.Prim prim.Boolean) (operation.Operator (operator.Int op.Lt)) (One (Local 0 int x) (One (number 3) None')))) Missing
      (Then (Do (Modify 0 int (target.Local x) None' (record { before = cast.Keep; operator = operator.Int op.Add; after = cast.Keep }) (number 2) gives.New)) Finish))
      (Then (Return (Given (Apply 0 int (operation.Operator (operator.Int op.Add)) (One (Local 0 int x) (One (number 2) None'))))) Finish));
}

abbrev pub code : FunCode
code = record {
  loops = true;
  result = Some slot.I;
  params = [];
  locals = slot.I ∷ [];
  traps = [];
  lines =
      i.Int (pos 1) ∷ i.Numbered numbered.Store 0
      ∷ i.Numbered numbered.Goto 9
      ∷ i.Numbered numbered.Load 0 ∷ i.Int (pos 2) ∷ i.Arithmetic a.Add width.Int ∷ i.Plain plain.Dup ∷ i.Numbered numbered.Store 0 ∷ i.Plain plain.Pop
      ∷ i.Numbered numbered.Load 0 ∷ i.Int (pos 3) ∷ i.Arithmetic a.Lt width.Int ∷ i.Numbered numbered.Loop 3
      ∷ i.Numbered numbered.Load 0 ∷ i.Int (pos 2) ∷ i.Arithmetic a.Add width.Int ∷ i.Plain plain.Ret
      ∷ [];
}

-- These lines are the code of this program.
abbrev pub IsExample : Type 0
IsExample = Compiled Script (main ∷ []) (code ∷ [])
