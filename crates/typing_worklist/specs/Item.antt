-- What is still to be typed, as plain data.
use Rattle.std.specs.Prelude.{ℕ, Bool, List, Option}
use Rattle.pl_tree.specs.declared.operator.Access.{Access}
use Rattle.pl_tree.specs.declared.tree.Argument.{Argument}
use Rattle.pl_tree.specs.declared.tree.Body.{Body}
use Rattle.pl_tree.specs.declared.tree.Block.{Block}
use Rattle.pl_tree.specs.declared.tree.Catch.{Catch}
use Rattle.pl_tree.specs.declared.tree.Declaration.{Declaration}
use Rattle.pl_tree.specs.declared.tree.Entry.{Entry}
use Rattle.pl_tree.specs.declared.tree.Expr.{Expr}
use Rattle.pl_tree.specs.declared.tree.First.{First}
use Rattle.pl_tree.specs.declared.tree.Spelled.{Spelled}
use Rattle.pl_tree.specs.declared.tree.Variable.{Variable}
use Rattle.pl_tree.specs.declared.tree.LambdaBody.{LambdaBody}
use Rattle.pl_tree.specs.declared.tree.Parameter.{Parameter}
use Rattle.pl_tree.specs.declared.tree.Statement.{Statement}
use Rattle.pl_tree.specs.declared.tree.TypeName.{TypeName}
use Rattle.typing_worklist.specs.declared.item.Act.{Act}
use Rattle.typing_worklist.specs.declared.item.StatementAct.{StatementAct}

pub data Item : Type 0 where
  -- expressions
  Value : Expr → Item
  Negated : Expr → ℕ → Item
  -- what is written to, and where an assignment stands that reads it too
  Target : Expr → Option ℕ → Item
  Given : Argument → Item
  Arguments : List Argument → ℕ → Item
  Call : ℕ → List ℕ → List Argument → Item
  Called : ℕ → List ℕ → ℕ → Item
  Method : ℕ → Access → List ℕ → List Argument → Item
  MethodCalled : ℕ → Access → List ℕ → ℕ → Item
  Static : ℕ → Access → TypeName → List ℕ → List Argument → Item
  StaticCalled : ℕ → Access → TypeName → List ℕ → ℕ → Item
  New : ℕ → TypeName → List Argument → Item
  Made : ℕ → TypeName → ℕ → Item
  Read : ℕ → Access → List ℕ → Item
  Numbered : ℕ → Access → List ℕ → Item
  Indexed : ℕ → Item
  Values : List Expr → ℕ → Item
  Entries : List Entry → ℕ → Item
  ListOf : ℕ → List Expr → Item
  MapOf : ℕ → List Entry → Item
  ArrayOf : ℕ → TypeName → List Expr → Item
  ArrayWith : ℕ → TypeName → List Expr → Item
  ArrayMade : ℕ → TypeName → ℕ → Item
  ArrayFilled : ℕ → TypeName → ℕ → Item
  WrittenName : ℕ → Option ℕ → List ℕ → Item
  WrittenNumber : ℕ → Option ℕ → List ℕ → Item
  WrittenIndex : ℕ → Option ℕ → Item
  Field : ℕ → Access → TypeName → List ℕ → Item
  Integer : ℕ → List ℕ → Item
  NegatedInteger : ℕ → ℕ → List ℕ → Item
  Text : ℕ → List ℕ → Item
  Name : ℕ → List ℕ → Item
  Written : ℕ → List ℕ → Item
  TypeOf : TypeName → Item
  Asked : ℕ → TypeName → Item
  InstanceOf : ℕ → TypeName → Item
  Do : Act → Item
  -- statements
  Statement_ : Statement → Bool → Item
  Body_ : Body → Item
  Scoped : Statement → Item
  Block_ : Block → Item
  Looping : Body → Item
  LoopBody : Option Body → Item
  LoopBlock : Block → Item
  Statements : List Statement → ℕ → Bool → Bool → Item
  Reached : List Statement → ℕ → ℕ → Bool → Bool → Item
  For : ℕ → Option First → Option Expr → Option Expr → Option Body → Item
  ForParts : ℕ → Option First → Option Expr → Option Expr → Option Body → Item
  FirstIf : Option First → Item
  ForEach : ℕ → TypeName → Spelled → Expr → Body → Item
  ForIn : ℕ → Spelled → Expr → Body → Item
  Each : ℕ → Spelled → TypeName → Item
  EachDef : ℕ → Spelled → Item
  First_ : First → Item
  Deed : Expr → Item
  Begun : Expr → Item
  Condition : Option Expr → Item
  UpdateIf : Option Expr → Item
  Update : Expr → Item
  Updated : Expr → Item
  Otherwise : ℕ → Option Body → Item
  Returned : ℕ → Option Argument → Item
  Declaration_ : Declaration → Item
  Variables : TypeName → List Variable → ℕ → Item
  Variable_ : TypeName → Variable → Item
  Initial : TypeName → Option Argument → Item
  CastInitial : TypeName → Item
  Declare : Spelled → TypeName → Item
  DoStatement : StatementAct → Item
  -- the catches of a `try` whose block is typed
  Try : ℕ → List Catch → Item
  Catches : List Catch → ℕ → Item
  Catch_ : Catch → Item
  Catching : TypeName → Spelled → Item
  Caught : ℕ → TypeName → List ℕ → Item
  -- what is not built
  Named : Spelled → TypeName → Item
  NamedDef : Spelled → Item
  Parameters : List Parameter → ℕ → Item
  UnbuiltInner : LambdaBody → ℕ → Item
