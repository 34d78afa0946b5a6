-- Typed programs as meanings see them: what a declaration's names reach stands behind it, so that a scope is a part of the tree.
use Rattle.std.specs.Prelude.{ℕ, List, Option}
use Rattle.pl_types.specs.declared.ty.Ty.{Ty}
use Rattle.object_values.specs.declared.object.Owner.{Owner}
use Rattle.object_values.specs.declared.object.Owner.TheVariants as owner
use Rattle.typed_tree.specs.declared.operation.Constant.{Constant}
use Rattle.typed_tree.specs.declared.operation.Operation.{Operation}
use Rattle.typed_tree.specs.declared.operation.Logical.{Logical}
use Rattle.typed_tree.specs.declared.operation.Target.{Target}
use Rattle.typed_tree.specs.declared.operation.Change.{Change}
use Rattle.typed_tree.specs.declared.operation.Gives.{Gives}
use Rattle.typed_tree.specs.declared.program.FunctionKind.{FunctionKind}

-- a name, by its bytes
abbrev pub Name : Type 0
Name = List ℕ

mutual
  -- An expression: its place, its type, and what it does.
  pub data Expr : Type 0 where
    Literal : (at : ℕ) (of : Ty) (constant : Constant) → Expr
    Quoted : (at : ℕ) (of : Ty) (text : List ℕ) → Expr
    Local : (at : ℕ) (of : Ty) (name : Name) → Expr
    Apply : (at : ℕ) (of : Ty) (operation : Operation) (parts : Exprs) → Expr
    Guarded : (at : ℕ) (of : Ty) (operation : Operation) (parts : Exprs) → Expr
    Logic : (at : ℕ) (of : Ty) (operator : Logical) (left right : Expr) → Expr
    Conditional : (at : ℕ) (of : Ty) (condition yes no : Expr) → Expr
    Elvis : (at : ℕ) (of : Ty) (left right : Expr) → Expr
    Assign : (at : ℕ) (of : Ty) (target : Target) (parts : Exprs) (value : Expr) → Expr
    Modify : (at : ℕ) (of : Ty) (target : Target) (parts : Exprs) (change : Change) (right : Expr) (gives : Gives) → Expr
    Lambda : (at : ℕ) (of : Ty) (interface : Option ℕ) (function : ℕ) → Expr
    Reference : (at : ℕ) (of : Ty) (interface : Option ℕ) (class : ℕ) (name : Name) → Expr
    NewReference : (at : ℕ) (of : Ty) (interface : Option ℕ) (made : Ty) → Expr

  pub data Exprs : Type 0 where
    None' : Exprs
    One : (part : Expr) (others : Exprs) → Exprs

-- A test that may be missing, and what is done behind a turn, if anything.
pub data Maybe : Type 0 where
  Missing : Maybe
  Given : (expression : Expr) → Maybe

mutual
  pub data Stmt : Type 0 where
    Do : (expression : Expr) → Stmt
    If : (condition : Expr) (yes no : Stmts) → Stmt
    -- the test, the turn, and what is done behind it
    While : (test update : Maybe) (body : Stmts) → Stmt
    -- the turn, and the test behind it
    DoWhile : (body : Stmts) (test : Maybe) → Stmt
    Try : (body : Stmts) (catches : Catches) → Stmt
    Block : (body : Stmts) → Stmt
    Break Continue : Stmt
    Return : (value : Maybe) → Stmt
    Throw : (value : Expr) → Stmt

  pub data Stmts : Type 0 where
    Finish : Stmts
    Then : (statement : Stmt) (rest : Stmts) → Stmts
    -- a variable, and all that is in its scope
    Declare : (name : Name) (of : Ty) (value : Maybe) (rest : Stmts) → Stmts

  pub data Catches : Type 0 where
    NoCatch : Catches
    Catch : (class : ℕ) (name : Name) (body : Stmts) (rest : Catches) → Catches

pub record Variable : Type 0 where
  pub name : Name
  pub of : Ty

-- a function, a lambda or the main script: what it copies when it is made comes before its parameters
pub record Fun : Type 0 where
  pub kind : FunctionKind
  pub captured : List Variable
  pub params : List Variable
  pub result : Ty
  pub body : Stmts

-- the main script is number 0
abbrev pub Program : Type 0
Program = List Fun

-- The programs of the two texts of a run: the script's, and the prelude's, whose functions are members.
pub record Programs : Type 0 where
  pub script : Program
  pub prelude : Program

abbrev pub functions_in : Programs → Owner → Program
functions_in programs owner.Script = programs.script
functions_in programs owner.Prelude = programs.prelude

abbrev pub type_of : Expr → Ty
type_of (Literal at of c) = of
type_of (Quoted at of t) = of
type_of (Local at of x) = of
type_of (Apply at of o es) = of
type_of (Guarded at of o es) = of
type_of (Logic at of o a b) = of
type_of (Conditional at of c a b) = of
type_of (Elvis at of a b) = of
type_of (Assign at of t es a) = of
type_of (Modify at of t es c a g) = of
type_of (Lambda at of i f) = of
type_of (Reference at of i c x) = of
type_of (NewReference at of i m) = of
