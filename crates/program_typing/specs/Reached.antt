-- Programs in which each statement is reached: none stands behind one that does not fall.
use Rattle.std.specs.Prelude.{◌≡◌, ℕ, Bool, true, false, Some, slice_get}
use Rattle.source_meaning.specs.Tree.{Stmt, Do, If, While, DoWhile, Try, Block, Break, Continue, Return, Throw, Stmts, Finish, Then, Declare, Catches, NoCatch, Catch, Fun, Program}
use Rattle.source_meaning.specs.Falls.{falls}

-- what may stand behind a statement that falls, or does not
abbrev pub MayFollow : Bool → Stmts → Type 0
MayFollow true rest = Unit {0}
MayFollow false Finish = Unit {0}
MayFollow false (Then t rest) = ⊥
MayFollow false (Declare x of value rest) = ⊥

abbrev mutual
  pub StmtReached : Stmt → Type 0
  StmtReached (Do a) = Unit {0}
  StmtReached (If c a b) = StmtsReached a × StmtsReached b
  StmtReached (While test update body) = StmtsReached body
  StmtReached (DoWhile body test) = StmtsReached body
  StmtReached (Try body catches) = StmtsReached body × CatchesReached catches
  StmtReached (Block body) = StmtsReached body
  StmtReached Break = Unit {0}
  StmtReached Continue = Unit {0}
  StmtReached (Return value) = Unit {0}
  StmtReached (Throw value) = Unit {0}

  pub StmtsReached : Stmts → Type 0
  StmtsReached Finish = Unit {0}
  StmtsReached (Then t rest) = StmtReached t × MayFollow (falls t) rest × StmtsReached rest
  StmtsReached (Declare x of value rest) = StmtsReached rest

  pub CatchesReached : Catches → Type 0
  CatchesReached NoCatch = Unit {0}
  CatchesReached (Catch class x body rest) = StmtsReached body × CatchesReached rest

-- each statement of a program is reached
pub record Reached (funs : Program) : Type 0 where
  pub each : (number : ℕ) (fun : Fun) → slice_get funs number ≡ Some fun → StmtsReached fun.body
