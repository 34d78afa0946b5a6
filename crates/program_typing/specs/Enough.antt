-- A bound at which no well-formed program comes to More.
use Rattle.std.specs.Prelude.{◌≡◌, ℕ, suc, ◌+◌, ◌*◌, ◌≤◌, List, [], ◌∷◌, Some, slice_get}
use Rattle.object_values.specs.declared.value.Value.{Value}
use Rattle.object_values.specs.declared.object.Owner.TheVariants.{Script}
use Rattle.source_meaning.specs.World.{World, Limits}
use Rattle.source_meaning.specs.Tree.{Expr, Literal, Quoted, Local, Apply, Guarded, Logic, Conditional, Elvis, Assign, Modify, Lambda, Reference, NewReference, Exprs, None', One, Maybe, Missing, Given, Stmt, Do, If, While, DoWhile, Try, Block, Break, Continue, Return, Throw, Stmts, Finish, Then, Declare, Catches, NoCatch, Catch, Fun, Program, Programs}
use Rattle.source_meaning.specs.Meaning.{Env, Flow, Out, Done, Thrown, Over, More, entry, Returned, Normal, Broke, Continued, meaning}
use Rattle.pl_types.specs.declared.ty.Ty.{Ty}
use Rattle.program_typing.specs.Types.{Has, HaveAll}
use Rattle.program_typing.specs.Agreeing.{types_in, AreWellFormed}

-- ---- the number of nodes and list cells

abbrev mutual
  pub expr_size : Expr → ℕ
  expr_size (Literal at of c) = 1
  expr_size (Quoted at of text) = 1
  expr_size (Local at of x) = 1
  expr_size (Apply at of o parts) = suc (exprs_size parts)
  expr_size (Guarded at of o parts) = suc (exprs_size parts)
  expr_size (Logic at of o left right) = suc (expr_size left + expr_size right)
  expr_size (Conditional at of c a b) = suc (expr_size c + (expr_size a + expr_size b))
  expr_size (Elvis at of left right) = suc (expr_size left + expr_size right)
  expr_size (Assign at of to parts value) = suc (exprs_size parts + expr_size value)
  expr_size (Modify at of to parts change right gives) = suc (exprs_size parts + expr_size right)
  expr_size (Lambda at of interface function) = 1
  expr_size (Reference at of interface class name) = 1
  expr_size (NewReference at of interface made) = 1

  pub exprs_size : Exprs → ℕ
  exprs_size None' = 1
  exprs_size (One a others) = suc (expr_size a + exprs_size others)

abbrev pub maybe_size : Maybe → ℕ
maybe_size Missing = 0
maybe_size (Given a) = expr_size a

abbrev mutual
  pub stmt_size : Stmt → ℕ
  stmt_size (Do a) = suc (expr_size a)
  stmt_size (If c a b) = suc (expr_size c + (stmts_size a + stmts_size b))
  stmt_size (While test update body) = suc (maybe_size test + (maybe_size update + stmts_size body))
  stmt_size (DoWhile body test) = suc (stmts_size body + maybe_size test)
  stmt_size (Try body catches) = suc (stmts_size body + catches_size catches)
  stmt_size (Block body) = suc (stmts_size body)
  stmt_size Break = 1
  stmt_size Continue = 1
  stmt_size (Return value) = suc (maybe_size value)
  stmt_size (Throw value) = suc (expr_size value)

  pub stmts_size : Stmts → ℕ
  stmts_size Finish = 1
  stmts_size (Then t rest) = suc (stmt_size t + stmts_size rest)
  stmts_size (Declare x of value rest) = suc (maybe_size value + stmts_size rest)

  pub catches_size : Catches → ℕ
  catches_size NoCatch = 1
  catches_size (Catch class name body rest) = suc (stmts_size body + catches_size rest)

abbrev pub size_of : Program → ℕ
size_of [] = 0
size_of (f ∷ fs) = suc (stmts_size f.body + size_of fs)

-- of both texts
abbrev pub enough : Programs → World → ℕ
enough funs w = (w.ticks + 1) * (size_of funs.script + size_of funs.prelude + 8)

-- ---- the law

-- a flow out of a whole function, which gives a value of a type
abbrev pub FlowOut : Ty → Flow → Type 0
FlowOut of (Returned value) = Has of value
FlowOut of Normal = Unit {0}
FlowOut of Broke = ⊥
FlowOut of Continued = ⊥

-- It is not More, and what it gives is of the type that it should be.
abbrev pub IsEnough : Ty → Out Flow → Type 0
IsEnough of (Done flow s e) = FlowOut of flow
IsEnough of (Thrown id place s e) = Unit {0}
IsEnough of (Over limit place w) = Unit {0}
IsEnough of More = ⊥

-- A main script comes to an end at a bound that is enough, on all arguments of its parameters' types, where the programs of both texts are
-- well formed.
abbrev pub ComesToAnEnd : Type 0
ComesToAnEnd =
    (funs : Programs) (limits : Limits) → AreWellFormed funs limits → (main : Fun) → slice_get funs.script 0 ≡ Some main
    → (args : List Value) → HaveAll (types_in main.params) args → (w : World) (bound : ℕ) → enough funs w ≤ bound
    → (e : Env) × (entry main.params args [] ≡ Some e)
    × IsEnough main.result ((meaning funs limits bound).stmts (record { text = Script; depth = 0 }) (record { world = w; turns = 0 }) e main.body)
