-- What agrees in a scope agrees in one into which a variable is put, of a name that was not in sight there.
use Rattle.std.proofs.Common.{◌≡◌, Bool, true, false, ◌∷◌, Option, Some, None, refl, sym, ap, ◌∙◌}
use Rattle.std.specs.Prelude.{if◌then◌else◌}
use Rattle.std.specs.Str.{bytes_eq}
use Rattle.std.proofs.lemmas.Slice.Eq.{bytes_eq-Decides}
use Rattle.pl_types.specs.declared.ty.Ty.{Ty}
use Rattle.pl_types.specs.declared.ty.Ty.TheVariants as t
use Rattle.typed_tree.specs.declared.operation.Target.TheVariants as target
use Rattle.source_typing.specs.Tree.{Name, Expr, Literal, Quoted, Local, Apply, Guarded, Logic, Conditional, Elvis, Assign, Modify, Lambda, Reference, NewReference, Exprs, None', One, Maybe, Missing, Given, Stmt, Do, If, While, DoWhile, Try, Block, Break, Continue, Return, Throw, Stmts, Finish, Then, Declare, Catches, NoCatch, Catch, Variable}
use Rattle.source_typing.specs.Agreeing.{Known as Script, Scope, variable_of, IsVariable, ExprAgrees, ExprsAgree, TestAgrees, UpdateAgrees, BeginAgrees, ReturnAgrees, StmtAgrees, StmtsAgree, CatchesAgree}

-- the second scope is the first with this variable in it
pub data Inserted (it : Variable) : Scope → Scope → Type 0 where
  Here : {g : Scope} → variable_of g it.name ≡ None → Inserted it g (it ∷ g)
  Behind : {g more : Scope} (y : Variable) → Inserted it g more → Inserted it (y ∷ g) (y ∷ more)

either_none : (c : Bool) (v w : Variable) (o : Option Variable) → c ≡ false → o ≡ Some v → (if c then Some w else o) ≡ Some v
either_none true v w o e h = cc
either_none false v w o e h = h

no_name : (it : Variable) (g : Scope) (x : Name) (v : Variable) → variable_of g it.name ≡ None → variable_of g x ≡ Some v → bytes_eq x it.name ≡ false
no_name it g x v none some = pick (bytes_eq x it.name) refl
  where
    pick : (c : Bool) → bytes_eq x it.name ≡ c → c ≡ false
    pick true is =
        let same : x ≡ it.name = (bytes_eq-Decides x it.name).0 is in
        let never : None ≡ Some v = sym none ∙ (ap (variable_of g) (sym same) ∙ some) in
        cc
    pick false is = refl

seen : (it : Variable) (g more : Scope) → Inserted it g more → (x : Name) (v : Variable) → variable_of g x ≡ Some v → variable_of more x ≡ Some v
seen it g more (Here none) x v h = either_none (bytes_eq x it.name) v it (variable_of g x) (no_name it g x v none h) h
seen it g more (Behind {g = g'} {more = more'} y i) x v h = pick (seen it g' more' i x v) (bytes_eq x y.name) h
  where
    pick : (variable_of g' x ≡ Some v → variable_of more' x ≡ Some v) → (c : Bool) → (if c then Some y else variable_of g' x) ≡ Some v → (if c then Some y else variable_of more' x) ≡ Some v
    pick rest true h = h
    pick rest false h = rest h

module _ (funs : Script) (it : Variable) where
  variable_seen : (g more : Scope) (x : Name) (of : Ty) → Inserted it g more → IsVariable g x of → IsVariable more x of
  variable_seen g more x of i v = record { variable = v.variable; is = seen it g more i x v.variable v.is; has = v.has }

  mutual
    pub expr_inserted : (x : Expr) (g more : Scope) → Inserted it g more → ExprAgrees funs g x → ExprAgrees funs more x
    expr_inserted (Literal at of c) g more i a = a
    expr_inserted (Quoted at of text) g more i a = a
    expr_inserted (Local at of x) g more i a = variable_seen g more x of i a
    expr_inserted (Apply at of o parts) g more i a = (exprs_inserted parts g more i a.0, a.1)
    expr_inserted (Guarded at of o None') g more i a = absurd a
    expr_inserted (Guarded at of o (One x others)) g more i a = (expr_inserted x g more i a.0, exprs_inserted others g more i a.1, a.2)
    expr_inserted (Logic at of o left right) g more i a = (expr_inserted left g more i a.0, expr_inserted right g more i a.1, a.2, a.3, a.4)
    expr_inserted (Conditional at of c x y) g more i a = (expr_inserted c g more i a.0, expr_inserted x g more i a.1, expr_inserted y g more i a.2, a.3, a.4, a.5)
    expr_inserted (Elvis at of left right) g more i a = (expr_inserted left g more i a.0, expr_inserted right g more i a.1, a.2, a.3, a.4)
    expr_inserted (Assign at of (target.Local x) parts value) g more i a = (expr_inserted value g more i a.0, variable_seen g more x of i a.1, a.2)
    expr_inserted (Assign at of (target.Place read write) parts value) g more i a = (exprs_inserted parts g more i a.0, expr_inserted value g more i a.1, a.2, a.3, a.4)
    expr_inserted (Modify at of (target.Local x) parts change right gives) g more i a = (expr_inserted right g more i a.0, variable_seen g more x of i a.1, a.2)
    expr_inserted (Modify at of (target.Place read write) parts change right gives) g more i a = (exprs_inserted parts g more i a.0, expr_inserted right g more i a.1, a.2, a.3, a.4, a.5)
    expr_inserted (Lambda at of interface function) g more i a = absurd a
    expr_inserted (Reference at of interface class name) g more i a = absurd a
    expr_inserted (NewReference at of interface made) g more i a = absurd a

    exprs_inserted : (xs : Exprs) (g more : Scope) → Inserted it g more → ExprsAgree funs g xs → ExprsAgree funs more xs
    exprs_inserted None' g more i a = tt
    exprs_inserted (One x others) g more i a = (expr_inserted x g more i a.0, exprs_inserted others g more i a.1)

  test_inserted : (x : Maybe) (g more : Scope) → Inserted it g more → TestAgrees funs g x → TestAgrees funs more x
  test_inserted Missing g more i a = tt
  test_inserted (Given x) g more i a = (expr_inserted x g more i a.0, a.1)

  update_inserted : (x : Maybe) (g more : Scope) → Inserted it g more → UpdateAgrees funs g x → UpdateAgrees funs more x
  update_inserted Missing g more i a = tt
  update_inserted (Given x) g more i a = expr_inserted x g more i a

  begin_inserted : (x : Maybe) (of : Ty) (g more : Scope) → Inserted it g more → BeginAgrees funs g x of → BeginAgrees funs more x of
  begin_inserted Missing of g more i a = tt
  begin_inserted (Given x) of g more i a = (expr_inserted x g more i a.0, a.1)

  return_inserted : (x : Maybe) (of : Ty) (g more : Scope) → Inserted it g more → ReturnAgrees funs g x of → ReturnAgrees funs more x of
  return_inserted Missing of g more i a = a
  return_inserted (Given x) of g more i a = (expr_inserted x g more i a.0, a.1)

  mutual
    stmt_inserted : (x : Stmt) (of : Ty) (looped : Bool) (g more : Scope) → Inserted it g more → StmtAgrees funs of looped g x → StmtAgrees funs of looped more x
    stmt_inserted (Do x) of looped g more i a = expr_inserted x g more i a
    stmt_inserted (If c x y) of looped g more i a = (expr_inserted c g more i a.0, a.1, stmts_inserted x of looped g more i a.2, stmts_inserted y of looped g more i a.3)
    stmt_inserted (While test update body) of looped g more i a = (test_inserted test g more i a.0, update_inserted update g more i a.1, stmts_inserted body of true g more i a.2)
    stmt_inserted (DoWhile body test) of looped g more i a = (stmts_inserted body of true g more i a.0, test_inserted test g more i a.1)
    stmt_inserted (Try body catches) of looped g more i a = (stmts_inserted body of looped g more i a.0, catches_inserted catches of looped g more i a.1)
    stmt_inserted (Block body) of looped g more i a = stmts_inserted body of looped g more i a
    stmt_inserted Break of looped g more i a = a
    stmt_inserted Continue of looped g more i a = a
    stmt_inserted (Return value) of looped g more i a = return_inserted value of g more i a
    stmt_inserted (Throw value) of looped g more i a = (expr_inserted value g more i a.0, a.1)

    pub stmts_inserted : (xs : Stmts) (of : Ty) (looped : Bool) (g more : Scope) → Inserted it g more → StmtsAgree funs of looped g xs → StmtsAgree funs of looped more xs
    stmts_inserted Finish of looped g more i a = tt
    stmts_inserted (Then x rest) of looped g more i a = (stmt_inserted x of looped g more i a.0, stmts_inserted rest of looped g more i a.1)
    stmts_inserted (Declare x at value rest) of looped g more i a =
        (begin_inserted value at g more i a.0, a.1, stmts_inserted rest of looped (record { name = x; of = at } ∷ g) (record { name = x; of = at } ∷ more) (Behind (record { name = x; of = at }) i) a.2)

    catches_inserted : (xs : Catches) (of : Ty) (looped : Bool) (g more : Scope) → Inserted it g more → CatchesAgree funs of looped g xs → CatchesAgree funs of looped more xs
    catches_inserted NoCatch of looped g more i a = tt
    catches_inserted (Catch class x body rest) of looped g more i a = (
      a.0,
      stmts_inserted body of looped (record { name = x; of = t.Class class } ∷ g) (record { name = x; of = t.Class class } ∷ more) (Behind (record { name = x; of = t.Class class }) i) a.1,
      catches_inserted rest of looped g more i a.2,
    )
