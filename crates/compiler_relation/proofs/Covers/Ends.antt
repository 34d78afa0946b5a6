-- The code of a part ends no earlier than it begins.
use Rattle.std.proofs.Common.{◌≤◌, ℕ, suc, Bool, true, false, List, [], ◌∷◌, Option, arith}
use Rattle.pl_types.specs.declared.ty.Ty.{Ty}
use Rattle.pl_code.specs.declared.code.Instruction.{Instruction}
use Rattle.typed_tree.specs.declared.operation.Change.{Change}
use Rattle.typed_tree.specs.declared.operation.Gives.{Gives}
use Rattle.typed_tree.specs.declared.operation.Operation.{Operation}
use Rattle.typed_tree.specs.declared.operation.Target.TheVariants as target
use Rattle.source_meaning.specs.Tree.{Expr, Literal, Quoted, Local, Apply, Guarded, Logic, Conditional, Elvis, Assign, Modify, Lambda, Reference, NewReference, Exprs, None', One, Maybe, Missing, Given, Stmt, Do, If, While, DoWhile, Try, Block, Break, Continue, Return, Throw, Stmts, Finish, Then, Declare, Catches, NoCatch, Catch, type_of}
use Rattle.compiler_relation.specs.Representation.{representation_of}
use Rattle.compiler_relation.specs.Parts.{default_code, operator_code, cast_code, operation_code, member_code, without_null, pops, read_code, write_code, kept_under, copies, kept_before, kept_behind}
use Rattle.compiler_relation.specs.Stands.{all_fall, goes_on, end_all, count, change_first, change_last, end_read, elvis_right, end_expr, end_exprs, end_skip, end_dropped, jumps_over, end_update, end_test, end_last, end_value, end_returned, end_stmt, end_stmts, end_catches, end_tried, end_caught}

pub all_grow : (line : ℕ) (list : List Instruction) → line ≤ end_all line list
all_grow line [] = omega arith
all_grow line (one ∷ more) = omega (arith, all_grow (suc line) more)

pub first_grows : (n : ℕ) (gives : Gives) (change : Change) (of : Ty) (q : ℕ) → q ≤ change_first n gives change of q
first_grows n gives change of q = omega (arith, all_grow q (kept_before n gives), all_grow (end_all q (kept_before n gives)) (cast_code change.before of))

pub last_grows : (n : ℕ) (gives : Gives) (change : Change) (of : Ty) (q : ℕ) → q ≤ change_last n gives change of q
last_grows n gives change of q =
    omega (arith, all_grow q (operator_code change.operator), all_grow (end_all q (operator_code change.operator)) (cast_code change.after of), all_grow (end_all (end_all q (operator_code change.operator)) (cast_code change.after of)) (kept_behind n gives))

pub read_grows : (n : ℕ) (read : Option Operation) (of : Ty) (q : ℕ) → q ≤ end_read n read of q
read_grows n read of q = omega (arith, all_grow q (copies n), all_grow (end_all q (copies n)) (read_code read of n))

mutual
  pub expr_grows : (p : ℕ) (a : Expr) → p ≤ end_expr p a
  expr_grows p (Literal at of c) = omega arith
  expr_grows p (Quoted at of text) = omega arith
  expr_grows p (Local at of x) = omega arith
  expr_grows p (Apply at of o parts) = omega (arith, exprs_grow p parts, all_grow (end_exprs p parts) (operation_code o of (count parts)))
  expr_grows p (Guarded at of o None') = omega arith
  expr_grows p (Guarded at of o (One a others)) =
      omega (arith, expr_grows p a, exprs_grow (suc (suc (end_expr p a))) others, all_grow (end_exprs (suc (suc (end_expr p a))) others) (member_code o (suc (count others))), all_grow (end_all (end_exprs (suc (suc (end_expr p a))) others) (member_code o (suc (count others)))) (without_null (representation_of of)))
  expr_grows p (Logic at of o left right) = omega (arith, expr_grows p left, expr_grows (suc (end_expr p left)) right)
  expr_grows p (Conditional at of c a b) =
      omega (arith, expr_grows p c, expr_grows (suc (end_expr p c)) a, expr_grows (suc (end_expr (suc (end_expr p c)) a)) b)
  expr_grows p (Elvis at of left right) = omega (arith, expr_grows p left, expr_grows (elvis_right (end_expr p left)) right)
  expr_grows p (Assign at of (target.Local x) parts value) = omega (arith, expr_grows p value)
  expr_grows p (Assign at of (target.Place read write) parts value) =
      let q = end_expr (end_exprs p parts) value in
      omega (arith, exprs_grow p parts, expr_grows (end_exprs p parts) value, all_grow q (kept_under (count parts)), all_grow (end_all q (kept_under (count parts))) (write_code write of))
  expr_grows p (Modify at of (target.Local x) parts change right gives) =
      let q = change_first 0 gives change of (suc p) in
      omega (arith, first_grows 0 gives change of (suc p), expr_grows (change_first 0 gives change of (suc p)) right, last_grows 0 gives change of (end_expr q right))
  expr_grows p (Modify at of (target.Place read write) parts change right gives) =
      let n = count parts in
      let r = end_read n read of (end_exprs p parts) in
      let q = change_first n gives change of r in
      let z = change_last n gives change of (end_expr q right) in
      omega (
        arith,
        exprs_grow p parts,
        read_grows n read of (end_exprs p parts),
        first_grows n gives change of r,
        expr_grows (change_first (count parts) gives change of (end_read (count parts) read of (end_exprs p parts))) right,
        last_grows n gives change of (end_expr q right),
        all_grow z (write_code write of),
      )
  expr_grows p (Lambda at of interface function) = omega arith
  expr_grows p (Reference at of interface class name) = omega arith
  expr_grows p (NewReference at of interface made) = omega arith

  pub exprs_grow : (p : ℕ) (parts : Exprs) → p ≤ end_exprs p parts
  exprs_grow p None' = omega arith
  exprs_grow p (One a others) = omega (arith, expr_grows p a, exprs_grow (end_expr p a) others)

pub skip_grows : (falls : Bool) (p : ℕ) → p ≤ end_skip falls p
skip_grows true p = omega arith
skip_grows false p = omega arith

pub dropped_grows : (p : ℕ) (a : Expr) → p ≤ end_dropped p a
dropped_grows p a = omega (arith, expr_grows p a, all_grow (end_expr p a) (pops (representation_of (type_of a))))

pub update_grows : (goes : Bool) (p : ℕ) (update : Maybe) → p ≤ end_update goes p update
update_grows false p update = omega arith
update_grows true p Missing = omega arith
update_grows true p (Given a) = dropped_grows p a

pub test_grows : (p : ℕ) (test : Maybe) → p ≤ end_test p test
test_grows p Missing = omega arith
test_grows p (Given a) = expr_grows p a

pub last_test_grows : (goes : Bool) (p : ℕ) (test : Maybe) → p ≤ end_last goes p test
last_test_grows false p test = omega arith
last_test_grows true p Missing = omega arith
last_test_grows true p (Given a) = omega (arith, expr_grows p a)

pub value_grows : (p : ℕ) (value : Maybe) (of : Ty) → p ≤ end_value p value of
value_grows p Missing of = all_grow p (default_code of)
value_grows p (Given a) of = expr_grows p a

pub returned_grows : (p : ℕ) (value : Maybe) → p ≤ end_returned p value
returned_grows p Missing = omega arith
returned_grows p (Given a) = expr_grows p a

mutual
  pub stmt_grows : (p : ℕ) (t : Stmt) → p ≤ end_stmt p t
  stmt_grows p (Do a) = dropped_grows p a
  stmt_grows p (If c a b) =
      omega (arith, expr_grows p c, stmts_grow (suc (end_expr p c)) a, skip_grows (all_fall a) (end_stmts (suc (end_expr p c)) a), stmts_grow (end_skip (all_fall a) (end_stmts (suc (end_expr p c)) a)) b)
  stmt_grows p (While test update body) =
      omega (arith, stmts_grow (suc p) body, update_grows (goes_on body) (end_stmts (suc p) body) update, test_grows (end_update (goes_on body) (end_stmts (suc p) body) update) test)
  stmt_grows p (DoWhile body test) = omega (arith, stmts_grow (suc p) body, last_test_grows (goes_on body) (end_stmts (suc p) body) test)
  stmt_grows p (Try body catches) = omega (arith, stmts_grow p body, skip_grows (all_fall body) (end_stmts p body), catches_grow (end_tried p body) catches)
  stmt_grows p (Block body) = stmts_grow p body
  stmt_grows p Break = omega arith
  stmt_grows p Continue = omega arith
  stmt_grows p (Return value) = omega (arith, returned_grows p value)
  stmt_grows p (Throw value) = omega (arith, expr_grows p value)

  pub stmts_grow : (p : ℕ) (ts : Stmts) → p ≤ end_stmts p ts
  stmts_grow p Finish = omega arith
  stmts_grow p (Then t rest) = omega (arith, stmt_grows p t, stmts_grow (end_stmt p t) rest)
  stmts_grow p (Declare x of value rest) = omega (arith, value_grows p value of, stmts_grow (suc (end_value p value of)) rest)

  pub catches_grow : (p : ℕ) (cs : Catches) → p ≤ end_catches p cs
  catches_grow p NoCatch = omega arith
  catches_grow p (Catch class x body rest) =
      omega (arith, stmts_grow (suc p) body, skip_grows (jumps_over body rest) (end_stmts (suc p) body), catches_grow (end_caught p body rest) rest)
