-- Expressions among lines over which the traps are some handlers: their instructions stand there with these handlers.
use Rattle.std.proofs.Common.{◌≡◌, ℕ, suc, ◌<◌, ◌≤◌, Bool, true, false, List, [], ◌∷◌, arith}
use Rattle.pl_types.specs.declared.ty.Ty.{Ty}
use Rattle.pl_code.specs.declared.code.FunCode.{FunCode}
use Rattle.pl_code.specs.declared.code.Instruction.{Instruction}
use Rattle.typed_tree.specs.declared.operation.Target.TheVariants as target
use Rattle.source_meaning.specs.Tree.{Expr, Literal, Quoted, Local, Apply, Guarded, Logic, Conditional, Elvis, Assign, Modify, Lambda, Reference, NewReference, Exprs, None', One, Maybe, Missing, Given, Program, type_of}
use Rattle.code_meaning.specs.Machine.{Handlers, traps_at}
use Rattle.compiler_relation.specs.Representation.{Representation, representation_of}
use Rattle.compiler_relation.specs.Parts.{default_code, operator_code, cast_code, operation_code, member_code, without_null, pops, read_code, write_code, kept_under, copies, kept_before, kept_behind}
use Rattle.compiler_relation.specs.Stands.{Scope, At, AllAt, ExprAt, ExprsAt, end_all, count, change_first, change_last, end_read, elvis_right, end_expr, end_exprs, end_skip, end_dropped, end_update, end_test, end_last, end_value, end_returned, SkipAt, DroppedAt, UpdateAt, TestAt, LastAt, ValueAt, ReturnedAt}
use Rattle.compiler_relation.specs.Placed.{untrapped}
use Rattle.compiler_relation.proofs.Covers.Ends.{all_grow, expr_grows, exprs_grow}

module _ (funs : Program) (f : FunCode) (h : Handlers) (lo hi : ℕ) (over : (line : ℕ) → lo ≤ line → line < hi → traps_at f.traps line ≡ h) where
  pub one_placed : (line : ℕ) (one : Instruction) → lo ≤ line → line < hi → At (untrapped f) [] line one → At f h line one
  one_placed line one low high x = record { here = x.here; traps = over line low high }

  pub all_placed : (line : ℕ) (list : List Instruction) → lo ≤ line → end_all line list ≤ hi → AllAt (untrapped f) [] line list → AllAt f h line list
  all_placed line [] low high x = tt
  all_placed line (one ∷ more) low high x =
      (one_placed line one low (omega (arith, all_grow (suc line) more)) x.0, all_placed (suc line) more (omega arith) high x.1)

  mutual
    pub expr_placed : (g : Scope) (p : ℕ) (a : Expr) → lo ≤ p → end_expr p a ≤ hi → ExprAt funs (untrapped f) [] g p a → ExprAt funs f h g p a
    expr_placed g p (Literal at of c) low high x = (one_placed p _ low (omega arith) x.0, x.1)
    expr_placed g p (Quoted at of text) low high x = (one_placed p _ low (omega arith) x.0, x.1)
    expr_placed g p (Local at of name) low high x = (x.0, x.1, x.2, one_placed p _ low (omega arith) x.3)
    expr_placed g p (Apply at of o parts) low high x =
        let e = exprs_grow p parts in
        let d = all_grow (end_exprs p parts) (operation_code o of (count parts)) in
        (exprs_placed g p parts low (omega arith) x.0, all_placed (end_exprs p parts) (operation_code o of (count parts)) (omega arith) high x.1, x.2)
    expr_placed g p (Guarded at of o None') low high x = tt
    expr_placed g p (Guarded at of o (One a others)) low high x =
        let e = expr_grows p a in
        let d = exprs_grow (suc (suc (end_expr p a))) others in
        let c = all_grow (end_exprs (suc (suc (end_expr p a))) others) (member_code o (suc (count others))) in
        let b = all_grow (end_all (end_exprs (suc (suc (end_expr p a))) others) (member_code o (suc (count others)))) (without_null (representation_of of)) in (
          expr_placed g p a low (omega arith) x.0,
          one_placed (end_expr p a) _ (omega arith) (omega arith) x.1,
          one_placed (suc (end_expr p a)) _ (omega arith) (omega arith) x.2,
          exprs_placed g (suc (suc (end_expr p a))) others (omega arith) (omega arith) x.3,
          all_placed (end_exprs (suc (suc (end_expr p a))) others) (member_code o (suc (count others))) (omega arith) (omega arith) x.4,
          all_placed (end_all (end_exprs (suc (suc (end_expr p a))) others) (member_code o (suc (count others)))) (without_null (representation_of of)) (omega arith) (omega arith) x.5,
          x.6,
        )
    expr_placed g p (Logic at of o left right) low high x =
        let e = expr_grows p left in
        let d = expr_grows (suc (end_expr p left)) right in (
          expr_placed g p left low (omega arith) x.0,
          one_placed (end_expr p left) _ (omega arith) (omega arith) x.1,
          expr_placed g (suc (end_expr p left)) right (omega arith) (omega arith) x.2,
          one_placed (end_expr (suc (end_expr p left)) right) _ (omega arith) (omega arith) x.3,
          one_placed (suc (end_expr (suc (end_expr p left)) right)) _ (omega arith) (omega arith) x.4,
          x.5,
          x.6,
          x.7,
        )
    expr_placed g p (Conditional at of c a b) low high x =
        let e = expr_grows p c in
        let d = expr_grows (suc (end_expr p c)) a in
        let r = expr_grows (suc (end_expr (suc (end_expr p c)) a)) b in (
          expr_placed g p c low (omega arith) x.0,
          one_placed (end_expr p c) _ (omega arith) (omega arith) x.1,
          expr_placed g (suc (end_expr p c)) a (omega arith) (omega arith) x.2,
          one_placed (end_expr (suc (end_expr p c)) a) _ (omega arith) (omega arith) x.3,
          expr_placed g (suc (end_expr (suc (end_expr p c)) a)) b (omega arith) (omega arith) x.4,
          x.5,
          x.6,
          x.7,
        )
    expr_placed g p (Elvis at of left right) low high x =
        let e = expr_grows p left in
        let d = expr_grows (elvis_right (end_expr p left)) right in (
          expr_placed g p left low (omega arith) x.0,
          one_placed (end_expr p left) _ (omega arith) (omega arith) x.1,
          one_placed (suc (end_expr p left)) _ (omega arith) (omega arith) x.2,
          one_placed (suc (suc (end_expr p left))) _ (omega arith) (omega arith) x.3,
          one_placed (suc (suc (suc (end_expr p left)))) _ (omega arith) (omega arith) x.4,
          expr_placed g (elvis_right (end_expr p left)) right (omega arith) (omega arith) x.5,
          x.6,
          x.7,
          x.8,
        )
    expr_placed g p (Assign at of (target.Local name) parts value) low high x =
        let e = expr_grows p value in (
          expr_placed g p value low (omega arith) x.0,
          one_placed (end_expr p value) _ (omega arith) (omega arith) x.1,
          (x.2.0, x.2.1, x.2.2, x.2.3, one_placed (suc (end_expr p value)) _ (omega arith) (omega arith) x.2.4),
        )
    expr_placed g p (Assign at of (target.Place read write) parts value) low high x =
        let e = exprs_grow p parts in
        let d = expr_grows (end_exprs p parts) value in
        let c = all_grow (end_expr (end_exprs p parts) value) (kept_under (count parts)) in
        let b = all_grow (end_all (end_expr (end_exprs p parts) value) (kept_under (count parts))) (write_code write of) in (
          exprs_placed g p parts low (omega arith) x.0,
          expr_placed g (end_exprs p parts) value (omega arith) (omega arith) x.1,
          all_placed (end_expr (end_exprs p parts) value) (kept_under (count parts)) (omega arith) (omega arith) x.2,
          all_placed (end_all (end_expr (end_exprs p parts) value) (kept_under (count parts))) (write_code write of) (omega arith) high x.3,
          x.4,
          x.5,
        )
    expr_placed g p (Modify at of (target.Local name) parts change right gives) low high x =
        let b = all_grow (suc p) (kept_before 0 gives) in
        let c = all_grow (end_all (suc p) (kept_before 0 gives)) (cast_code change.before of) in
        let d = expr_grows (change_first 0 gives change of (suc p)) right in
        let q = end_expr (change_first 0 gives change of (suc p)) right in
        let e = all_grow q (operator_code change.operator) in
        let r = all_grow (end_all q (operator_code change.operator)) (cast_code change.after of) in
        let s = all_grow (end_all (end_all q (operator_code change.operator)) (cast_code change.after of)) (kept_behind 0 gives) in (
          x.0,
          x.1,
          x.2,
          one_placed p _ low (omega arith) x.3,
          all_placed (suc p) (kept_before 0 gives) (omega arith) (omega arith) x.4,
          all_placed (end_all (suc p) (kept_before 0 gives)) (cast_code change.before of) (omega arith) (omega arith) x.5,
          expr_placed g (change_first 0 gives change of (suc p)) right (omega arith) (omega arith) x.6,
          all_placed q (operator_code change.operator) (omega arith) (omega arith) x.7,
          all_placed (end_all q (operator_code change.operator)) (cast_code change.after of) (omega arith) (omega arith) x.8,
          all_placed (end_all (end_all q (operator_code change.operator)) (cast_code change.after of)) (kept_behind 0 gives) (omega arith) (omega arith) x.9,
          one_placed (change_last 0 gives change of q) _ (omega arith) (omega arith) x.10,
          x.11,
        )
    expr_placed g p (Modify at of (target.Place read write) parts change right gives) low high x =
        let n = count parts in
        let p' = end_exprs p parts in
        let r = end_read n read of p' in
        let q = end_expr (change_first n gives change of r) right in
        let z = change_last n gives change of q in
        let b = exprs_grow p parts in
        let c = all_grow p' (copies n) in
        let d = all_grow (end_all p' (copies n)) (read_code read of n) in
        let e = all_grow r (kept_before n gives) in
        let e' = all_grow (end_all r (kept_before n gives)) (cast_code change.before of) in
        let k = expr_grows (change_first (count parts) gives change of (end_read (count parts) read of (end_exprs p parts))) right in
        let k' = all_grow q (operator_code change.operator) in
        let w = all_grow (end_all q (operator_code change.operator)) (cast_code change.after of) in
        let w' = all_grow (end_all (end_all q (operator_code change.operator)) (cast_code change.after of)) (kept_behind n gives) in
        let y = all_grow z (write_code write of) in (
          exprs_placed g p parts low (omega arith) x.0,
          all_placed p' (copies n) (omega arith) (omega arith) x.1,
          all_placed (end_all p' (copies n)) (read_code read of n) (omega arith) (omega arith) x.2,
          all_placed r (kept_before n gives) (omega arith) (omega arith) x.3,
          all_placed (end_all r (kept_before n gives)) (cast_code change.before of) (omega arith) (omega arith) x.4,
          expr_placed g (change_first (count parts) gives change of (end_read (count parts) read of (end_exprs p parts))) right (omega arith) (omega arith) x.5,
          all_placed q (operator_code change.operator) (omega arith) (omega arith) x.6,
          all_placed (end_all q (operator_code change.operator)) (cast_code change.after of) (omega arith) (omega arith) x.7,
          all_placed (end_all (end_all q (operator_code change.operator)) (cast_code change.after of)) (kept_behind n gives) (omega arith) (omega arith) x.8,
          all_placed z (write_code write of) (omega arith) high x.9,
          x.10,
          x.11,
          x.12,
        )
    expr_placed g p (Lambda at of interface function) low high x = tt
    expr_placed g p (Reference at of interface class name) low high x = tt
    expr_placed g p (NewReference at of interface made) low high x = tt

    pub exprs_placed : (g : Scope) (p : ℕ) (parts : Exprs) → lo ≤ p → end_exprs p parts ≤ hi → ExprsAt funs (untrapped f) [] g p parts → ExprsAt funs f h g p parts
    exprs_placed g p None' low high x = tt
    exprs_placed g p (One a others) low high x =
        let e = expr_grows p a in
        let d = exprs_grow (end_expr p a) others in
        (expr_placed g p a low (omega arith) x.0, exprs_placed g (end_expr p a) others (omega arith) high x.1)

  pub skip_placed : (falls : Bool) (p to : ℕ) → lo ≤ p → end_skip falls p ≤ hi → SkipAt (untrapped f) [] falls p to → SkipAt f h falls p to
  skip_placed true p to low high x = one_placed p _ low (omega arith) x
  skip_placed false p to low high x = tt

  pub dropped_placed : (g : Scope) (p : ℕ) (a : Expr) → lo ≤ p → end_dropped p a ≤ hi → DroppedAt funs (untrapped f) [] g p a → DroppedAt funs f h g p a
  dropped_placed g p a low high x =
      let e = expr_grows p a in
      let d = all_grow (end_expr p a) (pops (representation_of (type_of a))) in
      (expr_placed g p a low (omega arith) x.0, all_placed (end_expr p a) (pops (representation_of (type_of a))) (omega arith) high x.1)

  pub update_placed : (g : Scope) (goes : Bool) (p : ℕ) (update : Maybe) → lo ≤ p → end_update goes p update ≤ hi → UpdateAt funs (untrapped f) [] g goes p update → UpdateAt funs f h g goes p update
  update_placed g false p update low high x = tt
  update_placed g true p Missing low high x = tt
  update_placed g true p (Given a) low high x = dropped_placed g p a low high x

  pub test_placed : (g : Scope) (p : ℕ) (test : Maybe) → lo ≤ p → end_test p test ≤ hi → TestAt funs (untrapped f) [] g p test → TestAt funs f h g p test
  test_placed g p Missing low high x = one_placed p _ low (omega arith) x
  test_placed g p (Given a) low high x = (expr_placed g p a low high x.0, x.1)

  pub last_placed : (g : Scope) (goes : Bool) (p : ℕ) (test : Maybe) (to : ℕ) → lo ≤ p → end_last goes p test ≤ hi → LastAt funs (untrapped f) [] g goes p test to → LastAt funs f h g goes p test to
  last_placed g false p test to low high x = tt
  last_placed g true p Missing to low high x = tt
  last_placed g true p (Given a) to low high x =
      let e = expr_grows p a in
      (expr_placed g p a low (omega arith) x.0, x.1, one_placed (end_expr p a) _ (omega arith) (omega arith) x.2)

  pub value_placed : (g : Scope) (p : ℕ) (value : Maybe) (of : Ty) → lo ≤ p → end_value p value of ≤ hi → ValueAt funs (untrapped f) [] g p value of → ValueAt funs f h g p value of
  value_placed g p Missing of low high x = all_placed p (default_code of) low high x
  value_placed g p (Given a) of low high x = (expr_placed g p a low high x.0, x.1)

  pub returned_placed : (g : Scope) (k : Representation) (p : ℕ) (value : Maybe) → lo ≤ p → end_returned p value ≤ hi → ReturnedAt funs (untrapped f) [] g k p value → ReturnedAt funs f h g k p value
  returned_placed g k p Missing low high x = x
  returned_placed g k p (Given a) low high x = (expr_placed g p a low high x.0, x.1)
