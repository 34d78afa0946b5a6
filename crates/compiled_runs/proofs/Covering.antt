-- The lines of a part's code have rows, all from its first to its end.
use Rattle.std.proofs.Common.{◌≡◌, ℕ, suc, ◌<◌, ◌≤◌, Bool, true, false, ◌&&◌, ltb, pos, List, [], ◌∷◌, ◌++◌, Some, refl, subst, arith}
use Rattle.std.specs.Prelude.{slice_get}
use Rattle.std.specs.List.{list_all}
use Rattle.std.proofs.lemmas.Bool.{ltb-true, ltb-false}
use Rattle.pl_types.specs.declared.ty.Ty.{Ty}
use Rattle.pl_types.specs.declared.ty.Ty.TheVariants as t
use Rattle.pl_code.specs.declared.kinds.Plain.TheVariants as plain
use Rattle.pl_code.specs.declared.kinds.Numbered.TheVariants as numbered
use Rattle.pl_code.specs.declared.code.FunCode.{FunCode}
use Rattle.pl_code.specs.declared.code.Instruction.{Instruction}
use Rattle.pl_code.specs.declared.code.Instruction.TheVariants as i
use Rattle.verifier_soundness.specs.Machine.{Handlers}
use Rattle.typed_tree.specs.declared.operation.Logical.{Logical}
use Rattle.typed_tree.specs.declared.operation.Logical.TheVariants.{And, Or}
use Rattle.typed_tree.specs.declared.operation.Target.TheVariants as target
use Rattle.allowlist.specs.Allow.{AllowList}
use Rattle.member_names.specs.Names.{TextsName}
use Rattle.compiled_shapes.specs.Tree.{Expr, Literal, Quoted, Local, Apply, Guarded, Logic, Conditional, Elvis, Assign, Modify, Lambda, Reference, NewReference, Exprs, None', One, Maybe, Missing, Given, Stmt, Do, If, While, DoWhile, Try, Block, Break, Continue, Return, Throw, Stmts, Finish, Then, Declare, Catches, NoCatch, Catch, Program, type_of}
use Rattle.compiled_shapes.specs.Falls.{all_fall}
use Rattle.compiled_shapes.specs.Representation.{Representation, representation_of}
use Rattle.compiled_shapes.specs.Parts.{constant_code, text_code, default_code, operator_code, operation_code, cast_code, member_code, without_null, read_code, write_code, kept_under, copies, kept_before, kept_behind, pops}
use Rattle.compiled_shapes.specs.Stands.{Scope, At, AllAt, end_all, end_expr, end_exprs, representations, count, change_first, change_last, end_read, elvis_right, settled, settles, ExprAt, ExprsAt, goes_on, end_skip, end_dropped, end_update, end_test, end_last, end_value, end_returned, end_stmt, end_stmts, end_catches, end_tried, end_caught, jumps_over, handlers_of, next_stmt, next_stmts, Jumps, SkipAt, DroppedAt, UpdateAt, TestAt, LastAt, ValueAt, ReturnedAt, StmtAt, StmtsAt, CatchesAt}
use Rattle.compiled_shapes.specs.Agreeing as agreeing
use Rattle.compiled_shapes.specs.Agreeing.{known, types_of, ExprAgrees, ExprsAgree, TestAgrees, UpdateAgrees, BeginAgrees, ReturnAgrees, StmtAgrees, StmtsAgree, CatchesAgree}
use Rattle.verifier_soundness.specs.Rows.{has_row}
use Rattle.compiled_runs.proofs.Parts.{AllRows, constant_row, operator_rows, operation_rows, guard_rows, null_rows, cast_rows, default_rows, pops_rows, under_rows, copies_rows, before_rows, behind_rows, read_rows, write_rows}

-- a line whose instruction has a row
pub record RowAt (allow : AllowList) (f : FunCode) (line : ℕ) : Type 0 where
  pub instruction : Instruction
  pub is : slice_get f.lines line ≡ Some instruction
  pub row : has_row allow instruction ≡ true

both : (a b : Bool) → (a && b) ≡ true → (a ≡ true) × (b ≡ true)
both true b e = (refl, e)
both false b e = cc

settles_row : (allow : AllowList) (o : Logical) (to : ℕ) → has_row allow (settles o to) ≡ true
settles_row allow And to = refl
settles_row allow Or to = refl

settled_row : (allow : AllowList) (o : Logical) → has_row allow (settled o) ≡ true
settled_row allow And = refl
settled_row allow Or = refl

module _ (allow : AllowList) (f : FunCode) where
  -- the lines from one on and before another have rows
  pub record Covered (p q : ℕ) : Type 0 where
    pub each : (line : ℕ) → p ≤ line → line < q → RowAt allow f line

  pub nothing : (p : ℕ) → Covered p p
  nothing p = record { each = λ line a b. absurd (omega (arith, a, b)) }

  pub one : (h : Handlers) (p : ℕ) (instruction : Instruction) → At f h p instruction → has_row allow instruction ≡ true → Covered p (suc p)
  one h p instruction at row = record { each = λ line a b. let same : p ≡ line = omega (arith, a, b) in subst (RowAt allow f) same (record { instruction = instruction; is = at.here; row = row }) }

  pub join : (p q r : ℕ) → Covered p q → Covered q r → Covered p r
  join p q r first second = record { each = λ line a b. by_test line (ltb line q) refl a b }
    where
      by_test : (line : ℕ) (t : Bool) → ltb line q ≡ t → p ≤ line → line < r → RowAt allow f line
      by_test line true e a b = first.each line a (ltb-true line q e)
      by_test line false e a b = second.each line (ltb-false line q e) b

  pub all : (h : Handlers) (p : ℕ) (lines : List Instruction) → AllAt f h p lines → AllRows allow lines → Covered p (end_all p lines)
  all h p [] at rows = nothing p
  all h p (x ∷ xs) at rows =
      let r = both (has_row allow x) (list_all (has_row allow) xs) rows in
      join p (suc p) (end_all (suc p) xs) (one h p x at.0 r.0) (all h (suc p) xs at.1 r.1)

  module _ (texts : TextsName) (funs : Program) (h : Handlers) where
    settled_covered : (o : Logical) (q r : ℕ) → At f h q (settles o (suc r)) → Covered (suc q) r → At f h r (i.Numbered numbered.Goto (suc (suc r))) → At f h (suc r) (settled o) → Covered q (suc (suc r))
    settled_covered o q r first right skip last =
        join q (suc q) (suc (suc r)) (one h q (settles o (suc r)) first (settles_row allow o (suc r)))
        (join (suc q) r (suc (suc r)) right
        (join r (suc r) (suc (suc r)) (one h r (i.Numbered numbered.Goto (suc (suc r))) skip refl) (one h (suc r) (settled o) last (settled_row allow o))))

    mutual
      expr_covered : (g : Scope) (names : agreeing.Scope) (p : ℕ) (a : Expr) → ExprAgrees (known allow funs) names a → ExprAt funs f h g p a → Covered p (end_expr p a)
      expr_covered g names p (Literal at of c) ok s = one h p (constant_code c) s.0 (constant_row allow c)
      expr_covered g names p (Quoted at of text) ok s = one h p (text_code text) s.0 refl
      expr_covered g names p (Local at of x) ok s = one h p (i.Numbered numbered.Load s.0.local) s.3 refl
      expr_covered g names p (Apply at of o parts) ok s =
          let q = end_exprs p parts in
          join p q (end_all q (operation_code o of (count parts))) (exprs_covered g names p parts ok.0 s.0) (all h q (operation_code o of (count parts)) s.1 (operation_rows allow texts funs o parts of ok.1 s.2))
      expr_covered g names p (Guarded at of o None') ok s = nothing p
      expr_covered g names p (Guarded at of o (One a others)) ok s =
          let q = end_expr p a in
          let r = end_exprs (suc (suc q)) others in
          let c = end_all r (member_code o (suc (count others))) in
          let e = end_all c (without_null (representation_of of)) in
          join p q e (expr_covered g names p a ok.0 s.0)
          (join q (suc q) e (one h q (i.Plain plain.Dup) s.1 refl)
          (join (suc q) (suc (suc q)) e (one h (suc q) (i.Numbered numbered.IfNull c) s.2 refl)
          (join (suc (suc q)) r e (exprs_covered g names (suc (suc q)) others ok.1 s.3)
          (join r c e (all h r (member_code o (suc (count others))) s.4 (guard_rows allow texts funs o (type_of a ∷ types_of others) of (suc (count others)) ok.2))
          (all h c (without_null (representation_of of)) s.5 (null_rows allow (representation_of of)))))))
      expr_covered g names p (Logic at of o left right) ok s =
          let q = end_expr p left in
          let r = end_expr (suc q) right in
          join p q (suc (suc r)) (expr_covered g names p left ok.0 s.0) (settled_covered o q r s.1 (expr_covered g names (suc q) right ok.1 s.2) s.3 s.4)
      expr_covered g names p (Conditional at of c a b) ok s =
          let q = end_expr p c in
          let r = end_expr (suc q) a in
          join p q (end_expr (suc r) b) (expr_covered g names p c ok.0 s.0)
          (join q (suc q) (end_expr (suc r) b) (one h q (i.Numbered numbered.IfZero (suc r)) s.1 refl)
          (join (suc q) r (end_expr (suc r) b) (expr_covered g names (suc q) a ok.1 s.2)
          (join r (suc r) (end_expr (suc r) b) (one h r (i.Numbered numbered.Goto (end_expr (suc r) b)) s.3 refl) (expr_covered g names (suc r) b ok.2 s.4))))
      expr_covered g names p (Elvis at of left right) ok s =
          let q = end_expr p left in
          let r = elvis_right q in
          let e = end_expr r right in
          join p q e (expr_covered g names p left ok.0 s.0)
          (join q (suc q) e (one h q (i.Plain plain.Dup) s.1 refl)
          (join (suc q) (suc (suc q)) e (one h (suc q) (i.Numbered numbered.IfNull (suc (suc (suc q)))) s.2 refl)
          (join (suc (suc q)) (suc (suc (suc q))) e (one h (suc (suc q)) (i.Numbered numbered.Goto e) s.3 refl)
          (join (suc (suc (suc q))) r e (one h (suc (suc (suc q))) (i.Plain plain.Pop) s.4 refl) (expr_covered g names r right ok.1 s.5)))))
      expr_covered g names p (Assign at of (target.Local x) parts value) ok s =
          let q = end_expr p value in
          join p q (suc (suc q)) (expr_covered g names p value ok.0 s.0)
          (join q (suc q) (suc (suc q)) (one h q (i.Plain plain.Dup) s.1 refl) (one h (suc q) (i.Numbered numbered.Store s.2.0.local) s.2.4 refl))
      expr_covered g names p (Assign at of (target.Place read write) parts value) ok s =
          let q = end_exprs p parts in
          let r = end_expr q value in
          let u = end_all r (kept_under (count parts)) in
          let e = end_all u (write_code write of) in
          join p q e (exprs_covered g names p parts ok.0 s.0)
          (join q r e (expr_covered g names q value ok.1 s.1)
          (join r u e (all h r (kept_under (count parts)) s.2 (under_rows allow (count parts)))
          (all h u (write_code write of) s.3 (write_rows allow texts funs write (types_of parts) (representations parts) of ok.4 s.5.writes))))
      expr_covered g names p (Modify at of (target.Local x) parts change right gives) ok s =
          let q = change_first 0 gives change of (suc p) in
          let b = end_all (suc p) (kept_before 0 gives) in
          let r = end_expr q right in
          let o = end_all r (operator_code change.operator) in
          let c = end_all o (cast_code change.after of) in
          let e = change_last 0 gives change of r in
          let fits = s.11 in
          join p (suc p) (suc e) (one h p (i.Numbered numbered.Load s.0.local) s.3 refl)
          (join (suc p) b (suc e) (all h (suc p) (kept_before 0 gives) s.4 (before_rows allow 0 gives))
          (join b q (suc e) (all h b (cast_code change.before of) s.5 (cast_rows allow change.before of fits.before.asks))
          (join q r (suc e) (expr_covered g names q right ok.0 s.6)
          (join r o (suc e) (all h r (operator_code change.operator) s.7 (operator_rows allow change.operator))
          (join o c (suc e) (all h o (cast_code change.after of) s.8 (cast_rows allow change.after of fits.after.asks))
          (join c e (suc e) (all h c (kept_behind 0 gives) s.9 (behind_rows allow 0 gives))
          (one h e (i.Numbered numbered.Store s.0.local) s.10 refl)))))))
      expr_covered g names p (Modify at of (target.Place read write) parts change right gives) ok s =
          let n = count parts in
          let p1 = end_exprs p parts in
          let p2 = end_all p1 (copies n) in
          let p3 = end_read n read of p1 in
          let b = end_all p3 (kept_before n gives) in
          let q = change_first n gives change of p3 in
          let r = end_expr q right in
          let o = end_all r (operator_code change.operator) in
          let c = end_all o (cast_code change.after of) in
          let w = change_last n gives change of r in
          let e = end_all w (write_code write of) in
          let fits = s.10 in
          join p p1 e (exprs_covered g names p parts ok.0 s.0)
          (join p1 p2 e (all h p1 (copies n) s.1 (copies_rows allow n))
          (join p2 p3 e (all h p2 (read_code read of n) s.2 (read_rows allow texts funs read parts of ok.4 s.11))
          (join p3 b e (all h p3 (kept_before n gives) s.3 (before_rows allow n gives))
          (join b q e (all h b (cast_code change.before of) s.4 (cast_rows allow change.before of fits.before.asks))
          (join q r e (expr_covered g names q right ok.1 s.5)
          (join r o e (all h r (operator_code change.operator) s.6 (operator_rows allow change.operator))
          (join o c e (all h o (cast_code change.after of) s.7 (cast_rows allow change.after of fits.after.asks))
          (join c w e (all h c (kept_behind n gives) s.8 (behind_rows allow n gives))
          (all h w (write_code write of) s.9 (write_rows allow texts funs write (types_of parts) (representations parts) of ok.5 s.12.writes))))))))))
      expr_covered g names p (Lambda at of interface function) ok s = nothing p
      expr_covered g names p (Reference at of interface class name) ok s = nothing p
      expr_covered g names p (NewReference at of interface made) ok s = nothing p

      exprs_covered : (g : Scope) (names : agreeing.Scope) (p : ℕ) (parts : Exprs) → ExprsAgree (known allow funs) names parts → ExprsAt funs f h g p parts → Covered p (end_exprs p parts)
      exprs_covered g names p None' ok s = nothing p
      exprs_covered g names p (One a others) ok s =
          join p (end_expr p a) (end_exprs (end_expr p a) others) (expr_covered g names p a ok.0 s.0) (exprs_covered g names (end_expr p a) others ok.1 s.1)

    -- ---- parts of statements

    dropped : (g : Scope) (names : agreeing.Scope) (p : ℕ) (a : Expr) → ExprAgrees (known allow funs) names a → DroppedAt funs f h g p a → Covered p (end_dropped p a)
    dropped g names p a ok s =
        join p (end_expr p a) (end_dropped p a) (expr_covered g names p a ok s.0) (all h (end_expr p a) (pops (representation_of (type_of a))) s.1 (pops_rows allow (representation_of (type_of a))))

    skipped : (b : Bool) (p to : ℕ) → SkipAt f h b p to → Covered p (end_skip b p)
    skipped true p to s = one h p (i.Numbered numbered.Goto to) s refl
    skipped false p to s = nothing p

    updated : (g : Scope) (names : agreeing.Scope) (b : Bool) (p : ℕ) (update : Maybe) → UpdateAgrees (known allow funs) names update → UpdateAt funs f h g b p update → Covered p (end_update b p update)
    updated g names false p update ok s = nothing p
    updated g names true p Missing ok s = nothing p
    updated g names true p (Given a) ok s = dropped g names p a ok s

    tested : (g : Scope) (names : agreeing.Scope) (p : ℕ) (test : Maybe) → TestAgrees (known allow funs) names test → TestAt funs f h g p test → Covered p (end_test p test)
    tested g names p Missing ok s = one h p (i.Int (pos 1)) s refl
    tested g names p (Given a) ok s = expr_covered g names p a ok.0 s.0

    tested_last : (g : Scope) (names : agreeing.Scope) (b : Bool) (p : ℕ) (test : Maybe) (to : ℕ) → TestAgrees (known allow funs) names test → LastAt funs f h g b p test to → Covered p (end_last b p test)
    tested_last g names false p test to ok s = nothing p
    tested_last g names true p Missing to ok s = nothing p
    tested_last g names true p (Given a) to ok s =
        join p (end_expr p a) (suc (end_expr p a)) (expr_covered g names p a ok.0 s.0) (one h (end_expr p a) (i.Numbered numbered.IfZero to) s.2 refl)

    valued : (g : Scope) (names : agreeing.Scope) (p : ℕ) (value : Maybe) (of : Ty) → BeginAgrees (known allow funs) names value of → ValueAt funs f h g p value of → Covered p (end_value p value of)
    valued g names p Missing of ok s = all h p (default_code of) s (default_rows allow of)
    valued g names p (Given a) of ok s = expr_covered g names p a ok.0 s.0

    returned : (k : Representation) (g : Scope) (names : agreeing.Scope) (p : ℕ) (value : Maybe) (of : Ty) → ReturnAgrees (known allow funs) names value of → ReturnedAt funs f h g k p value → Covered p (end_returned p value)
    returned k g names p Missing of ok s = nothing p
    returned k g names p (Given a) of ok s = expr_covered g names p a ok.0 s.0

  -- ---- statements

  module _ (texts : TextsName) (funs : Program) where
    mutual
      stmt_covered : (h : Handlers) (k : Representation) (of : Ty) (looped : Bool) (g : Scope) (names : agreeing.Scope) (n : ℕ) (j : Jumps) (p : ℕ) (t : Stmt) → StmtAgrees (known allow funs) of looped names t → StmtAt funs f h k g n j p t → Covered p (end_stmt p t)
      stmt_covered h k of looped g names n j p (Do a) ok s = dropped texts funs h g names p a ok s
      stmt_covered h k of looped g names n j p (If c a b) ok s =
          let q = end_expr p c in
          let r = end_stmts (suc q) a in
          let e = end_skip (all_fall a) r in
          join p q (end_stmts e b) (expr_covered texts funs h g names p c ok.0 s.0)
          (join q (suc q) (end_stmts e b) (one h q (i.Numbered numbered.IfZero e) s.2 refl)
          (join (suc q) r (end_stmts e b) (stmts_covered h k of looped g names n j (suc q) a ok.2 s.3)
          (join r e (end_stmts e b) (skipped texts funs h (all_fall a) r (end_stmt p (If c a b)) s.4) (stmts_covered h k of looped g names (next_stmts n a) j e b ok.3 s.5))))
      stmt_covered h k of looped g names n j p (While test update body) ok s =
          let r = end_stmts (suc p) body in
          let u = end_update (goes_on body) r update in
          let e = end_test u test in
          join p (suc p) (suc e) (one h p (i.Numbered numbered.Goto u) s.0 refl)
          (join (suc p) r (suc e) (stmts_covered h k of true g names n (record { out = end_stmt p (While test update body); on = r }) (suc p) body ok.2 s.1)
          (join r u (suc e) (updated texts funs h g names (goes_on body) r update ok.1 s.2)
          (join u e (suc e) (tested texts funs h g names u test ok.0 s.3) (one h e (i.Numbered numbered.Loop (suc p)) s.4 refl))))
      stmt_covered h k of looped g names n j p (DoWhile body test) ok s =
          let r = end_stmts (suc p) body in
          let e = end_last (goes_on body) r test in
          join p (suc p) (suc (suc e)) (one h p (i.Numbered numbered.Goto e) s.0 refl)
          (join (suc p) r (suc (suc e)) (stmts_covered h k of true g names n (record { out = end_stmt p (DoWhile body test); on = r }) (suc p) body ok.0 s.1)
          (join r e (suc (suc e)) (tested_last texts funs h g names (goes_on body) r test (end_stmt p (DoWhile body test)) ok.1 s.2)
          (join e (suc e) (suc (suc e)) (one h e (i.Int (pos 1)) s.3 refl) (one h (suc e) (i.Numbered numbered.Loop (suc p)) s.4 refl))))
      stmt_covered h k of looped g names n j p (Try body catches) ok s =
          let r = end_stmts p body in
          let q = end_tried p body in
          let to = end_catches q catches in
          let inner = handlers_of q catches ++ h in
          join p r to (stmts_covered inner k of looped g names n j p body ok.0 s.0)
          (join r q to (skipped texts funs inner (all_fall body) r to s.1) (catches_covered h k of looped g names (next_stmts n body) j to q catches ok.1 s.2))
      stmt_covered h k of looped g names n j p (Block body) ok s = stmts_covered h k of looped g names n j p body ok s
      stmt_covered h k of looped g names n j p Break ok s = one h p (i.Numbered numbered.Goto j.out) s refl
      stmt_covered h k of looped g names n j p Continue ok s = one h p (i.Numbered numbered.Goto j.on) s refl
      stmt_covered h k of looped g names n j p (Return value) ok s =
          join p (end_returned p value) (suc (end_returned p value)) (returned texts funs h k g names p value of ok s.0) (one h (end_returned p value) (i.Plain plain.Ret) s.1 refl)
      stmt_covered h k of looped g names n j p (Throw value) ok s =
          let q = end_expr p value in
          join p q (suc q) (expr_covered texts funs h g names p value ok.0 s.0) (one h q (i.Plain plain.Throw) s.2 refl)

      pub stmts_covered : (h : Handlers) (k : Representation) (of : Ty) (looped : Bool) (g : Scope) (names : agreeing.Scope) (n : ℕ) (j : Jumps) (p : ℕ) (ts : Stmts) → StmtsAgree (known allow funs) of looped names ts → StmtsAt funs f h k g n j p ts → Covered p (end_stmts p ts)
      stmts_covered h k of looped g names n j p Finish ok s = nothing p
      stmts_covered h k of looped g names n j p (Then t rest) ok s =
          join p (end_stmt p t) (end_stmts (end_stmt p t) rest) (stmt_covered h k of looped g names n j p t ok.0 s.0) (stmts_covered h k of looped g names (next_stmt n t) j (end_stmt p t) rest ok.1 s.1)
      stmts_covered h k of looped g names n j p (Declare x at value rest) ok s =
          let q = end_value p value at in
          join p q (end_stmts (suc q) rest) (valued texts funs h g names p value at ok.0 s.0)
          (join q (suc q) (end_stmts (suc q) rest) (one h q (i.Numbered numbered.Store n) s.3 refl)
          (stmts_covered h k of looped (record { name = x; of = at; local = n } ∷ g) (record { name = x; of = at } ∷ names) (suc n) j (suc q) rest ok.2 s.4))

      catches_covered : (h : Handlers) (k : Representation) (of : Ty) (looped : Bool) (g : Scope) (names : agreeing.Scope) (n : ℕ) (j : Jumps) (to p : ℕ) (catches : Catches) → CatchesAgree (known allow funs) of looped names catches → CatchesAt funs f h k g n j to p catches → Covered p (end_catches p catches)
      catches_covered h k of looped g names n j to p NoCatch ok s = nothing p
      catches_covered h k of looped g names n j to p (Catch class x body others) ok s =
          let r = end_stmts (suc p) body in
          let q = end_caught p body others in
          let e = end_catches q others in
          join p (suc p) e (one h p (i.Numbered numbered.Store n) s.1 refl)
          (join (suc p) r e (stmts_covered h k of looped (record { name = x; of = t.Class class; local = n } ∷ g) (record { name = x; of = t.Class class } ∷ names) (suc n) j (suc p) body ok.1 s.2)
          (join r q e (skipped texts funs h (jumps_over body others) r to s.3) (catches_covered h k of looped g names (next_stmts (suc n) body) j to q others ok.2 s.4)))
