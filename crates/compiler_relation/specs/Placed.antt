-- The instructions of a part of a program at their lines, whatever is caught there. The code has no traps here.
use Rattle.std.specs.Prelude.{◌≡◌, ◌≢◌, ℕ, suc, ◌<◌, [], ◌∷◌, pos}
use Rattle.pl_types.specs.declared.ty.Ty.{Ty}
use Rattle.pl_types.specs.declared.ty.Ty.TheVariants as t
use Rattle.pl_code.specs.declared.kinds.Plain.TheVariants as plain
use Rattle.pl_code.specs.declared.kinds.Numbered.TheVariants as numbered
use Rattle.pl_code.specs.declared.code.FunCode.{FunCode}
use Rattle.pl_code.specs.declared.code.Instruction.TheVariants as i
use Rattle.source_meaning.specs.Tree.{Stmt, Do, If, While, DoWhile, Try, Block, Break, Continue, Return, Throw, Stmts, Finish, Then, Declare, Catches, NoCatch, Catch, Program, type_of}
use Rattle.compiler_relation.specs.Representation.{Representation, Unboxed, Boxed, Absent, representation_of}
use Rattle.compiler_relation.specs.Stands.{Scope, At, ExprAt, all_fall, goes_on, end_expr, end_skip, end_update, end_test, end_last, end_value, end_returned, end_stmt, end_stmts, end_tried, end_caught, next_stmt, next_stmts, jumps_over, Jumps, no_jumps, HasLocal, SkipAt, DroppedAt, UpdateAt, TestAt, LastAt, ValueAt, ReturnedAt, StmtsAt, EndAt, traps_stmts}

-- code without its traps
abbrev pub untrapped : FunCode → FunCode
untrapped f = record f { traps = [] }

abbrev mutual
  pub StmtIn : Program → FunCode → Representation → Scope → ℕ → Jumps → ℕ → Stmt → Type 0
  StmtIn funs f k g n j p (Do a) = DroppedAt funs f [] g p a
  StmtIn funs f k g n j p (If c a b) =
      ExprAt funs f [] g p c
      × (representation_of (type_of c) ≡ Unboxed)
      × At f [] (end_expr p c) (i.Numbered numbered.IfZero (end_skip (all_fall a) (end_stmts (suc (end_expr p c)) a)))
      × StmtsIn funs f k g n j (suc (end_expr p c)) a
      × SkipAt f [] (all_fall a) (end_stmts (suc (end_expr p c)) a) (end_stmt p (If c a b))
      × StmtsIn funs f k g (next_stmts n a) j (end_skip (all_fall a) (end_stmts (suc (end_expr p c)) a)) b
  StmtIn funs f k g n j p (While test update body) =
      At f [] p (i.Numbered numbered.Goto (end_update (goes_on body) (end_stmts (suc p) body) update))
      × StmtsIn funs f k g n (record { out = end_stmt p (While test update body); on = end_stmts (suc p) body }) (suc p) body
      × UpdateAt funs f [] g (goes_on body) (end_stmts (suc p) body) update
      × TestAt funs f [] g (end_update (goes_on body) (end_stmts (suc p) body) update) test
      × At f [] (end_test (end_update (goes_on body) (end_stmts (suc p) body) update) test) (i.Numbered numbered.Loop (suc p))
  StmtIn funs f k g n j p (DoWhile body test) =
      At f [] p (i.Numbered numbered.Goto (end_last (goes_on body) (end_stmts (suc p) body) test))
      × StmtsIn funs f k g n (record { out = end_stmt p (DoWhile body test); on = end_stmts (suc p) body }) (suc p) body
      × LastAt funs f [] g (goes_on body) (end_stmts (suc p) body) test (end_stmt p (DoWhile body test))
      × At f [] (end_last (goes_on body) (end_stmts (suc p) body) test) (i.Int (pos 1))
      × At f [] (suc (end_last (goes_on body) (end_stmts (suc p) body) test)) (i.Numbered numbered.Loop (suc p))
  StmtIn funs f k g n j p (Try body catches) =
      StmtsIn funs f k g n j p body
      × SkipAt f [] (all_fall body) (end_stmts p body) (end_stmt p (Try body catches))
      × CatchesIn funs f k g (next_stmts n body) j (end_stmt p (Try body catches)) (end_tried p body) catches
  StmtIn funs f k g n j p (Block body) = StmtsIn funs f k g n j p body
  StmtIn funs f k g n j p Break = At f [] p (i.Numbered numbered.Goto j.out)
  StmtIn funs f k g n j p Continue = At f [] p (i.Numbered numbered.Goto j.on)
  StmtIn funs f k g n j p (Return value) = ReturnedAt funs f [] g k p value × At f [] (end_returned p value) (i.Plain plain.Ret)
  StmtIn funs f k g n j p (Throw value) = ExprAt funs f [] g p value × (representation_of (type_of value) ≡ Boxed) × At f [] (end_expr p value) (i.Plain plain.Throw)

  pub StmtsIn : Program → FunCode → Representation → Scope → ℕ → Jumps → ℕ → Stmts → Type 0
  StmtsIn funs f k g n j p Finish = Unit {0}
  StmtsIn funs f k g n j p (Then t rest) = StmtIn funs f k g n j p t × StmtsIn funs f k g (next_stmt n t) j (end_stmt p t) rest
  StmtsIn funs f k g n j p (Declare x of value rest) =
      ValueAt funs f [] g p value of
      × (representation_of of ≢ Absent)
      × HasLocal f n of
      × At f [] (end_value p value of) (i.Numbered numbered.Store n)
      × StmtsIn funs f k (record { name = x; of = of; local = n } ∷ g) (suc n) j (suc (end_value p value of)) rest

  -- code names the class of each catch
  pub CatchesIn : Program → FunCode → Representation → Scope → ℕ → Jumps → ℕ → ℕ → Catches → Type 0
  CatchesIn funs f k g n j to p NoCatch = Unit {0}
  CatchesIn funs f k g n j to p (Catch class x body rest) =
      (class < 57)
      × HasLocal f n (t.Class class)
      × At f [] p (i.Numbered numbered.Store n)
      × StmtsIn funs f k (record { name = x; of = t.Class class; local = n } ∷ g) (suc n) j (suc p) body
      × SkipAt f [] (jumps_over body rest) (end_stmts (suc p) body) to
      × CatchesIn funs f k g (next_stmts (suc n) body) j to (end_caught p body rest) rest

-- Where the trap lines are those of a function's body too, what is thrown goes to the handlers of its part.
abbrev pub CatchesCover : Type 0
CatchesCover =
    (funs : Program) (f : FunCode) (k : Representation) (g : Scope) (n : ℕ) (body : Stmts) (of : Ty) → f.traps ≡ traps_stmts 0 body
    → StmtsIn funs (untrapped f) k g n no_jumps 0 body → EndAt (untrapped f) (all_fall body) (end_stmts 0 body) of
    → StmtsAt funs f [] k g n no_jumps 0 body × EndAt f (all_fall body) (end_stmts 0 body) of
