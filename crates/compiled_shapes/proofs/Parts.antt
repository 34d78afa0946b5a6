-- The kinds at the lines of each part of a program, and where they end.
use Rattle.std.proofs.Common.{ℕ, suc, Bool, true, false, List, [], ◌∷◌, ◌++◌}
use Rattle.pl_types.specs.declared.ty.Ty.{Ty}
use Rattle.pl_code.specs.declared.kinds.Slot.{Slot}
use Rattle.pl_code.specs.declared.kinds.Slot.TheVariants.{I, R}
use Rattle.pl_code.specs.declared.code.FunCode.{FunCode}
use Rattle.allowlist.specs.Allow.{AllowList}
use Rattle.instruction_types.specs.Effects.{result_kinds}
use Rattle.typed_tree.specs.declared.operation.Change.{Change}
use Rattle.typed_tree.specs.declared.operation.Gives.{Gives}
use Rattle.typed_tree.specs.declared.operation.Gives.TheVariants as gives
use Rattle.typed_tree.specs.declared.operation.Target.TheVariants as target
use Rattle.program_typing.specs.Falls.{all_fall}
use Rattle.program_typing.specs.Tree.{Expr, Literal, Quoted, Local, Apply, Guarded, Logic, Conditional, Elvis, Assign, Modify, Lambda, Reference, NewReference, Exprs, None', One, Maybe, Missing, Given, Stmt, Do, If, While, DoWhile, Try, Block, Break, Continue, Return, Throw, Stmts, Finish, Then, Declare, Catches, NoCatch, Catch, type_of}
use Rattle.compiler_relation.specs.Representation.{representation_of, result_of}
use Rattle.compiler_relation.specs.Parts.{default_code, operator_code, cast_code, operation_code, member_code, without_null, pops, read_code, write_code, kept_under, copies, kept_before, kept_behind}
use Rattle.compiler_relation.specs.Stands.{count, change_first, end_read, end_expr, end_exprs, goes_on, end_skip, end_dropped, end_update, end_test, end_last, end_value, end_returned, jumps_over, end_stmt, end_stmts, end_catches}
use Rattle.program_typing.specs.Agreeing.{types_of}
use Rattle.compiled_shapes.proofs.Lines.{Ends, joined, behind, ended}
use Rattle.compiled_shapes.proofs.Runs.{spans, run, spans_end}

-- a value of a type is put on the stack, where it has values
abbrev pub push : Ty → List Slot → List Slot
push of s = result_kinds (result_of of) ++ s

-- values one after the other
abbrev pub push_types : List Ty → List Slot → List Slot
push_types [] s = s
push_types (of ∷ ofs) s = push_types ofs (push of s)

-- what lies below a variable's value while it is changed
abbrev pub kept : Gives → Ty → List Slot → List Slot
kept gives.Old of s = push of s
kept gives.New of s = s

module _ (allow : AllowList) (functions : List FunCode) (f : FunCode) where
  -- ---- expressions, entered with kinds s

  -- before the right side of a change, and behind the operator, where these kinds lie below
  abbrev pub left_kinds : Ty → Change → List Slot → List Slot
  left_kinds of change s = run allow functions f (cast_code change.before of) (push of s)

  abbrev pub changed_kinds : Ty → Change → Ty → List Slot → List Slot
  changed_kinds of change right s = run allow functions f (operator_code change.operator) (push right (left_kinds of change s))

  abbrev mutual
    pub expr_kinds : List Slot → Expr → List (List Slot)
    expr_kinds s (Literal at of c) = s ∷ []
    expr_kinds s (Quoted at of text) = s ∷ []
    expr_kinds s (Local at of x) = s ∷ []
    expr_kinds s (Apply at of o parts) = exprs_kinds s parts ++ spans allow functions f (operation_code o of (count parts)) (push_types (types_of parts) s)
    expr_kinds s (Guarded at of o None') = []
    expr_kinds s (Guarded at of o (One a others)) =
        expr_kinds s a
        ++ ((R ∷ s)
        ∷ (R ∷ R ∷ s)
        ∷ (exprs_kinds (R ∷ s) others
        ++ (spans allow functions f (member_code o (suc (count others))) (push_types (types_of others) (R ∷ s))
        ++ spans allow functions f (without_null (representation_of of)) (R ∷ s))))
    expr_kinds s (Logic at of o left right) = expr_kinds s left ++ ((I ∷ s) ∷ (expr_kinds s right ++ ((I ∷ s) ∷ s ∷ [])))
    expr_kinds s (Conditional at of c a b) = expr_kinds s c ++ ((I ∷ s) ∷ (expr_kinds s a ++ (push of s ∷ expr_kinds s b)))
    expr_kinds s (Elvis at of left right) = expr_kinds s left ++ ((R ∷ s) ∷ (R ∷ R ∷ s) ∷ (R ∷ s) ∷ (R ∷ s) ∷ expr_kinds s right)
    expr_kinds s (Assign at of (target.Local x) parts value) = expr_kinds s value ++ (push of s ∷ push of (push of s) ∷ [])
    expr_kinds s (Assign at of (target.Place read write) parts value) =
        exprs_kinds s parts
        ++ (expr_kinds (push_types (types_of parts) s) value
        ++ (spans allow functions f (kept_under (count parts)) (push of (push_types (types_of parts) s))
        ++ spans allow functions f (write_code write of) (push of (push_types (types_of parts) (push of s)))))
    expr_kinds s (Modify at of (target.Local x) parts change right gives) =
        s
        ∷ (spans allow functions f (kept_before 0 gives) (push of s)
        ++ (spans allow functions f (cast_code change.before of) (push of (kept gives of s))
        ++ (expr_kinds (left_kinds of change (kept gives of s)) right
        ++ (spans allow functions f (operator_code change.operator) (push (type_of right) (left_kinds of change (kept gives of s)))
        ++ (spans allow functions f (cast_code change.after of) (changed_kinds of change (type_of right) (kept gives of s))
        ++ (spans allow functions f (kept_behind 0 gives) (push of (kept gives of s)) ++ (push of (push of s) ∷ [])))))))
    expr_kinds s (Modify at of (target.Place read write) parts change right gives) =
        exprs_kinds s parts
        ++ (spans allow functions f (copies (count parts)) (push_types (types_of parts) s)
        ++ (spans allow functions f (read_code read of (count parts)) (push_types (types_of parts) (push_types (types_of parts) s))
        ++ (spans allow functions f (kept_before (count parts) gives) (push of (push_types (types_of parts) s))
        ++ (spans allow functions f (cast_code change.before of) (push of (push_types (types_of parts) (kept gives of s)))
        ++ (expr_kinds (left_kinds of change (push_types (types_of parts) (kept gives of s))) right
        ++ (spans allow functions f (operator_code change.operator) (push (type_of right) (left_kinds of change (push_types (types_of parts) (kept gives of s))))
        ++ (spans allow functions f (cast_code change.after of) (changed_kinds of change (type_of right) (push_types (types_of parts) (kept gives of s)))
        ++ (spans allow functions f (kept_behind (count parts) gives) (push of (push_types (types_of parts) (kept gives of s)))
        ++ spans allow functions f (write_code write of) (push of (push_types (types_of parts) (push of s)))))))))))
    expr_kinds s (Lambda at of interface function) = []
    expr_kinds s (Reference at of interface class name) = []
    expr_kinds s (NewReference at of interface made) = []

    pub exprs_kinds : List Slot → Exprs → List (List Slot)
    exprs_kinds s None' = []
    exprs_kinds s (One a others) = expr_kinds s a ++ exprs_kinds (push (type_of a) s) others

  -- ---- statements: nothing lies where they begin

  abbrev pub skip_kinds : Bool → List (List Slot)
  skip_kinds true = [] ∷ []
  skip_kinds false = []

  abbrev pub dropped_kinds : Expr → List (List Slot)
  dropped_kinds a = expr_kinds [] a ++ spans allow functions f (pops (representation_of (type_of a))) (push (type_of a) [])

  abbrev pub update_kinds : Bool → Maybe → List (List Slot)
  update_kinds false update = []
  update_kinds true Missing = []
  update_kinds true (Given a) = dropped_kinds a

  abbrev pub test_kinds : Maybe → List (List Slot)
  test_kinds Missing = [] ∷ []
  test_kinds (Given a) = expr_kinds [] a

  abbrev pub last_kinds : Bool → Maybe → List (List Slot)
  last_kinds false test = []
  last_kinds true Missing = []
  last_kinds true (Given a) = expr_kinds [] a ++ ((I ∷ []) ∷ [])

  abbrev pub value_kinds : Maybe → Ty → List (List Slot)
  value_kinds Missing of = spans allow functions f (default_code of) []
  value_kinds (Given a) of = expr_kinds [] a

  abbrev pub returned_kinds : Maybe → List (List Slot)
  returned_kinds Missing = [] ∷ []
  returned_kinds (Given a) = expr_kinds [] a ++ (push (type_of a) [] ∷ [])

  abbrev mutual
    pub stmt_kinds : Stmt → List (List Slot)
    stmt_kinds (Do a) = dropped_kinds a
    stmt_kinds (If c a b) = expr_kinds [] c ++ ((I ∷ []) ∷ (stmts_kinds a ++ (skip_kinds (all_fall a) ++ stmts_kinds b)))
    stmt_kinds (While test update body) = [] ∷ (stmts_kinds body ++ (update_kinds (goes_on body) update ++ (test_kinds test ++ ((I ∷ []) ∷ []))))
    stmt_kinds (DoWhile body test) = [] ∷ (stmts_kinds body ++ (last_kinds (goes_on body) test ++ ([] ∷ (I ∷ []) ∷ [])))
    stmt_kinds (Try body catches) = stmts_kinds body ++ (skip_kinds (all_fall body) ++ catches_kinds catches)
    stmt_kinds (Block body) = stmts_kinds body
    stmt_kinds Break = [] ∷ []
    stmt_kinds Continue = [] ∷ []
    stmt_kinds (Return value) = returned_kinds value
    stmt_kinds (Throw value) = expr_kinds [] value ++ ((R ∷ []) ∷ [])

    pub stmts_kinds : Stmts → List (List Slot)
    stmts_kinds Finish = []
    stmts_kinds (Then t rest) = stmt_kinds t ++ stmts_kinds rest
    stmts_kinds (Declare x of value rest) = value_kinds value of ++ (push of [] ∷ stmts_kinds rest)

    -- what was thrown lies where a catch begins
    pub catches_kinds : Catches → List (List Slot)
    catches_kinds NoCatch = []
    catches_kinds (Catch class x body rest) = (R ∷ []) ∷ (stmts_kinds body ++ (skip_kinds (jumps_over body rest) ++ catches_kinds rest))

  -- a function that ends without a return
  abbrev pub end_kinds_of : Bool → Ty → List (List Slot)
  end_kinds_of false of = []
  end_kinds_of true of = spans allow functions f (default_code of) [] ++ (push of [] ∷ [])

  -- ---- where they end

  one : {p : ℕ} (k : List Slot) → Ends p (k ∷ []) (suc p)
  one k = behind k ended

  mutual
    pub expr_ends : (p : ℕ) (s : List Slot) (e : Expr) → Ends p (expr_kinds s e) (end_expr p e)
    expr_ends p s (Literal at of c) = one s
    expr_ends p s (Quoted at of text) = one s
    expr_ends p s (Local at of x) = one s
    expr_ends p s (Apply at of o parts) = joined (exprs_ends p s parts) (spans_end allow functions f (operation_code o of (count parts)) _ _)
    expr_ends p s (Guarded at of o None') = ended
    expr_ends p s (Guarded at of o (One a others)) =
        joined (expr_ends p s a)
        (behind (R ∷ s)
        (behind (R ∷ R ∷ s)
        (joined (exprs_ends _ (R ∷ s) others)
        (joined (spans_end allow functions f (member_code o (suc (count others))) _ (push_types (types_of others) (R ∷ s)))
        (spans_end allow functions f (without_null (representation_of of)) _ (R ∷ s))))))
    expr_ends p s (Logic at of o left right) = joined (expr_ends p s left) (behind (I ∷ s) (joined (expr_ends _ s right) (behind (I ∷ s) (one s))))
    expr_ends p s (Conditional at of c a b) = joined (expr_ends p s c) (behind (I ∷ s) (joined (expr_ends _ s a) (behind (push of s) (expr_ends _ s b))))
    expr_ends p s (Elvis at of left right) = joined (expr_ends p s left) (behind (R ∷ s) (behind (R ∷ R ∷ s) (behind (R ∷ s) (behind (R ∷ s) (expr_ends _ s right)))))
    expr_ends p s (Assign at of (target.Local x) parts value) = joined (expr_ends p s value) (behind (push of s) (one (push of (push of s))))
    expr_ends p s (Assign at of (target.Place read write) parts value) =
        joined (exprs_ends p s parts)
        (joined (expr_ends (end_exprs p parts) (push_types (types_of parts) s) value)
        (joined (spans_end allow functions f (kept_under (count parts)) _ (push of (push_types (types_of parts) s)))
        (spans_end allow functions f (write_code write of) _ (push of (push_types (types_of parts) (push of s))))))
    expr_ends p s (Modify at of (target.Local x) parts change right gives) =
        let k = kept gives of s in
        behind s
        (joined (spans_end allow functions f (kept_before 0 gives) (suc p) (push of s))
        (joined (spans_end allow functions f (cast_code change.before of) _ (push of k))
        (joined (expr_ends (change_first 0 gives change of (suc p)) (left_kinds of change k) right)
        (joined (spans_end allow functions f (operator_code change.operator) _ (push (type_of right) (left_kinds of change k)))
        (joined (spans_end allow functions f (cast_code change.after of) _ (changed_kinds of change (type_of right) k))
        (joined (spans_end allow functions f (kept_behind 0 gives) _ (push of k)) (one (push of (push of s)))))))))
    expr_ends p s (Modify at of (target.Place read write) parts change right gives) =
        let ofs = types_of parts in
        let k = push_types ofs (kept gives of s) in
        joined (exprs_ends p s parts)
        (joined (spans_end allow functions f (copies (count parts)) _ (push_types ofs s))
        (joined (spans_end allow functions f (read_code read of (count parts)) _ (push_types ofs (push_types ofs s)))
        (joined (spans_end allow functions f (kept_before (count parts) gives) _ (push of (push_types ofs s)))
        (joined (spans_end allow functions f (cast_code change.before of) _ (push of k))
        (joined (expr_ends (change_first (count parts) gives change of (end_read (count parts) read of (end_exprs p parts))) (left_kinds of change k) right)
        (joined (spans_end allow functions f (operator_code change.operator) _ (push (type_of right) (left_kinds of change k)))
        (joined (spans_end allow functions f (cast_code change.after of) _ (changed_kinds of change (type_of right) k))
        (joined (spans_end allow functions f (kept_behind (count parts) gives) _ (push of k))
        (spans_end allow functions f (write_code write of) _ (push of (push_types ofs (push of s))))))))))))
    expr_ends p s (Lambda at of interface function) = ended
    expr_ends p s (Reference at of interface class name) = ended
    expr_ends p s (NewReference at of interface made) = ended

    pub exprs_ends : (p : ℕ) (s : List Slot) (es : Exprs) → Ends p (exprs_kinds s es) (end_exprs p es)
    exprs_ends p s None' = ended
    exprs_ends p s (One a others) = joined (expr_ends p s a) (exprs_ends _ (push (type_of a) s) others)

  pub skip_ends : (b : Bool) (p : ℕ) → Ends p (skip_kinds b) (end_skip b p)
  skip_ends true p = one []
  skip_ends false p = ended

  pub dropped_ends : (p : ℕ) (a : Expr) → Ends p (dropped_kinds a) (end_dropped p a)
  dropped_ends p a = joined (expr_ends p [] a) (spans_end allow functions f (pops (representation_of (type_of a))) _ _)

  pub update_ends : (b : Bool) (p : ℕ) (update : Maybe) → Ends p (update_kinds b update) (end_update b p update)
  update_ends false p update = ended
  update_ends true p Missing = ended
  update_ends true p (Given a) = dropped_ends p a

  pub test_ends : (p : ℕ) (test : Maybe) → Ends p (test_kinds test) (end_test p test)
  test_ends p Missing = one []
  test_ends p (Given a) = expr_ends p [] a

  pub last_ends : (b : Bool) (p : ℕ) (test : Maybe) → Ends p (last_kinds b test) (end_last b p test)
  last_ends false p test = ended
  last_ends true p Missing = ended
  last_ends true p (Given a) = joined (expr_ends p [] a) (one (I ∷ []))

  pub value_ends : (p : ℕ) (value : Maybe) (of : Ty) → Ends p (value_kinds value of) (end_value p value of)
  value_ends p Missing of = spans_end allow functions f (default_code of) p []
  value_ends p (Given a) of = expr_ends p [] a

  pub returned_ends : (p : ℕ) (value : Maybe) → Ends p (returned_kinds value) (suc (end_returned p value))
  returned_ends p Missing = one []
  returned_ends p (Given a) = joined (expr_ends p [] a) (one (push (type_of a) []))

  mutual
    pub stmt_ends : (p : ℕ) (t : Stmt) → Ends p (stmt_kinds t) (end_stmt p t)
    stmt_ends p (Do a) = dropped_ends p a
    stmt_ends p (If c a b) = joined (expr_ends p [] c) (behind (I ∷ []) (joined (stmts_ends _ a) (joined (skip_ends (all_fall a) _) (stmts_ends _ b))))
    stmt_ends p (While test update body) = behind [] (joined (stmts_ends _ body) (joined (update_ends (goes_on body) _ update) (joined (test_ends _ test) (one (I ∷ [])))))
    stmt_ends p (DoWhile body test) = behind [] (joined (stmts_ends _ body) (joined (last_ends (goes_on body) _ test) (behind [] (one (I ∷ [])))))
    stmt_ends p (Try body catches) = joined (stmts_ends p body) (joined (skip_ends (all_fall body) _) (catches_ends _ catches))
    stmt_ends p (Block body) = stmts_ends p body
    stmt_ends p Break = one []
    stmt_ends p Continue = one []
    stmt_ends p (Return value) = returned_ends p value
    stmt_ends p (Throw value) = joined (expr_ends p [] value) (one (R ∷ []))

    pub stmts_ends : (p : ℕ) (t : Stmts) → Ends p (stmts_kinds t) (end_stmts p t)
    stmts_ends p Finish = ended
    stmts_ends p (Then t rest) = joined (stmt_ends p t) (stmts_ends _ rest)
    stmts_ends p (Declare x of value rest) = joined (value_ends p value of) (behind (push of []) (stmts_ends _ rest))

    pub catches_ends : (p : ℕ) (catches : Catches) → Ends p (catches_kinds catches) (end_catches p catches)
    catches_ends p NoCatch = ended
    catches_ends p (Catch class x body rest) = behind (R ∷ []) (joined (stmts_ends (suc p) body) (joined (skip_ends (jumps_over body rest) _) (catches_ends _ rest)))
