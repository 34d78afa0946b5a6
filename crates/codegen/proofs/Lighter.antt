-- What an item is replaced by weighs less: lists from one part on, and statements by what they do.
use Rattle.std.proofs.Common.{◌≡◌, ◌<◌, ◌≤◌, ℕ, ◌+◌, List, ◌∷◌, Option, Some, None, refl, ap, ◌∙◌, arith}
use Rattle.std.specs.Prelude.{drop, map, slice_get, Result, Ok, Err, OnOk}
use Rattle.codegen.specs.declared.error.CodeError.{CodeError}
use Rattle.typed_tree.specs.declared.typed.Typed.{Typed}
use Rattle.typed_tree.specs.declared.statement.StatementNode.{StatementNode, out-StatementNode}
use Rattle.typed_tree.specs.declared.statement.StatementNode.TheOpen.{StatementNode-F}
use Rattle.typed_tree.specs.declared.statement.TypedCatch.{TypedCatch, out-TypedCatch}
use Rattle.typed_tree.specs.declared.statement.TypedStatement.{TypedStatement, out-TypedStatement}
use Rattle.typed_tree.specs.declared.statement.TypedVariable.{TypedVariable}
use Rattle.source_meaning.specs.Programs.{expr_of, exprs_of}
use Rattle.codegen.specs.Worklist.{parts_from}
use Rattle.codegen.specs.Weights.{parts, value, value_if, variables, row, handlers, alone_step, begun_step, node_step, statement, statement_if, handler, over, begun, alone}
use Rattle.codegen.proofs.Parts.{drop_one, drop_end}
use Rattle.codegen.proofs.Weighed.{handler_weighs}

-- Lists, from one part on.
pub parts_more : (at : ℕ) (all : List Typed) (x : Typed) → slice_get all at ≡ Some x → parts (parts_from at all) ≡ 1 + (value x + parts (parts_from (at + 1) all))
parts_more at all x is = ap (λ (xs : List Typed). parts (exprs_of (map expr_of xs))) (drop_one at all x is)

pub parts_end : (at : ℕ) (all : List Typed) → slice_get all at ≡ None → parts (parts_from at all) ≡ 1
parts_end at all is = ap (λ (xs : List Typed). parts (exprs_of (map expr_of xs))) (drop_end at all is)

pub row_more : (at : ℕ) (all : List TypedStatement) (x : TypedStatement) → slice_get all at ≡ Some x
    → row (map statement (drop at all)) ≡ 3 + (statement x + row (map statement (drop (at + 1) all)))
row_more at all x is = ap (λ (xs : List TypedStatement). row (map statement xs)) (drop_one at all x is)

pub variables_more : (at : ℕ) (all : List TypedVariable) (x : TypedVariable) → slice_get all at ≡ Some x
    → variables (drop at all) ≡ 3 + (value_if x.value + variables (drop (at + 1) all))
variables_more at all x is = ap variables (drop_one at all x is)

pub handlers_more : (at : ℕ) (all : List TypedCatch) (x : TypedCatch) → slice_get all at ≡ Some x
    → handlers (map handler (drop at all)) ≡ 11 + (statement (out-TypedCatch x).body + handlers (map handler (drop (at + 1) all)))
handlers_more at all x is =
    ap (λ (xs : List TypedCatch). handlers (map handler xs)) (drop_one at all x is)
    ∙ ap (λ n. 11 + (n + handlers (map handler (drop (at + 1) all)))) (handler_weighs x)

-- Statements with parts that may be missing.
pub if_alone : (condition : Typed) (then : TypedStatement) (otherwise : Option TypedStatement)
    → alone_step (over (StatementNode-F.If condition then otherwise)) ≡ 20 + (value condition + statement then + statement_if otherwise)
if_alone condition then None = refl
if_alone condition then (Some otherwise) = refl

pub loop_alone : (first : Option TypedStatement) (condition update : Option Typed) (body : Option TypedStatement)
    → alone_step (over (StatementNode-F.Loop first condition update body)) ≡ 20 + (value_if condition + value_if update + statement_if body)
loop_alone None condition update None = refl
loop_alone None condition update (Some body) = refl
loop_alone (Some first) condition update None = refl
loop_alone (Some first) condition update (Some body) = refl

pub loop_begun : (first : Option TypedStatement) (condition update : Option Typed) (body : Option TypedStatement)
    → begun_step (over (StatementNode-F.Loop first condition update body)) ≡ begun first
loop_begun None condition update None = refl
loop_begun None condition update (Some body) = refl
loop_begun (Some first) condition update None = refl
loop_begun (Some first) condition update (Some body) = refl

-- An item in whose place nothing is put.
pub one_less : (r : Result Unit CodeError) (n : ℕ) → OnOk r (n < 1 + n)
one_less (Ok done) n = omega arith
one_less (Err e) n = tt

-- A statement with parts that may be missing, by what it does.
pub if_weighs : (s : TypedStatement) (condition : Typed) (then : TypedStatement) (otherwise : Option TypedStatement)
    → out-StatementNode (out-TypedStatement s).node ≡ StatementNode-F.If condition then otherwise
    → alone s ≡ 20 + (value condition + statement then + statement_if otherwise)
if_weighs s condition then otherwise is = ap (λ x. alone_step (over x)) is ∙ if_alone condition then otherwise

pub loop_weighs : (s : TypedStatement) (first : Option TypedStatement) (condition update : Option Typed) (body : Option TypedStatement)
    → out-StatementNode (out-TypedStatement s).node ≡ StatementNode-F.Loop first condition update body
    → alone s ≡ 20 + (value_if condition + value_if update + statement_if body)
loop_weighs s first condition update body is = ap (λ x. alone_step (over x)) is ∙ loop_alone first condition update body

-- a loop with what is done before it
pub begun_weighs : (s : TypedStatement) (first : Option TypedStatement) (condition update : Option Typed) (body : Option TypedStatement)
    → out-StatementNode (out-TypedStatement s).node ≡ StatementNode-F.Loop first condition update body
    → node_step (over (out-StatementNode (out-TypedStatement s).node)) ≡ begun first + alone s
begun_weighs s first condition update body is = ap (λ n. n + alone s) (ap (λ x. begun_step (over x)) is ∙ loop_begun first condition update body)
