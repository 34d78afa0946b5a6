-- What is still to be written, and what it means that it stands in code.
use Rattle.std.specs.Prelude.{◌≡◌, ◌≢◌, ℕ, suc, ◌+◌, ◌&&◌, ◌||◌, Bool, true, false, ◌++◌, List, [], ◌∷◌, length, map, drop, Option, Some, None, slice_get}
use Rattle.pl_code.specs.declared.kinds.Numbered.{Numbered}
use Rattle.pl_code.specs.declared.kinds.Numbered.TheVariants as numbered
use Rattle.pl_code.specs.declared.kinds.Slot.{Slot}
use Rattle.pl_code.specs.declared.code.FunCode.{FunCode}
use Rattle.pl_code.specs.declared.code.Trap.{Trap}
use Rattle.pl_code.specs.declared.code.Instruction.{Instruction}
use Rattle.pl_code.specs.declared.code.Instruction.TheVariants as i
use Rattle.pl_types.specs.declared.ty.Ty.{Ty}
use Rattle.pl_types.specs.declared.ty.Ty.TheVariants as ty
use Rattle.allowlist.specs.declared.member.MemberKind.{MemberKind}
use Rattle.allowlist.specs.declared.member.MemberKind.TheVariants as kind
use Rattle.typed_tree.specs.declared.operation.Operation.{Operation}
use Rattle.pl_types.specs.declared.conversion.Cast.{Cast}
use Rattle.std.specs.Borrow.{Bor}
use Rattle.source_meaning.specs.Tree.{Name, Expr, Exprs, Maybe, Missing, Given, Stmt, Stmts, Finish, Then, Catches, NoCatch, Catch, Program, type_of}
use Rattle.source_meaning.specs.Falls.{any_falls, catches_continue}
use Rattle.source_meaning.specs.Programs.{expr_of, exprs_of, before, declared, stmts_of, maybe_of, caught_in_row}
use Rattle.compiler_relation.specs.Representation.{Representation, Unboxed, Boxed, Absent, representation_of}
use Rattle.compiler_relation.specs.Stands.{Entry, Scope, IsEntry, At, AllAt, end_all, end_expr, end_exprs, ExprAt, ExprsAt, AllRepresented, representations, with_receiver, falls, all_fall, continues, any_continues, end_skip, end_update, end_test, end_last, end_stmt, end_stmts, end_catches, next_stmt, next_stmts, next_catches, traps_stmt, traps_stmts, traps_catches, Jumps, no_jumps, HasLocal, SkipAt, UpdateAt, TestAt, LastAt, EndAt, end_end}
use Rattle.compiler_relation.specs.Placed.{untrapped, StmtIn, StmtsIn, CatchesIn}
use Rattle.compiler_relation.specs.Parts.{default_code, cast_code, operation_code, write_code}
use Rattle.typed_tree.specs.declared.statement.TypedVariable.{TypedVariable}
use Rattle.typed_tree.specs.declared.statement.TypedCatch.{TypedCatch, out-TypedCatch}
pub use Rattle.plain_stack.specs.Stacks.{lowest}
pub use Rattle.codegen.specs.Symbols.{entry}
use Rattle.codegen.specs.Checks.{denoted}
use Rattle.codegen.specs.Labels.{line_of, settled_line}
use Rattle.codegen.specs.Pieces.{piece}
use Rattle.codegen.specs.Called.{call_code}
use Rattle.codegen.specs.Opened.{statement_of, caught}
use Rattle.codegen.specs.declared.work_item.Exits.{Exits}
use Rattle.codegen.specs.declared.work_item.Tail.{Tail}
use Rattle.codegen.specs.declared.work_item.Tail.TheVariants as tail
use Rattle.codegen.specs.declared.config.Config.{Config}
use Rattle.codegen.specs.declared.config.Flow.{Flow}
use Rattle.codegen.specs.declared.work_item.Wanted as dw
use Rattle.codegen.specs.declared.work_item.Wanted.TheVariants as w
use Rattle.typed_tree.specs.declared.program.Named.{Named}
use Rattle.typed_tree.specs.declared.typed.Typed.{Typed}
use Rattle.codegen.specs.declared.labels.Line.{Line}
use Rattle.codegen.specs.declared.work_item.WorkItem.{WorkItem}
use Rattle.codegen.specs.declared.work_item.WorkItem.TheVariants as t

-- how parts have to be represented: all in one way, as parameters are, or as those are before one that is represented so
pub data Wanted : Type 0 where
  All : (one : Representation) → Wanted
  As : (all : List Representation) → Wanted
  Before : (all : List Representation) (one : Representation) → Wanted

abbrev pub Wants : Wanted → List Representation → Type 0
Wants (All one) ks = AllRepresented one ks
Wants (As all) ks = ks ≡ all
Wants (Before all one) ks = (ks ++ one ∷ []) ≡ all

-- one part more, which is represented so: what was wanted before, and what is wanted of the others
pub record Taken (before behind : Wanted) (one : Representation) : Type 0 where
  pub by : (ks : List Representation) → Wants behind ks → Wants before (one ∷ ks)

pub data Item : Type 0 where
  Value : (expression : Expr) → Item
  Values : (parts : Exprs) (wanted : Wanted) → Item
  Put : (instructions : List Instruction) → Item
  -- a cast to a type
  Convert : (by : Cast) (to : Ty) → Item
  -- an operation on so many parts that gives a value of a type, and one that writes such a value at a place
  Operate : (does : Operation) (of : Ty) (count : ℕ) → Item
  Write : (does : Operation) (of : Ty) → Item
  -- a member of a text that is called, made or read
  Call : (kind : MemberKind) (text : List ℕ) → Item
  Jump : (kind : Numbered) (label : ℕ) → Item
  Bind : (label : ℕ) → Item
  Load : (name : Name) (representation : Representation) → Item
  Store : (name : Name) (representation : Representation) → Item
  -- statements, and those of a scope; a break or a continue goes to these labels
  One : (statement : Stmt) (exits : Option Exits) → Item
  Run : (statements : Stmts) (exits : Option Exits) → Item
  -- a variable is in scope from here on
  Declared : (name : Name) (of : Ty) → Item
  -- the names above the lowest are gone
  Close : (height : ℕ) → Item
  -- how control goes on behind what is written: a new one, and two as one
  Flows : (flow : Flow) → Item
  Both Either : Item
  -- a jump over what follows, where it is reached
  Skip : (label : ℕ) → Item
  -- the parts of a loop around its body
  Update : (update : Maybe) → Item
  Test : (test : Maybe) → Item
  Last : (test : Maybe) (label : ℕ) → Item
  Turned : Item
  -- the catches of a block that begins at a line and ends here, and catches of the lines between two; a label is behind them
  Tried : (catches : Catches) (from label : ℕ) (exits : Option Exits) → Item
  Caught : (catches : Catches) (from to label : ℕ) (exits : Option Exits) → Item
  -- a jump over further catches, if there are any, where it is reached
  Over : (further : Catches) (label : ℕ) → Item
  -- the end of a function with this result
  End : (of : Ty) → Item

-- parts from one on
abbrev pub parts_from : ℕ → List Typed → Exprs
parts_from at parts = exprs_of (map expr_of (drop at parts))

abbrev pub representations_in : List Named → List Representation
representations_in params = map (λ (x : Named). representation_of x.of) params

-- how the parts of a member with these parameters are represented
abbrev pub member_takes : MemberKind → List Ty → List Representation
member_takes kind params = with_receiver kind (map representation_of params)

-- an array, and an index
abbrev pub indexed : List Representation
indexed = Boxed ∷ Unboxed ∷ []

abbrev pub wanted : ℕ → dw.Wanted → Wanted
wanted at (w.All one) = All (denoted one)
wanted at (w.As params) = As (representations_in (drop at params.now))
wanted at (w.Member kind params) = As (drop at (member_takes kind params.now))
wanted at w.Indexed = As (drop at indexed)
wanted at (w.Setter params one) = Before (drop at (member_takes kind.Instance params.now)) (denoted one)

abbrev pub First : Ty → Maybe → Item → Type 0
First of Missing first = first ≡ Put (default_code of)
First of (Given a) first = (representation_of (type_of a) ≡ representation_of of) × (first ≡ Value a)

abbrev pub maybe_in : Option (Bor Typed) → Maybe
maybe_in None = Missing
maybe_in (Some e) = Given (expr_of e.now)

-- what stands behind a statement in its scope
abbrev pub tail_of : Tail → Stmts
tail_of tail.Nothing = Finish
tail_of (tail.Row all at) = stmts_of (drop at all.now)
tail_of (tail.Loop s) = Then (statement_of s.now) Finish

-- catches from one on
abbrev pub catches_from : ℕ → List TypedCatch → Catches
catches_from at catches = caught_in_row (map caught (drop at catches))

abbrev pub item_of : WorkItem → Item
item_of (t.Value e) = Value (expr_of e.now)
item_of (t.Values parts at kind) = Values (parts_from at parts.now) (wanted at kind)
item_of (t.Put what) = Put (piece what)
item_of (t.Convert by to) = Convert by to.now
item_of (t.Operate does of count) = Operate does.now of.now count
item_of (t.Write does of) = Write does.now of.now
item_of (t.Call kind text) = Call kind text.now
item_of (t.Jump kind label) = Jump kind label
item_of (t.Bind label) = Bind label
item_of (t.Load name representation) = Load name.now (denoted representation)
item_of (t.Store name representation) = Store name.now (denoted representation)
item_of (t.One s exits) = One (statement_of s.now) exits
item_of (t.Statement s tail exits) = Run (before s.now (tail_of tail)) exits
item_of (t.Rest tail exits) = Run (tail_of tail) exits
item_of (t.Variables variables at tail exits) = Run (declared (drop at variables.now) (tail_of tail)) exits
item_of (t.Declared x) = Declared x.now.name x.now.of
item_of (t.Close height) = Close height
item_of (t.Flows flow) = Flows flow
item_of t.Both = Both
item_of t.Either = Either
item_of (t.Skip label) = Skip label
item_of (t.Update update) = Update (maybe_in update)
item_of (t.Test test) = Test (maybe_in test)
item_of (t.Last test label) = Last (maybe_in test) label
item_of t.Turned = Turned
item_of (t.Named c) = Declared (out-TypedCatch c.now).name (ty.Class (out-TypedCatch c.now).class)
item_of (t.Tried catches from label exits) = Tried (catches_from 0 catches.now) from label exits
item_of (t.Caught catches at from to label exits) = Caught (catches_from at catches.now) from to label exits
item_of (t.Over catches at label) = Over (catches_from at catches.now) label
item_of (t.End of) = End of.now

abbrev pub items_of : List WorkItem → List Item
items_of worklist = map item_of worklist

-- the number of the local of a name whose values are represented so
pub record IsLocal (g : Scope) (x : Name) (representation : Representation) (local : ℕ) : Type 0 where
  pub entry : Entry
  pub is : IsEntry g x entry
  pub represented_so : representation ≡ representation_of entry.of
  pub number : local ≡ entry.local

abbrev pub scope_in : Config → Scope
scope_in c = map entry c.scope

-- the number of the next local
abbrev pub next_in : Config → ℕ
next_in c = length c.params + length c.locals

abbrev pub flow_of : Stmts → Flow
flow_of body = record { falls = all_fall body; continues = any_continues body }

abbrev pub flow_in : Stmt → Flow
flow_in t = record { falls = falls t; continues = continues t }

abbrev pub flow_caught : Catches → Flow
flow_caught catches = record { falls = any_falls catches; continues = catches_continue catches }

abbrev pub on : Flow
on = record { falls = true; continues = false }

-- a statement and those behind it
abbrev pub both : Flow → Flow → Flow
both t rest = record { falls = t.falls && rest.falls; continues = t.continues || rest.continues }

-- one way or the other
abbrev pub either : Flow → Flow → Flow
either a b = record { falls = a.falls || b.falls; continues = a.continues || b.continues }

abbrev pub turns_on : Flow → Bool
turns_on body = body.falls || body.continues

-- the first of these
pub record IsTop (flows : List Flow) (x : Flow) : Type 0 where
  pub rest : List Flow
  pub is : flows ≡ x ∷ rest

-- what a variable begins with is done by this
abbrev pub IsFirst : TypedVariable → Item → Type 0
IsFirst x first = First x.of (maybe_of x.value) first

abbrev pub on_top : List Flow → (Flow → List Flow → Type 0) → Type 0
on_top [] P = ⊥
on_top (x ∷ flows) P = P x flows

abbrev pub on_two : List Flow → (Flow → Flow → List Flow → Type 0) → Type 0
on_two [] P = ⊥
on_two (y ∷ []) P = ⊥
on_two (y ∷ x ∷ flows) P = P x y flows

abbrev pub jumps_of : List (Option ℕ) → Option Exits → Jumps
jumps_of labels None = no_jumps
jumps_of labels (Some exits) = record { out = line_of labels exits.out; on = line_of labels exits.on }

-- a scope with further names
pub record Grown (g later : Scope) : Type 0 where
  pub more : Scope
  pub is : later ≡ more ++ g

-- all trap lines of a function, by those that stand behind what is written
abbrev pub Trapped : Type 0
Trapped = List Trap → List Trap

-- What is still to be written stands in this code, whose labels have these lines, and no further line, local or trap line.
module _ (funs : Program) (k : Representation) (f : FunCode) (labels : List (Option ℕ)) where
  abbrev pub Stand : List Item → Scope → ℕ → ℕ → List Flow → Trapped → Type 0
  Stand [] g n p flows whole = (length f.lines ≡ p) × (f.traps ≡ whole []) × (length f.params + length f.locals ≡ n)
  Stand (Value e ∷ todo) g n p flows whole = ExprAt funs (untrapped f) [] g p e × Stand todo g n (end_expr p e) flows whole
  Stand (Values es wanted ∷ todo) g n p flows whole = (ExprsAt funs (untrapped f) [] g p es × Wants wanted (representations es)) × Stand todo g n (end_exprs p es) flows whole
  Stand (Put is ∷ todo) g n p flows whole = AllAt (untrapped f) [] p is × Stand todo g n (end_all p is) flows whole
  Stand (Convert by to ∷ todo) g n p flows whole = AllAt (untrapped f) [] p (cast_code by to) × Stand todo g n (end_all p (cast_code by to)) flows whole
  Stand (Operate does of count ∷ todo) g n p flows whole = AllAt (untrapped f) [] p (operation_code does of count) × Stand todo g n (end_all p (operation_code does of count)) flows whole
  Stand (Write does of ∷ todo) g n p flows whole = AllAt (untrapped f) [] p (write_code does of) × Stand todo g n (end_all p (write_code does of)) flows whole
  Stand (Call kind text ∷ todo) g n p flows whole = At (untrapped f) [] p (call_code kind text) × Stand todo g n (suc p) flows whole
  Stand (Jump kind label ∷ todo) g n p flows whole = At (untrapped f) [] p (i.Numbered kind (line_of labels label)) × Stand todo g n (suc p) flows whole
  Stand (Bind label ∷ todo) g n p flows whole = (line_of labels label ≡ p) × Stand todo g n p flows whole
  Stand (Load x representation ∷ todo) g n p flows whole =
      ((y : Entry) × IsEntry g x y × (representation ≡ representation_of y.of) × At (untrapped f) [] p (i.Numbered numbered.Load y.local)) × Stand todo g n (suc p) flows whole
  Stand (Store x representation ∷ todo) g n p flows whole =
      ((y : Entry) × IsEntry g x y × (representation ≡ representation_of y.of) × At (untrapped f) [] p (i.Numbered numbered.Store y.local)) × Stand todo g n (suc p) flows whole
  Stand (One t exits ∷ todo) g n p flows whole =
      StmtIn funs (untrapped f) k g n (jumps_of labels exits) p t
      × Stand todo g (next_stmt n t) (end_stmt p t) (flow_in t ∷ flows) (λ more. whole (traps_stmt p t ++ more))
  Stand (Run body exits ∷ todo) g n p flows whole =
      StmtsIn funs (untrapped f) k g n (jumps_of labels exits) p body
      × ((later : Scope) × Grown g later × Stand todo later (next_stmts n body) (end_stmts p body) (flow_of body ∷ flows) (λ more. whole (traps_stmts p body ++ more)))
  Stand (Declared x of ∷ todo) g n p flows whole =
      ((representation_of of ≢ Absent) × HasLocal (untrapped f) n of × At (untrapped f) [] p (i.Numbered numbered.Store n)) × Stand todo (record { name = x; of = of; local = n } ∷ g) (suc n) (suc p) flows whole
  Stand (Close height ∷ todo) g n p flows whole = Stand todo (lowest height g) n p flows whole
  Stand (Flows x ∷ todo) g n p flows whole = Stand todo g n p (x ∷ flows) whole
  Stand (Both ∷ todo) g n p flows whole = on_two flows (λ x y flows. Stand todo g n p (both x y ∷ flows) whole)
  Stand (Either ∷ todo) g n p flows whole = on_two flows (λ x y flows. Stand todo g n p (either x y ∷ flows) whole)
  Stand (Skip label ∷ todo) g n p flows whole = on_top flows (λ x flows. SkipAt (untrapped f) [] x.falls p (line_of labels label) × Stand todo g n (end_skip x.falls p) (x ∷ flows) whole)
  Stand (Update update ∷ todo) g n p flows whole = on_top flows (λ x flows. UpdateAt funs (untrapped f) [] g (turns_on x) p update × Stand todo g n (end_update (turns_on x) p update) (x ∷ flows) whole)
  Stand (Test test ∷ todo) g n p flows whole = TestAt funs (untrapped f) [] g p test × Stand todo g n (end_test p test) flows whole
  Stand (Last test label ∷ todo) g n p flows whole =
      on_top flows (λ x flows. LastAt funs (untrapped f) [] g (turns_on x) p test (line_of labels label) × Stand todo g n (end_last (turns_on x) p test) (x ∷ flows) whole)
  Stand (Turned ∷ todo) g n p flows whole = on_top flows (λ x flows. Stand todo g n p (on ∷ flows) whole)
  Stand (Tried catches from label exits ∷ todo) g n p flows whole =
      CatchesIn funs (untrapped f) k g n (jumps_of labels exits) (line_of labels label) p catches
      × Stand todo g (next_catches n catches) (end_catches p catches) (flow_caught catches ∷ flows) (λ more. whole (traps_catches from p p catches ++ more))
  Stand (Caught catches from to label exits ∷ todo) g n p flows whole =
      CatchesIn funs (untrapped f) k g n (jumps_of labels exits) (line_of labels label) p catches
      × Stand todo g (next_catches n catches) (end_catches p catches) (flow_caught catches ∷ flows) (λ more. whole (traps_catches from to p catches ++ more))
  Stand (Over NoCatch label ∷ todo) g n p flows whole = Stand todo g n p flows whole
  Stand (Over (Catch class x body rest) label ∷ todo) g n p flows whole = on_top flows (λ x flows. SkipAt (untrapped f) [] x.falls p (line_of labels label) × Stand todo g n (end_skip x.falls p) (x ∷ flows) whole)
  Stand (End of ∷ todo) g n p flows whole = on_top flows (λ x flows. EndAt (untrapped f) x.falls p of × Stand todo g n (end_end x.falls p of) (x ∷ flows) whole)

-- with what is written
abbrev pub whole_in : Config → Trapped
whole_in c more = c.traps ++ more

-- What is written so far stands in this code.
pub record Holds (f : FunCode) (labels : List (Option ℕ)) (c : Config) : Type 0 where
  pub lines : (at : ℕ) (line : Line) → slice_get c.lines at ≡ Some line → slice_get f.lines at ≡ Some (settled_line labels line)
  pub bound : (label line : ℕ) → slice_get c.labels label ≡ Some (Some line) → slice_get labels label ≡ Some (Some line)
  pub params : f.params ≡ c.params
  pub locals : (at : ℕ) (kind : Slot) → slice_get c.locals at ≡ Some kind → slice_get f.locals at ≡ Some kind

pub record Meets (funs : Program) (f : FunCode) (labels : List (Option ℕ)) (todo : List Item) (c : Config) : Type 0 where
  pub holds : Holds f labels c
  pub stand : Stand funs (denoted c.result) f labels todo (scope_in c) (next_in c) (length c.lines) c.flows (whole_in c)

-- Code in which the later stands has the earlier too.
pub record Back (funs : Program) (todo : List Item) (c : Config) (todo' : List Item) (c' : Config) : Type 0 where
  pub by : (f : FunCode) (labels : List (Option ℕ)) → Meets funs f labels todo' c' → Meets funs f labels todo c
