-- In a well-formed program each value is of its type: from a store that fits and names with values of their types, an expression comes to
-- a value of its type in the store that it leaves.
use Rattle.std.specs.Prelude.{◌≡◌, true, ℕ, Bool, List, [], Some, slice_get}
use Rattle.pl_types.specs.declared.ty.Ty.{Ty}
use Rattle.pl_types.specs.declared.conversion.Cast.{Cast}
use Rattle.typed_tree.specs.declared.operation.Operator.{Operator}
use Rattle.object_values.specs.declared.object.Owner.TheVariants.{Script}
use Rattle.object_values.specs.declared.value.Value.{Value}
use Rattle.object_heap.specs.Fits.{Rules, Every, Fits}
use Rattle.run_state.specs.World.{World, Limits}
use Rattle.source_fit.specs.Tree.{Expr, Exprs, Stmt, Stmts, Fun, Programs, type_of}
use Rattle.source_fit.specs.Operating.{operates, operates_to, casts}
use Rattle.source_fit.specs.Meaning.{State, Env, Place, Meaning, entry, meaning}
use Rattle.source_fit.specs.ProgramRules.{FitsProgram, rules_of}
use Rattle.program_typing.specs.Types.{Takes, TakesTo, Casts}
use Rattle.value_typing.specs.Typing.{is_typed, are_typed}
use Rattle.program_typing.specs.Agreeing.{Scope, types_of, types_in, scope_of, ExprAgrees, ExprsAgree, StmtAgrees, StmtsAgree, AreWellFormed, known_in}
use Rattle.source_typing.specs.Outs.{OperatedTyped, IsTyped, AreTyped, StateTyped, FlowTyped, OutTyped}

-- What an operator comes to whose operands' types are known, and what a cast comes to.
abbrev pub OperatorsGiveTypes : Type 0
OperatorsGiveTypes =
    (w : World) (o : Operator) (ofs : List Ty) (of : Ty) (values : List Value) → Takes o ofs of → are_typed w.store.objects ofs values ≡ true
    → OperatedTyped w of (operates o values w.store)

-- and so is what an operator comes to of a node of a type, in a store that fits by the rules of a program
abbrev pub NodesGiveTypes : Type 0
NodesGiveTypes =
    (rules : Rules) (w : World) (o : Operator) (ofs : List Ty) (of : Ty) (values : List Value) → rules.typed ≡ Every → Fits rules w.store.objects → TakesTo o ofs of
    → are_typed w.store.objects ofs values ≡ true → OperatedTyped w of (operates_to o of values w.store)

abbrev pub CastsGiveStaticTypes : Type 0
CastsGiveStaticTypes =
    (w : World) (c : Cast) (from to : Ty) (value : Value) → Casts c from to → is_typed w.store.objects from value ≡ true
    → OperatedTyped w to (casts c to value w.store)

pub record MeaningTyped (rules : Rules) (funs : Programs) (limits : Limits) (m : Meaning) : Type 0 where
  pub expr : (x : Expr) (d : Place) (s : State) (e : Env) (g : Scope) → ExprAgrees (known_in funs limits d.text) g x → StateTyped rules g s e
      → OutTyped (λ objects value. IsTyped objects (type_of x) value) rules s.world.store.objects g (m.expr d s e x)
  pub exprs : (x : Exprs) (d : Place) (s : State) (e : Env) (g : Scope) → ExprsAgree (known_in funs limits d.text) g x → StateTyped rules g s e
      → OutTyped (λ objects values. AreTyped objects (types_of x) values) rules s.world.store.objects g (m.exprs d s e x)
  pub stmt : (x : Stmt) (d : Place) (s : State) (e : Env) (g : Scope) (of : Ty) (looped : Bool) → StmtAgrees (known_in funs limits d.text) of looped g x → StateTyped rules g s e
      → OutTyped (FlowTyped of) rules s.world.store.objects g (m.stmt d s e x)
  pub stmts : (x : Stmts) (d : Place) (s : State) (e : Env) (g : Scope) (of : Ty) (looped : Bool) → StmtsAgree (known_in funs limits d.text) of looped g x → StateTyped rules g s e
      → OutTyped (FlowTyped of) rules s.world.store.objects g (m.stmts d s e x)

-- At every bound, by the rules of the program: each element of an array is of its element type.
abbrev pub MeaningsAreTyped : Type 0
MeaningsAreTyped = (funs : Programs) (limits : Limits) (bound : ℕ) → AreWellFormed funs limits → MeaningTyped (rules_of funs) funs limits (meaning funs limits bound)

-- A main script, on arguments of its parameters' types in a store that fits the program, returns a value of its result's type in the store
-- that it leaves, which fits the program.
abbrev pub ResultsAreTyped : Type 0
ResultsAreTyped =
    (funs : Programs) (limits : Limits) (bound : ℕ) → AreWellFormed funs limits → (main : Fun) → slice_get funs.script 0 ≡ Some main
    → (w : World) (arguments : List Value) → FitsProgram funs w.store → AreTyped w.store.objects (types_in main.params) arguments
    → (e : Env) → entry main.params arguments [] ≡ Some e
    → OutTyped (FlowTyped main.result) (rules_of funs) w.store.objects (scope_of main.params [])
    ((meaning funs limits bound).stmts (record { text = Script; depth = 0 }) (record { world = w; turns = 0 }) e main.body)
