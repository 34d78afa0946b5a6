-- The meaning of a program fits by the rules of the program. An array takes values of its element type alone, whatever writes into it.
use Rattle.std.specs.Prelude.{◌≡◌, ℕ, List, [], Some, slice_get}
use Rattle.object_values.specs.declared.object.Object.{Object}
use Rattle.object_values.specs.declared.object.Owner.TheVariants.{Script}
use Rattle.object_values.specs.declared.value.Value.{Value}
use Rattle.object_heap.specs.Fits.{Rules, ValueFits, AllFit}
use Rattle.run_state.specs.World.{World, Limits}
use Rattle.run_fit.specs.Worlds.{count_in}
use Rattle.source_meaning.specs.Tree.{Expr, Exprs, Stmt, Stmts, Fun, Programs}
use Rattle.source_meaning.specs.Meaning.{State, Env, Place, Meaning, entry, meaning}
use Rattle.source_fit.specs.Outs.{StateFits, FlowFits, OutFits}
use Rattle.source_fit.specs.ProgramRules.{FitsProgram, rules_of}

pub record MeaningFits (rules : Rules) (before : List Object) (m : Meaning) : Type 0 where
  pub expr : (t : Expr) (d : Place) (s : State) (e : Env) → StateFits rules before s e → OutFits ValueFits rules before (count_in s.world) (m.expr d s e t)
  pub exprs : (t : Exprs) (d : Place) (s : State) (e : Env) → StateFits rules before s e → OutFits AllFit rules before (count_in s.world) (m.exprs d s e t)
  pub stmt : (t : Stmt) (d : Place) (s : State) (e : Env) → StateFits rules before s e → OutFits FlowFits rules before (count_in s.world) (m.stmt d s e t)
  pub stmts : (t : Stmts) (d : Place) (s : State) (e : Env) → StateFits rules before s e → OutFits FlowFits rules before (count_in s.world) (m.stmts d s e t)

abbrev pub MeaningsFit : Type 0
MeaningsFit = (before : List Object) (funs : Programs) (limits : Limits) (bound : ℕ) → MeaningFits (rules_of funs) before (meaning funs limits bound)

-- So a main script, on arguments that are there in a store that fits its program, leaves a store that fits the program.
abbrev pub MainsFit : Type 0
MainsFit =
    (funs : Programs) (limits : Limits) (bound : ℕ) (main : Fun) → slice_get funs.script 0 ≡ Some main
    → (w : World) (arguments : List Value) → FitsProgram funs w.store → AllFit (count_in w) arguments → (e : Env) → entry main.params arguments [] ≡ Some e
    → OutFits FlowFits (rules_of funs) w.store.objects (count_in w) ((meaning funs limits bound).stmts (record { text = Script; depth = 0 }) (record { world = w; turns = 0 }) e main.body)
