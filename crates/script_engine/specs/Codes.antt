-- What is listed and counted: the code of a program, and after how many of its instructions a run ends.
use Rattle.std.specs.List.{list_all}
use Rattle.std.specs.Prelude.{◌≡◌, ℕ, List, [], ◌∷◌, ◌++◌, map, length, Option, Some, None, slice_get, true}
use Rattle.object_values.specs.declared.value.Value.{Value}
use Rattle.object_heap.specs.Store.{Store}
use Rattle.compiled_outcome.specs.World.{World, Limits, End, Result, Uncaught, Limited, limits_for}
use Rattle.object_values.specs.declared.object.Owner.TheVariants.{Prelude}
use Rattle.typed_tree.specs.declared.program.Program.{Program}
use Rattle.static_types.specs.Allow.{AllowList, full_list, flag}
use Rattle.static_types.specs.typing_rules_declared.header.ContextTypes.{ContextTypes}
use Rattle.pl_types.specs.declared.ty.Ty.{Ty}
use Rattle.pl_code.specs.declared.code.Code.{Code}
use Rattle.pl_code.specs.declared.code.FunCode.{FunCode}
use Rattle.codegen.specs.Programs.{program_of, variable_of}
use Rattle.codegen.specs.Tree.{Fun}
use Rattle.codegen.specs.Meaning.{entry}
use Rattle.compiled_outcome.specs.Types.{HaveAll}
use Rattle.compiled_outcome.specs.Agreeing.{types_in}
use Rattle.verified_machine.specs.Faults.{shape_fault}
use Rattle.verified_machine.specs.code_meaning_declared.word.Word.{Word}
use Rattle.verified_machine.specs.Words.{start_of}
use Rattle.verified_machine.specs.Machine.{Codes, Next, Goes, Ends, Stuck, codes_of, start, after}
use Rattle.verified_machine.specs.machine_declared.configuration.Limits as machine
use Rattle.verified_machine.specs.Runs.{steps_taken}
use Rattle.verified_machine.specs.Activations.{counted}
use Rattle.script_engine.specs.Ends.{RunsTo, beside, end_from}
use Rattle.script_engine.specs.declared.compiling.Script.{Script}
pub use Rattle.script_engine.specs.Preludes.{empty_program, prelude_main, prelude_code}
use Rattle.script_engine.specs.Seen.{limits_of}
use Rattle.script_engine.specs.Running.{params_of, value_of, words_in, world_at}

-- the codes of a script: its own, and that of the prelude with which it runs
pub record ScriptCodes : Type 0 where
  pub script : Code
  pub prelude : Code

-- those of a script that is compiled
abbrev pub script_codes : Script → ScriptCodes
script_codes script = record { script = script.executable.code; prelude = prelude_code }

-- ---- how code ends

-- By the instruction table alone two codes end so, after so many instructions: there is a number of steps behind which they have ended, of
-- which they have taken these.
pub record EndsAfter (codes : Codes) (limits : Limits) (from : Next) (last : End (Option Word)) (steps : ℕ) : Type 0 where
  pub bound : ℕ
  pub ends : after codes limits bound from ≡ Ends last
  pub taken : steps ≡ steps_taken codes limits bound from

-- the functions of both codes
abbrev pub functions_in : ScriptCodes → Codes
functions_in codes = codes_of codes.script.functions codes.prelude.functions

-- where a script's code begins on arguments in a world
abbrev pub begins : ScriptCodes → List Value → World → Next
begins codes args w = start (functions_in codes) (words_in (params_of (slice_get codes.script.functions 0)) args) w

-- how often instructions of the two codes are counted on arguments, as far as 64 bits count them
pub record Counts (codes : ScriptCodes) (limits : Limits) (args : List Value) (w : World) (count : ℕ) : Type 0 where
  pub last : End (Option Word)
  pub steps : ℕ
  pub ends : EndsAfter (functions_in codes) limits (begins codes args w) last steps
  pub is : count ≡ counted steps

-- the end of code with its value, which is read by the type of the result
abbrev pub end_read : Ty → End (Option Word) → End Value
end_read of (Result word w) = Result (value_of of word) w
end_read of (Uncaught id place w) = Uncaught id place w
end_read of (Limited limit place w) = Limited limit place w

-- the members that were reached up to a moment
abbrev pub reached_in : Next → List ℕ
reached_in (Goes c) = c.world.reached
reached_in (Ends (Result word w)) = w.reached
reached_in (Ends (Uncaught id place w)) = w.reached
reached_in (Ends (Limited limit place w)) = w.reached
reached_in Stuck = []

-- ---- codes of programs

-- How a program beside the prelude's and a code beside the prelude's run on arguments: to the same end.
pub record RunsAlike (p prelude : Program) (of : Ty) (codes : ScriptCodes) (limits : Limits) (args : List Value) (w : World) : Type 0 where
  pub last : End (Option Word)
  pub steps : ℕ
  pub code_ends : EndsAfter (functions_in codes) limits (begins codes args w) last steps
  pub program_ends : RunsTo p prelude limits args w (end_read of last)

-- Codes that may be listed for a program of a context under a list, beside the prelude's program: the verifier finds no fault in the script's,
-- and on all arguments of the types of the context's variables, within all limits, the two end as the program does, and at each moment have
-- reached members of the list alone.
pub record IsListed (allow : AllowList) (context : ContextTypes) (p prelude : Program) (codes : ScriptCodes) : Type 0 where
  pub shaped : shape_fault allow codes.script ≡ None
  pub runs : (limits : machine.Limits) (store : Store) (args : List Value) → HaveAll (types_in (map variable_of context.variables)) args
      → RunsAlike p prelude context.result codes (limits_of limits allow) args (world_at store limits)
  pub members : (limits : machine.Limits) (store : Store) (args : List Value) → HaveAll (types_in (map variable_of context.variables)) args → (steps : ℕ)
      → list_all (flag allow.members) (reached_in (after (functions_in codes) (limits_of limits allow) steps (begins codes args (world_at store limits)))) ≡ true

-- ---- the prelude

-- where a function of the prelude's code begins on arguments in a world
abbrev pub enters : ℕ → Option FunCode → List Value → World → Next
enters number None args w = Stuck
enters number (Some f) args w =
    Goes (record {
      top = record { text = Prelude; fun = number; line = 0; locals = words_in f.params args ++ map start_of f.locals; stack = []; turns = 0; due = [] };
      below = [];
      world = w;
    })

-- How a function of a prelude's program and the code of its number run on arguments, beside a script's program and code: to the same end,
-- within so many steps and at a bound.
pub record PreludeRunsAlike (p prelude : Program) (codes : ScriptCodes) (number : ℕ) (f : Fun) (limits : Limits) (args : List Value) (w : World) : Type 0 where
  pub last : End (Option Word)
  pub steps : ℕ
  pub code_ends : after (functions_in codes) limits steps (enters number (slice_get codes.prelude.functions number) args w) ≡ Ends last
  pub bound : ℕ
  pub program_ends : end_from (beside p prelude) Prelude limits bound f (entry f.params args []) w ≡ Some (end_read f.result last)

-- A code that may be listed for a prelude's program, beside a script of a program under a list: the verifier finds no fault in it, it has
-- as many functions as the program, and each of them ends, on all arguments of the types of its parameters, from every world and within all
-- limits, as the program's function of its number does.
pub record IsPreludeListed (allow : AllowList) (p prelude : Program) (codes : ScriptCodes) : Type 0 where
  pub shaped : shape_fault full_list codes.prelude ≡ None
  pub many : length codes.prelude.functions ≡ length (program_of prelude)
  pub runs : (number : ℕ) (f : Fun) → slice_get (program_of prelude) number ≡ Some f → (loop depth : ℕ) (args : List Value) → HaveAll (types_in f.params) args → (w : World)
      → PreludeRunsAlike p prelude codes number f (limits_for loop depth allow) args w
