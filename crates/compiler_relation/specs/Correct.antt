-- The compiler theorem.
use Rattle.std.specs.Prelude.{◌≡◌, ℕ, ◌<◌, List, [], ◌∷◌, map, Option, Some, None, slice_get}
use Rattle.object_values.specs.declared.value.Value.{Value}
use Rattle.object_values.specs.declared.object.Owner.TheVariants.{Script, Prelude}
use Rattle.pl_types.specs.declared.ty.Ty.{Ty}
use Rattle.pl_code.specs.declared.code.FunCode.{FunCode}
use Rattle.run_state.specs.World.{World, Limits, End, Result, Uncaught, Limited}
use Rattle.typed_tree.specs.declared.program.Program as typed
use Rattle.source_meaning.specs.Programs.{fun_of, program_of}
use Rattle.source_meaning.specs.Tree.{Variable, Fun, Program, Programs}
use Rattle.source_meaning.specs.Meaning.{Env, Out, Done, Thrown, Over, More, Flow, entry, returned, meaning}
use Rattle.code_meaning.specs.declared.word.Word.{Word}
use Rattle.code_meaning.specs.Machine.{Codes, Config, Next, Goes, Ends, after}
use Rattle.code_meaning.specs.Machine.{start}
use Rattle.compiler_relation.specs.Representation.{representation_of, low}
use Rattle.compiler_relation.specs.Stands.{Compiled, AreCompiled}

-- ---- how a program ends at a bound

abbrev pub end_with : Ty → Option Value → World → Option (End (Option Word))
end_with of None w = None
end_with of (Some value) w = Some (Result (low (representation_of of) value) w)

abbrev pub end_of : Ty → Out Flow → Option (End (Option Word))
end_of of (Done flow s e) = end_with of (returned of flow) s.world
end_of of (Thrown id place s e) = Some (Uncaught id place s.world)
end_of of (Over limit place w) = Some (Limited limit place w)
end_of of More = None

abbrev pub source_in : Programs → Limits → ℕ → Fun → Option Env → World → Option (End (Option Word))
source_in funs limits bound main None w = None
source_in funs limits bound main (Some e) w =
    end_of main.result ((meaning funs limits bound).stmts (record { text = Script; depth = 0 }) (record { world = w; turns = 0 }) e main.body)

abbrev pub source_of : Programs → Limits → ℕ → Option Fun → List Value → World → Option (End (Option Word))
source_of funs limits bound None args w = None
source_of funs limits bound (Some main) args w = source_in funs limits bound main (entry main.params args []) w

-- How the main script's run on these arguments ends, with its result as code represents it; nothing where that is More.
abbrev pub source : Programs → Limits → ℕ → List Value → World → Option (End (Option Word))
source funs limits bound args w = source_of funs limits bound (slice_get funs.script 0) args w

-- ---- how code starts

abbrev pub words_of : List Variable → List Value → List (Option Word)
words_of [] values = []
words_of (x ∷ xs) [] = []
words_of (x ∷ xs) (value ∷ values) = low (representation_of x.of) value ∷ words_of xs values

-- the words of arguments, where each has one
pub record Words (xs : List Variable) (values : List Value) (words : List Word) : Type 0 where
  pub are : map Some words ≡ words_of xs values

-- Code ends so after some number of steps, and has a next step at each moment before.
pub record EndsAs (codes : Codes) (limits : Limits) (from : Next) (end : End (Option Word)) : Type 0 where
  pub steps : ℕ
  pub ends : after codes limits steps from ≡ Ends end
  pub before : (j : ℕ) → j < steps → (c : Config) × (after codes limits j from ≡ Goes c)

-- Where a program ends at some bound, its code ends alike, from every start, whatever the prelude and the host are.
abbrev pub EndsAlike : Type 0
EndsAlike =
    (funs : Programs) (codes : Codes) → AreCompiled funs codes → (limits : Limits) (main : Fun) → slice_get funs.script 0 ≡ Some main
    → (args : List Value) (words : List Word) → Words main.params args words → (w : World) (bound : ℕ) (end : End (Option Word))
    → source funs limits bound args w ≡ Some end → EndsAs codes limits (start codes words w) end

-- ---- the same of the typed programs of the code

-- these instructions are those of a typed program
abbrev pub IsCodeOf : typed.Program → List FunCode → Type 0
IsCodeOf p code = Compiled Script (program_of p) code

-- a typed program beside a prelude, and code beside the prelude's
abbrev pub programs_of : typed.Program → Program → Programs
programs_of p prelude = record { script = program_of p; prelude = prelude }

-- how a typed program ends at a bound, beside a prelude
abbrev pub program_ends : typed.Program → Program → Limits → ℕ → List Value → World → Option (End (Option Word))
program_ends p prelude limits bound args w = source (programs_of p prelude) limits bound args w

abbrev pub ProgramsEndAlike : Type 0
ProgramsEndAlike =
    (p : typed.Program) (prelude : Program) (codes : Codes) → IsCodeOf p codes.script → Compiled Prelude prelude codes.prelude → (limits : Limits) (args : List Value) (words : List Word) → Words (fun_of p.main).params args words
    → (w : World) (bound : ℕ) (end : End (Option Word)) → program_ends p prelude limits bound args w ≡ Some end → EndsAs codes limits (start codes words w) end
