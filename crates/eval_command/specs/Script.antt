-- What a script means, or by which rule it is refused: its text, its program, and how the program's run ends.
use Rattle.std.specs.Prelude.{◌≡◌, ℕ, List, [], Result, Ok, Err}
use Rattle.std.specs.Str.{IsUtf8, IsValidUpTo}
use Rattle.pl_types.specs.declared.refusal.Refusal.{Refusal}
use Rattle.pl_types.specs.declared.ty.Ty.TheVariants.{Def}
use Rattle.allowlist.specs.Allow.{full_list}
use Rattle.object_values.specs.declared.value.Value.{Value}
use Rattle.run_state.specs.World.{World, Limits, limits_for, End}
use Rattle.static_types.specs.typing_rules_declared.header.ContextTypes.{ContextTypes}
use Rattle.typed_tree.specs.declared.program.Program.{Program}
use Rattle.script_engine.specs.Stages.{Then}
use Rattle.script_engine.specs.Programs.{IsProgramOf}
use Rattle.script_engine.specs.Codes.{empty_program}
use Rattle.script_engine.specs.Ends.{RunsTo}

-- bytes are a text; else no token begins at the byte behind their longest front that is UTF-8
abbrev pub Decodes : List ℕ → Result (List ℕ) Refusal → Type 0
Decodes bytes (Ok text) = (text ≡ bytes) × IsUtf8 bytes
Decodes bytes (Err refusal) = (refusal.number ≡ 1) × IsValidUpTo bytes refusal.offset

-- ---- the context of `eval`: no variables, any result, the default limits, and every member of the catalogue

abbrev pub eval_types : ContextTypes
eval_types = record { variables = []; result = Def }

abbrev pub eval_limits : Limits
eval_limits = limits_for 1000000 256 full_list

-- no objects, the default room and ticks, and no member was reached
abbrev pub eval_world : World
eval_world = record { store = record { objects = []; room = 16000000 }; ticks = 10000000; reached = [] }

-- how the run of a program ends beside the prelude's, which is the empty one
abbrev pub RunsProgram : Program → Result (End Value) Refusal → Type 0
RunsProgram p answer = (end : End Value) × RunsTo p empty_program eval_limits [] eval_world end × (answer ≡ Ok end)

-- what a text comes to, where names mean the classes of the full catalogue
abbrev pub MeansText : List ℕ → Result (End Value) Refusal → Type 0
MeansText text = Then (IsProgramOf full_list eval_types text) RunsProgram

-- what a script's bytes come to
abbrev pub Means : List ℕ → Result (End Value) Refusal → Type 0
Means script = Then (Decodes script) MeansText
