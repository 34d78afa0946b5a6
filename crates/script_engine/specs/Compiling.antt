-- Scripts, which stand for programs.
use Rattle.std.specs.Prelude.{◌≡◌, map, Result, Ok, Err}
use Rattle.pl_types.specs.declared.refusal.Refusal.{Refusal}
use Rattle.pl_types.specs.declared.refusal.Fail.{Fail}
use Rattle.pl_types.specs.declared.refusal.Fail.TheVariants.{Refused, NoMemory}
use Rattle.static_types.specs.Allow.{AllowList}
use Rattle.static_types.specs.typing_rules_declared.header.ContextTypes.{ContextTypes}
use Rattle.typed_tree.specs.declared.program.Program.{Program}
use Rattle.codegen.specs.Programs.{fun_of, program_of, variable_of}
use Rattle.compiled_outcome.specs.Agreeing.{known, WellFormed}
use Rattle.compiled_outcome.specs.Correct.{IsCodeOf}
use Rattle.script_engine.specs.declared.compiling.Script.{Script}

-- A script is this program of a context under a list: it has the list, it has code that stands for the program, the program is well formed,
-- and its variables and its result are the context's; the type of the result is kept.
pub record IsScriptOf (allow : AllowList) (context : ContextTypes) (p : Program) (script : Script) : Type 0 where
  pub allowed : script.executable.allow ≡ allow
  pub formed : WellFormed (known allow (program_of p))
  pub code : IsCodeOf p script.executable.code.functions
  pub variables : (fun_of p.main).params ≡ map variable_of context.variables
  pub result : (fun_of p.main).result ≡ context.result
  pub kept : script.result ≡ context.result

-- the script of a text's program, or the text's refusal; want of memory is free
abbrev pub Compiles : AllowList → ContextTypes → (Result Program Refusal → Type 0) → Result Script Fail → Type 0
Compiles allow context reads (Ok script) = (p : Program) × reads (Ok p) × IsScriptOf allow context p script
Compiles allow context reads (Err (Refused refusal)) = reads (Err refusal)
Compiles allow context reads (Err NoMemory) = Unit {0}
