-- The code of a script that is ready to run beside the prelude's.
use Rattle.std.specs.Prelude.{ℕ}
use Rattle.static_types.specs.Allow.{AllowList}
use Rattle.pl_code.specs.declared.code.Code.{Code}
use Rattle.verified_machine.specs.Code.{Executable}
use Rattle.script_engine.specs.Preludes.{prelude_text}

-- the code, the list by which it was verified, and for how many words there is memory in each frame
pub record ScriptCode : Type 0 where
  pub code : Code
  pub allow : AllowList
  pub frame : ℕ

-- what the machine runs
abbrev pub executable_of : ScriptCode → Executable
executable_of c = record { script = record { code = c.code; allow = c.allow }; prelude = prelude_text; frame = c.frame }
