-- Which codes the script of `eval` may have.
use Rattle.std.specs.Prelude.{ℕ, ◌≤◌, List, Option, Some, None, Ok, length}
use Rattle.allowlist.specs.Allow.{full_list}
use Rattle.typed_tree.specs.declared.program.Program.{Program}
use Rattle.script_engine.specs.Programs.{IsProgramOf}
use Rattle.script_engine.specs.Codes.{IsListed, IsPreludeListed, ScriptCodes, empty_program}
use Rattle.command_parts.specs.Told.{file_limit}
use Rattle.eval_command.specs.Script.{Decodes, eval_types}

-- codes of the program that a text is; a text that is refused has none
abbrev pub AreCodesOfText : List ℕ → ScriptCodes → Type 0
AreCodesOfText text codes =
    (p : Program) → IsProgramOf full_list eval_types text (Ok p)
    → IsListed full_list eval_types p empty_program codes × IsPreludeListed full_list p empty_program codes

-- codes of the program that a script's bytes are
abbrev pub AreCodesOf : List ℕ → ScriptCodes → Type 0
AreCodesOf script codes = (text : List ℕ) → Decodes script (Ok text) → AreCodesOfText text codes

-- the same of a file, where there is one and it is not too long
abbrev pub AreCodesIn : Option (List ℕ) → ScriptCodes → Type 0
AreCodesIn None codes = Unit {0}
AreCodesIn (Some script) codes = length script ≤ file_limit → AreCodesOf script codes
