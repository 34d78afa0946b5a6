-- What is run: the code of the script's text and that of the prelude's, each with the members that it may call.
use Rattle.std.specs.Prelude.{ℕ}
use Rattle.pl_types.specs.Host.{no_host}
use Rattle.allowlist.specs.Allow.{AllowList}
use Rattle.object_values.specs.declared.object.Owner.{Owner}
use Rattle.object_values.specs.declared.object.Owner.TheVariants.{Script, Prelude}
use Rattle.pl_code.specs.declared.code.Code.{Code}
use Rattle.run_state.specs.World.{Ground}
use Rattle.code_meaning.specs.Machine.{Codes, codes_of}

-- the code of a text, with the list of the members that it may call
pub record TextCode : Type 0 where
  pub code : Code
  pub allow : AllowList

-- the two texts, and how many words there is memory for in each frame
pub record Executable : Type 0 where
  pub script : TextCode
  pub prelude : TextCode
  pub frame : ℕ

abbrev pub text_of : Executable → Owner → TextCode
text_of e Script = e.script
text_of e Prelude = e.prelude

-- the codes of both texts
abbrev pub codes_in : Executable → Codes
codes_in e = codes_of e.script.code.functions e.prelude.code.functions

-- what its runs stand on: the lists of both texts; the host gives no function
abbrev pub ground_in : Executable → Ground
ground_in e = record { allowed = e.script.allow; prelude_allowed = e.prelude.allow; host = no_host }
