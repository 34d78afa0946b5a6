-- What is told of `eval`.
use Rattle.std.specs.Prelude.{ℕ, List, [], ◌∷◌}
use Rattle.script_engine.specs.Codes.{ScriptCodes}
use Rattle.command_parts.specs.Ends.{Telling, reads_nothing}
use Rattle.eval_command.specs.Codes.{AreCodesIn}
use Rattle.eval_command.specs.Evaluation.{TellsFile}

-- of the file of a name, which is the only one that it asks for
abbrev pub eval_telling : List ℕ → Telling
eval_telling name = reads_nothing {Codes = ScriptCodes} (λ content codes. AreCodesIn (content name) codes) (λ content codes told. TellsFile codes (content name) told) (λ content. name ∷ [])
