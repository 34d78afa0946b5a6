-- What replies to lines in the code, as a conversation. Which lines it may have heard is a fact of its state.
use Rattle.std.specs.Prelude.{List, [], ◌∷◌, ◌++◌}
use Rattle.outer_io.specs.Lines.{InputLine}
use Rattle.line_run.specs.Replies.{Reply, Talk}

-- A line has its reply, whatever lines may have been heard before it, and is heard now.
pub record Hears (talk : Talk) (old new : List InputLine → Type 0) (line : InputLine) (reply : Reply) : Type 0 where
  pub says : (before : List InputLine) → old before → talk.says before line reply
  pub heard : (before : List InputLine) → old before → new (before ++ line ∷ [])

-- This stands behind the last line, whatever lines may have been heard.
abbrev pub Ends : Talk → (List InputLine → Type 0) → Reply → Type 0
Ends talk heard reply = (lines : List InputLine) → heard lines → talk.ends lines reply

-- what keeps nothing of its lines may have heard any
abbrev pub AnyLines : List InputLine → Type 0
AnyLines lines = Unit {0}
