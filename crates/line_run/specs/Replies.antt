-- What is told of an input: each of its lines has a reply, in their order, by the lines before it; and what stands behind the last one.
use Rattle.std.specs.Prelude.{◌≡◌, ℕ, ◌+◌, ◌-◌, ◌^◌, ◌≤◌, ◌||◌, Bool, true, false, List, [], ◌∷◌, ◌++◌, if◌then◌else◌, length, map, min, take, nat_le}
use Rattle.outer_io.specs.Lines.{InputLine, input_line, lines_of, ended_of}
use Rattle.command_parts.specs.declared.status.Status.{Status}
use Rattle.command_parts.specs.declared.status.Status.TheVariants as s
use Rattle.command_parts.specs.Told.{Told, uncounted}

-- the reply to a line: its bytes, of which there are none where the line has no reply, whether it is an error, and how many instructions
-- were run for it
pub record Reply : Type 0 where
  pub bytes : List ℕ
  pub error : Bool
  pub steps : ℕ

abbrev pub no_reply : Reply
no_reply = record { bytes = []; error = false; steps = 0 }

-- A conversation over lines: what a line is told, given the lines before it, and what stands behind the last line, given all lines.
pub record Talk : Type 1 where
  pub says : List InputLine → InputLine → Reply → Type 0
  pub ends : List InputLine → Reply → Type 0

-- one that looks at no line before, and ends with nothing
abbrev pub stateless : (InputLine → Reply → Type 0) → Talk
stateless IsReply = record { says = λ before line reply. IsReply line reply; ends = λ lines reply. reply ≡ no_reply }

-- what stands before the replies, and the listings of the codes that run
pub record Front : Type 0 where
  pub bytes : List ℕ
  pub listings : List (List ℕ)

-- each line has its reply, in order, behind the lines that were before
abbrev pub AreReplies : Talk → List InputLine → List InputLine → List Reply → Type 0
AreReplies talk before [] [] = Unit {0}
AreReplies talk before (line ∷ lines) (reply ∷ replies) = talk.says before line reply × AreReplies talk (before ++ line ∷ []) lines replies
AreReplies talk before [] (reply ∷ replies) = ⊥
AreReplies talk before (line ∷ lines) [] = ⊥

abbrev pub bytes_of : List Reply → List ℕ
bytes_of [] = []
bytes_of (reply ∷ replies) = reply.bytes ++ bytes_of replies

abbrev pub has_error : List Reply → Bool
has_error [] = false
has_error (reply ∷ replies) = reply.error || has_error replies

-- their instructions in all
abbrev pub sum_of : List Reply → ℕ
sum_of [] = 0
sum_of (reply ∷ replies) = reply.steps + sum_of replies

-- as far as 64 bits count them
abbrev pub steps_of : List Reply → ℕ
steps_of replies = min (sum_of replies) (2 ^ 64 - 1)

abbrev pub status_of : Bool → Status
status_of error = if error then s.SomeErrors else s.Done

-- The lines of an input that have replies: all of them, or, where the input has more bytes than its limit, those whose newline is
-- within the limit.
abbrev pub lines_told : ℕ → List ℕ → List InputLine
lines_told limit input = map input_line (if nat_le (length input) limit then lines_of input else ended_of (take limit input))

-- the bytes of a front and of the replies behind it
abbrev pub bytes_behind : Front → List Reply → List ℕ
bytes_behind front replies = front.bytes ++ bytes_of replies

-- what is told of all of an input
abbrev pub whole_told : Front → List Reply → Told
whole_told front replies = record { status = status_of (has_error replies); bytes = bytes_behind front replies; listings = front.listings; steps = steps_of replies }

-- What is told of an input within its limit: the replies to its lines, and what stands behind the last one.
abbrev pub TellsWhole : Talk → Front → List ℕ → Told → Type 0
TellsWhole talk front input told =
    (replies : List Reply) × AreReplies talk [] (map input_line (lines_of input)) replies × (last : Reply) × talk.ends (map input_line (lines_of input)) last
    × (told ≡ whole_told front (replies ++ last ∷ []))

-- What is told of the bytes that were taken of one that does not come to its end: the replies of the lines whose newline is among them, and
-- nothing behind them.
abbrev pub TellsCut : Talk → Front → Status → List ℕ → Told → Type 0
TellsCut talk front status taken told =
    (replies : List Reply) × AreReplies talk [] (map input_line (ended_of taken)) replies × (told ≡ uncounted status (bytes_behind front replies))

-- what is told of an input, by whether it is within its limit
abbrev pub TellsBy : Bool → Talk → Front → ℕ → List ℕ → Told → Type 0
TellsBy true talk front limit input told = TellsWhole talk front input told
TellsBy false talk front limit input told = TellsCut talk front s.InputLong (take limit input) told

-- what is told of an input
abbrev pub TellsInput : Talk → Front → ℕ → List ℕ → Told → Type 0
TellsInput talk front limit input told = TellsBy (nat_le (length input) limit) talk front limit input told

-- what is told of the bytes that were taken before the source failed, which are no more than the limit allows
abbrev pub TellsTaken : Talk → Front → ℕ → List ℕ → Told → Type 0
TellsTaken talk front limit taken told = (length taken ≤ limit) × TellsCut talk front s.ReadFault taken told
