-- What a run over an input leaves, by the status with which it ends and by the replies that were given.
use Rattle.std.specs.Prelude.{◌≡◌, ◌⊎◌, ℕ, ◌+◌, ◌≤◌, List, [], ◌∷◌, ◌++◌, Option, length}
use Rattle.std.specs.Io.KnownBytes.{Consumes, Appends, IsAtEnd}
use Rattle.outer_io.specs.Front.{AppendsFront}
use Rattle.outer_io.specs.Lines.{InputLine}
use Rattle.command_parts.specs.declared.status.Status.{Status}
use Rattle.command_parts.specs.declared.status.Status.TheVariants as s
use Rattle.command_parts.specs.DeliversOver.{IsInput}
use Rattle.command_parts.specs.Told.{Told}
use Rattle.line_run.specs.declared.ran.Ran.{Ran}
use Rattle.line_run.specs.Replies.{Reply, Front, Talk, AreReplies, bytes_behind, lines_told, TellsInput, TellsTaken}

-- the listings that are told with a status
abbrev pub listings_by : Status → Front → List (List ℕ)
listings_by s.Done front = front.listings
listings_by s.SomeErrors front = front.listings
listings_by other front = []

-- All that is told of the input was appended, and so many instructions are told.
pub record PassesAll (talk : Talk) (front : Front) (limit : ℕ) (ran : Ran) (left old new : Option (List ℕ)) : Type 0 where
  pub input : List ℕ
  pub is : IsInput left input
  pub told : Told
  pub tells : TellsInput talk front limit input told
  pub ends : told.status ≡ ran.status
  pub listings : told.listings ≡ listings_by ran.status front
  pub steps : told.steps ≡ ran.steps
  pub appended : Appends old new told.bytes

-- all that is told of the bytes that were taken was appended
pub record PassesTaken (talk : Talk) (front : Front) (limit : ℕ) (left left' old new : Option (List ℕ)) : Type 0 where
  pub taken : List ℕ
  pub consumed : Consumes left left' taken
  pub told : Told
  pub tells : TellsTaken talk front limit taken told
  pub appended : Appends old new told.bytes

-- As many bytes were taken as may be, and one more.
pub record TakesPast (limit : ℕ) (left left' : Option (List ℕ)) : Type 0 where
  pub front : List ℕ
  pub consumed : Consumes left left' front
  pub past : length front ≡ limit + 1

-- what stands behind the last line of an input within its limit: a front of all that is told was appended
pub record PassesEnd (talk : Talk) (front : Front) (limit : ℕ) (input : List ℕ) (lines behind : List InputLine) (replies : List Reply) (old new : Option (List ℕ)) : Type 0 where
  pub within : length input ≤ limit
  pub all : behind ≡ []
  pub last : Reply
  pub ends : talk.ends lines last
  pub appended : AppendsFront old new (bytes_behind front (replies ++ last ∷ []))

-- Some of the first lines that are told of have replies, and a front of what is told of these was appended; or all of them have, and what
-- stands behind the last one.
pub record PassesFront (talk : Talk) (front : Front) (limit : ℕ) (left old new : Option (List ℕ)) : Type 0 where
  pub input : List ℕ
  pub is : IsInput left input
  pub lines : List InputLine
  pub behind : List InputLine
  pub parts : lines ++ behind ≡ lines_told limit input
  pub replies : List Reply
  pub are : AreReplies talk [] lines replies
  pub appended : AppendsFront old new (bytes_behind front replies) ⊎ PassesEnd talk front limit input lines behind replies old new

abbrev pub PassesBy : Status → Talk → Front → ℕ → Ran → Option (List ℕ) → Option (List ℕ) → Option (List ℕ) → Option (List ℕ) → Type 0
PassesBy s.Done talk front limit ran left left' old new = PassesAll talk front limit ran left old new × IsAtEnd left'
PassesBy s.SomeErrors talk front limit ran left left' old new = PassesAll talk front limit ran left old new × IsAtEnd left'
PassesBy s.InputLong talk front limit ran left left' old new = PassesAll talk front limit ran left old new × TakesPast limit left left'
PassesBy s.ReadFault talk front limit ran left left' old new = PassesTaken talk front limit left left' old new
PassesBy s.WriteFault talk front limit ran left left' old new = PassesFront talk front limit left old new
PassesBy s.NoMemory talk front limit ran left left' old new = PassesFront talk front limit left old new
-- a run over an input has no other end
PassesBy s.Refused talk front limit ran left left' old new = ⊥
PassesBy s.Usage talk front limit ran left left' old new = ⊥
PassesBy s.FileFault talk front limit ran left left' old new = ⊥
PassesBy s.FileAbsent talk front limit ran left left' old new = ⊥
PassesBy s.FileLong talk front limit ran left left' old new = ⊥

abbrev pub Passes : Talk → Front → ℕ → Ran → Option (List ℕ) → Option (List ℕ) → Option (List ℕ) → Option (List ℕ) → Type 0
Passes talk front limit ran = PassesBy ran.status talk front limit ran
