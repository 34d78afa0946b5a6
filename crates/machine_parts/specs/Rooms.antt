-- What memory is taken at the start of a run.
use Rattle.std.specs.Prelude.{◌≡◌, ◌≤◌, ◌<◌, ◌+◌, ◌*◌, ◌==◌, ℕ, suc, Bool, true, List, length, nat_lt}
use Rattle.std.specs.List.{IsDistinct, list_all, list_any}
use Rattle.allowlist.specs.Index.{member_in}
use Rattle.object_values.specs.declared.object.Owner.{Owner}
use Rattle.object_values.specs.declared.value.Value.{Value}
use Rattle.code_meaning.specs.declared.word.Word.{Word}
use Rattle.code_meaning.specs.Members.{count_of}
use Rattle.machine_parts.specs.Code.{Executable, text_of}

-- the words that a call takes, the top first, and how many there is memory for
pub record TakenWords : Type 0 where
  pub items : List Word
  pub room : ℕ

-- what a member is called with, and for how many values there is memory
pub record Arguments : Type 0 where
  pub items : List Value
  pub room : ℕ

-- the members that were called, in the order of their first calls, and for how many there is memory
pub record Called : Type 0 where
  pub numbers : List ℕ
  pub room : ℕ

abbrev pub is_among : ℕ → List ℕ → Bool
is_among number numbers = list_any (λ n. n == number) numbers

-- members of a list that has so many, each once
pub record AreMembers (most : ℕ) (numbers : List ℕ) : Type 0 where
  pub members : list_all (λ n. nat_lt n most) numbers ≡ true
  pub once : IsDistinct (λ a b. a == b) numbers

-- what there is memory for: words of all frames, frames below the newest one, words and values of a call, and the members of the list
pub record Room : Type 0 where
  pub words : ℕ
  pub frames : ℕ
  pub taken : ℕ
  pub values : ℕ
  pub reached : ℕ

-- For how many words, and for how many frames, memory is taken at the start at most. What goes past it is taken as it comes.
abbrev pub most_at_start : ℕ
most_at_start = 1000000

-- Calls so deep with so many words in each frame are within that: two words more serve an instruction until it takes others off.
pub record FitsAtStart (frame depth : ℕ) : Type 0 where
  pub words : suc depth * frame + 2 ≤ most_at_start
  pub frames : depth ≤ most_at_start

-- neither text's list has more members
pub record MembersWithin (e : Executable) (most : ℕ) : Type 0 where
  pub within : (text : Owner) → length (text_of e text).allow.members ≤ most

-- a call of a member of either list takes no more words
pub record ArgumentsWithin (e : Executable) (most : ℕ) : Type 0 where
  pub within : (text : Owner) (number : ℕ) → number < length (text_of e text).allow.members → count_of (member_in (text_of e text).allow number) ≤ most

-- It is enough for the frames of what is run and for calls so deep: two words more serve an instruction until it takes others off. And it
-- is enough for a call of each member that one of the texts may call.
pub record IsEnough (e : Executable) (depth : ℕ) (room : Room) : Type 0 where
  pub words : suc depth * e.frame + 2 ≤ room.words
  pub frames : depth ≤ room.frames
  pub taken : ArgumentsWithin e room.taken
  pub values : ArgumentsWithin e room.values
