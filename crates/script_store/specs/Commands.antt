-- Commands that a store takes one after another, and what each is answered: with the cache, and with each script compiled anew.
use Rattle.std.specs.Prelude.{◌≡◌, ◌≤◌, ◌<◌, ℕ, Bool, true, false, List, [], ◌∷◌, length, filter, Option, Some, None, Result, Ok, Err}
use Rattle.std.specs.Result.{result_err}
use Rattle.pl_types.specs.declared.refusal.Refusal.{Refusal}
use Rattle.script_store.specs.Script.{Script}
use Rattle.script_store.specs.Cache.{StandOnce, fault_in}
use Rattle.script_store.specs.Store.{StoredScripts, State, opened, script_under, with_accepted, without_script, after_put, after_delete, after_script}

-- A command: to store a script under an id, to show what is there, to take it out, to run it, and to tell the counts.
pub data Command : Type 0 where
  Put : List ℕ → Script → Command
  Get : List ℕ → Command
  Delete : List ℕ → Command
  Run : List ℕ → Command
  Stats : Command

-- An answer. A run is answered by the meaning of the script that it is given.
pub data Answer (M : Type 0) : Type 0 where
  Done : Answer M
  Refuses : Refusal → Answer M
  Shows : Script → Answer M
  Gives : M → Answer M
  Missing : Answer M
  Counts : ℕ → ℕ → ℕ → Answer M

module _ {M : Type 0} where
  -- The answer to a command that stores: a script that was not refused is stored.
  abbrev pub put_answer : Option Refusal → Answer M
  put_answer None = Done
  put_answer (Some fault) = Refuses fault

  -- The answer to a command that shows what is under an id.
  abbrev pub get_answer : Option Script → Answer M
  get_answer None = Missing
  get_answer (Some script) = Shows script

  -- The answer to a command that takes out what is under an id.
  abbrev pub delete_answer : Option Script → Answer M
  delete_answer None = Missing
  delete_answer (Some script) = Done

  -- The meaning of a script that is given.
  abbrev pub given : Result M Refusal → Answer M
  given (Ok meaning) = Gives meaning
  given (Err fault) = Refuses fault

  -- Whether an answer is another than the counts.
  abbrev pub is_reply : Answer M → Bool
  is_reply (Counts hits misses stored) = false
  is_reply _ = true

module _ {M : Type 0} (compiled : Script → Result M Refusal) where
  -- The answer to a command that runs what is under an id.
  abbrev pub run_answer : Option Script → Answer M
  run_answer None = Missing
  run_answer (Some script) = given (compiled script)

  -- The store behind a command.
  abbrev pub after : Command → State → State
  after (Put id script) state = after_put (compiled script) id script state
  after (Get id) state = state
  after (Delete id) state = after_delete id state
  after (Run id) state = after_script compiled id state
  after Stats state = state

  -- The answer to a command.
  abbrev pub answer : Command → State → Answer M
  answer (Put id script) state = put_answer (fault_in (compiled script) script state.cache)
  answer (Get id) state = get_answer (script_under id state.stored)
  answer (Delete id) state = delete_answer (script_under id state.stored)
  answer (Run id) state = run_answer (script_under id state.stored)
  answer Stats state = Counts state.cache.hits state.cache.misses (length state.stored)

  -- The answers to commands one after another, and the store behind them.
  abbrev pub answers : List Command → State → List (Answer M)
  answers [] state = []
  answers (c ∷ cs) state = answer c state ∷ answers cs (after c state)

  abbrev pub after_all : List Command → State → State
  after_all [] state = state
  after_all (c ∷ cs) state = after_all cs (after c state)

  -- With no cache, each script is compiled anew, where it is put and where it is run. The counts are not told.
  abbrev pub stored_after : Command → StoredScripts → StoredScripts
  stored_after (Put id script) stored = with_accepted (result_err (compiled script)) id script stored
  stored_after (Get id) stored = stored
  stored_after (Delete id) stored = without_script id stored
  stored_after (Run id) stored = stored
  stored_after Stats stored = stored

  abbrev pub replies : List Command → StoredScripts → List (Answer M)
  replies [] stored = []
  replies (Put id script ∷ cs) stored = put_answer (result_err (compiled script)) ∷ replies cs (stored_after (Put id script) stored)
  replies (Get id ∷ cs) stored = get_answer (script_under id stored) ∷ replies cs stored
  replies (Delete id ∷ cs) stored = delete_answer (script_under id stored) ∷ replies cs (stored_after (Delete id) stored)
  replies (Run id ∷ cs) stored = run_answer (script_under id stored) ∷ replies cs stored
  replies (Stats ∷ cs) stored = replies cs stored

  -- No answer but the counts tells that there is a cache.
  abbrev pub CacheIsUnseen : Type 0
  CacheIsUnseen = (room calls : ℕ) (commands : List Command) → filter is_reply (answers commands (opened room calls)) ≡ replies commands []

  -- Behind any commands no key of the cache stands twice, and there are no more than there is room for.
  abbrev pub KeysFit : Type 0
  KeysFit =
      (room calls : ℕ) (commands : List Command) → 0 < room
      → let keys = (after_all commands (opened room calls)).cache.keys in StandOnce keys × (length keys ≤ room)
