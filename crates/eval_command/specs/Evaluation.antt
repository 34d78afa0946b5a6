-- What `eval` is to write, and how it is to end: from what the file holds.
use Rattle.std.specs.Prelude.{◌≡◌, ℕ, ◌≤◌, ◌<◌, List, [], ◌∷◌, Bool, if◌then◌else◌, Option, Some, None, Result, Ok, Err, ◌⊎◌, length, codes}
use Rattle.pl_types.specs.declared.refusal.Refusal.{Refusal}
use Rattle.command_parts.specs.declared.status.Status.{Status}
use Rattle.command_parts.specs.declared.status.Status.TheVariants as s
use Rattle.command_parts.specs.Told.{Told, silent, uncounted, file_limit}
use Rattle.serde_json.specs.Data.{Data}
use Rattle.object_values.specs.declared.value.Value.{Value}
use Rattle.object_heap.specs.declared.outcome.Which.{Which}
use Rattle.object_heap.specs.declared.outcome.Which.TheVariants as which
use Rattle.object_heap.specs.declared.outcome.End.TheVariants as e
use Rattle.run_state.specs.World.{Limit, Loop, Depth, Ticks, Room, End, Result as Gives, Uncaught, Limited}
use Rattle.json_replies.specs.Replies.{is_error, line_of, refusal_of, reply_of}
use Rattle.script_engine.specs.Listing.{written}
use Rattle.script_engine.specs.Codes.{Counts, ScriptCodes}
use Rattle.eval_command.specs.Script.{Means, eval_limits, eval_world}

abbrev pub which_of : Limit → Which
which_of Loop = which.Loop
which_of Depth = which.Depth
which_of Ticks = which.Ticks
which_of Room = which.Room

-- the reply to an end
abbrev pub reply_to : End Value → Data
reply_to (Gives value w) = reply_of (e.Value value) w.store.objects
reply_to (Uncaught id place w) = reply_of (e.Thrown id place) w.store.objects
reply_to (Limited limit place w) = reply_of (e.Limit (which_of limit) place) w.store.objects

abbrev pub status_of : Bool → Status
status_of error = if error then s.SomeErrors else s.Done

-- the listings of codes, in their order
abbrev pub listings_of : ScriptCodes → List (List ℕ)
listings_of codes = written codes.script ∷ written codes.prelude ∷ []

-- what is told of an end behind so many instructions
abbrev pub end_told : ScriptCodes → End Value → ℕ → Told
end_told codes end steps =
    record { status = status_of (is_error (reply_to end)); bytes = line_of (reply_to end); listings = listings_of codes; steps = steps }

-- what is told of what a script comes to: its reply, behind as many instructions of the two codes, or its refusal
abbrev pub TellsEnd : ScriptCodes → Result (End Value) Refusal → Told → Type 0
TellsEnd codes (Ok end) told = (steps : ℕ) × Counts codes eval_limits [] eval_world steps × (told ≡ end_told codes end steps)
TellsEnd codes (Err refusal) told = told ≡ uncounted s.Refused (line_of (refusal_of refusal))

-- what is told of a script's bytes and of its codes
abbrev pub TellsScript : ScriptCodes → List ℕ → Told → Type 0
TellsScript codes script told = (answer : Result (End Value) Refusal) × Means script answer × TellsEnd codes answer told

-- what is told of a script's file, where there is one
abbrev pub TellsFile : ScriptCodes → Option (List ℕ) → Told → Type 0
TellsFile codes None told = told ≡ silent s.FileAbsent
TellsFile codes (Some script) told = ((file_limit < length script) × (told ≡ silent s.FileLong)) ⊎ ((length script ≤ file_limit) × TellsScript codes script told)
