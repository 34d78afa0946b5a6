-- Members that are found for a receiver when the code runs are those of the list, and what comes of a call of one.
use Rattle.std.proofs.Common.{◌≡◌, ℕ, zero, suc, ◌<◌, ◌≤◌, Bool, true, List, [], ◌∷◌, length, Option, Some, None, refl, subst, arith}
use Rattle.allowlist.specs.Allow.{AllowList, flag}
use Rattle.object_heap.specs.declared.answer.Answer.{Answer}
use Rattle.object_heap.specs.declared.answer.Answer.TheVariants as a
use Rattle.object_heap.specs.Effects.{Effect, Answers, Gives, NoRoom}
use Rattle.object_heap.specs.Store.{Store}
use Rattle.object_values.specs.declared.value.Value.{Value}
use Rattle.object_values.specs.declared.value.Value.TheVariants as v
use Rattle.def_access.specs.Answers.{AnswersIfBuilt}
use Rattle.def_access.specs.Access.{Access, Calls, Acts, index_read, index_written, method_called, name_read, name_written}
use Rattle.def_access.specs.Coming as coming
use Rattle.def_access.specs.Laws.{IsConfined}
use Rattle.def_access.specs.declared.accessed.Accessed.{Accessed}
use Rattle.def_access.specs.declared.accessed.Accessed.TheVariants as said
use Rattle.def_access.proofs.Confined.{index_read_confined, index_written_confined, method_called_confined, name_read_confined, name_written_confined}
use Rattle.run_state.specs.World.{World, End, Limited, Limits, Room, not_told, acts_in}
use Rattle.code_meaning.specs.declared.word.Word.{Word}
use Rattle.code_meaning.specs.declared.word.Word.TheVariants.{R}
use Rattle.code_meaning.specs.Machine.{Codes, Config, Ends, Frame, Goes, Next, on_access, on_done, on_found, on_outcome, on_put, on_write}
use Rattle.machine.specs.Rows.{CallsWithin}
use Rattle.machine.specs.Seen.{Comes}
use Rattle.machine.specs.declared.configuration.Configuration.{Configuration}
use Rattle.machine.specs.declared.configuration.Step.{Step}
use Rattle.machine.specs.declared.configuration.Step.TheVariants as step
use Rattle.machine.proofs.Answering.{dropped, dropped_filled, filled, gave}

-- ---- members of the list

flag_within : (flags : List Bool) (number : ℕ) → flag flags number ≡ true → number < length flags
flag_within [] number h = cc
flag_within (b ∷ bs) zero h = omega arith
flag_within (b ∷ bs) (suc number) h = let l = flag_within bs number h in omega (arith, l)

less_than : (a b c : ℕ) → a < b → b ≤ c → a < c
less_than a b c h k = omega (arith, h, k)

called_within : (allow : AllowList) (a : Access) (old new : Store) (number room : ℕ) (values : List Value) → IsConfined allow a → coming.CallsAs a old new number values → length allow.members ≤ room → number < room
called_within allow (Calls found arguments) old new number room values confined calls most =
    less_than number (length allow.members) room (subst (λ n. n < length allow.members) calls.0 (flag_within allow.members found confined.0)) most
called_within allow (Acts effect) old new number room values confined calls most = absurd calls

module _ (allow : AllowList) (a : Access) (old new : Store) (room : ℕ) (confined : IsConfined allow a) (most : length allow.members ≤ room) where
  comes_within : (receiver : Value) (others : List Value) (accessed : Accessed) → coming.Comes a old new receiver others accessed → CallsWithin accessed room
  comes_within receiver others (said.Calls number) comes = called_within allow a old new number room (receiver ∷ others) confined comes most
  comes_within receiver others (said.CallsWith number first) comes = called_within allow a old new number room (receiver ∷ first ∷ others) confined comes most
  comes_within receiver others (said.Acts answer) comes = tt

  comes_on_within : (values : List Value) (accessed : Accessed) → coming.ComesOn a old new values accessed → CallsWithin accessed room
  comes_on_within values (said.Calls number) comes = called_within allow a old new number room values confined comes most
  comes_on_within values (said.CallsWith number first) comes = absurd comes
  comes_on_within values (said.Acts answer) comes = tt

pub index_read_within : (allow : AllowList) (old new : Store) (room : ℕ) (receiver index : Value) (accessed : Accessed) → coming.Comes (index_read allow old receiver index) old new receiver [] accessed → length allow.members ≤ room
    → CallsWithin accessed room
index_read_within allow old new room receiver index accessed comes most =
    comes_within allow (index_read allow old receiver index) old new room (index_read_confined allow old receiver index) most receiver [] accessed comes

pub index_written_within : (allow : AllowList) (old new : Store) (room : ℕ) (receiver index value : Value) (accessed : Accessed) → coming.Comes (index_written allow old receiver index value) old new receiver (value ∷ []) accessed
    → length allow.members ≤ room → CallsWithin accessed room
index_written_within allow old new room receiver index value accessed comes most =
    comes_within allow (index_written allow old receiver index value) old new room (index_written_confined allow old receiver index value) most receiver (value ∷ []) accessed comes

pub name_read_within : (allow : AllowList) (old new : Store) (room : ℕ) (receiver : Value) (name : List ℕ) (accessed : Accessed) → coming.Comes (name_read allow old receiver name) old new receiver [] accessed → length allow.members ≤ room
    → CallsWithin accessed room
name_read_within allow old new room receiver name accessed comes most =
    comes_within allow (name_read allow old receiver name) old new room (name_read_confined allow old receiver name) most receiver [] accessed comes

-- the value that is written may have been cast before
pub name_written_within : (allow : AllowList) (old new : Store) (room : ℕ) (receiver : Value) (name : List ℕ) (value now : Value) (accessed : Accessed) → coming.Comes (name_written allow old receiver name value) old new receiver (now ∷ []) accessed
    → length allow.members ≤ room → CallsWithin accessed room
name_written_within allow old new room receiver name value now accessed comes most =
    comes_within allow (name_written allow old receiver name value) old new room (name_written_confined allow old receiver name value) most receiver (now ∷ []) accessed comes

pub method_called_within : (allow : AllowList) (old new : Store) (room : ℕ) (name : List ℕ) (values now : List Value) (accessed : Accessed) → coming.ComesOn (coming.method_called_on allow old name values) old new now accessed
    → length allow.members ≤ room → CallsWithin accessed room
method_called_within allow old new room name [] now accessed comes most = comes_on_within allow (coming.method_called_on allow old name []) old new room tt most now accessed comes
method_called_within allow old new room name (receiver ∷ arguments) now accessed comes most =
    comes_on_within allow (method_called allow old receiver name arguments) old new room (method_called_confined allow old receiver name arguments) most now accessed comes

-- ---- what comes of a member that is built

pub of_found : (codes : Codes) (limits : Limits) (o : Option Effect) (answer : Answer) (old new : Store) (f : Frame) (below : List Frame) (w : World) (stack : List Word) (said : Step) (c : Configuration)
    → AnswersIfBuilt o old new (Some answer)
    → ((effect : Effect) → Answers effect old new answer → Comes (on_outcome codes limits (acts_in w effect) R f below w stack) said c)
    → Comes (on_found codes limits o f below w stack) said c
of_found codes limits None answer old new f below w stack said c h k = absurd h
of_found codes limits (Some effect) answer old new f below w stack said c h k = k effect h

pub of_put : (codes : Codes) (limits : Limits) (o : Option Effect) (answer : Answer) (old new : Store) (f : Frame) (below : List Frame) (w : World) (stack : List Word) (said : Step) (c : Configuration)
    → AnswersIfBuilt o old new (Some answer)
    → ((effect : Effect) → Answers effect old new answer → Comes (on_done codes limits (acts_in w effect) f below w stack) said c)
    → Comes (on_put codes limits o f below w stack) said c
of_put codes limits None answer old new f below w stack said c h k = absurd h
of_put codes limits (Some effect) answer old new f below w stack said c h k = k effect h

-- ---- what is done at once

-- both ways a step goes on and that it ends: of none but one that found no memory
either_way : (a next : Next) (r : End (Option Word)) (d : Config) (said : Step) (c : Configuration) → next ≡ Ends r → Comes next said c → a ≡ Goes d → Comes a said c → (b : Next) → Comes b said c
either_way a next r d step.Goes c e h is k b = absurd (cc)
either_way a next r d step.Ends c e h is k b = absurd (cc)
either_way a next r d step.Stuck c e h is k b = absurd (cc)
either_way a next r d step.NoMemory c e h is k b = tt

module _ (codes : Codes) (limits : Limits) (f : Frame) (below : List Frame) (w : World) (stack : List Word) (said : Step) (c : Configuration) where
  -- where a member would be called there was no memory
  no_memory : (old : Store) → ((effect : Effect) → Comes (on_outcome codes limits (acts_in w effect) R f below w stack) said c) → (b : Next) → Comes b said c
  no_memory old k b =
      either_way _ _ (Limited Room not_told w) _ said c (filled codes limits R f below w stack NoRoom w refl) (k NoRoom) (gave codes limits R f below w stack (Gives v.Null old) w v.Null old (R v.Null) refl refl) (k (Gives v.Null old)) b

  pub of_acted : (access : Access) (answer : Answer) (old new : Store) → coming.ActsAs access old new answer
      → ((effect : Effect) → Answers effect old new answer → Comes (on_outcome codes limits (acts_in w effect) R f below w stack) said c)
      → Comes (on_access codes limits access f below w stack) said c
  of_acted (Acts effect) answer old new acted k = k effect acted
  of_acted (Calls number arguments) a.NoMemory old new acted k = no_memory old (λ effect. k effect acted) (on_access codes limits (Calls number arguments) f below w stack)
  of_acted (Calls number arguments) (a.Value value) old new acted k = absurd acted
  of_acted (Calls number arguments) (a.Thrown id) old new acted k = absurd acted
  of_acted (Calls number arguments) a.Room old new acted k = absurd acted

  none_written : (old : Store) → ((effect : Effect) → Comes (on_done codes limits (acts_in w effect) f below w stack) said c) → (b : Next) → Comes b said c
  none_written old k b =
      either_way _ _ (Limited Room not_told w) _ said c (dropped_filled codes limits f below w stack NoRoom w refl) (k NoRoom) (dropped codes limits f below w stack (Gives v.Null old) w v.Null old refl) (k (Gives v.Null old)) b

  pub of_written : (access : Access) (answer : Answer) (old new : Store) → coming.ActsAs access old new answer
      → ((effect : Effect) → Answers effect old new answer → Comes (on_done codes limits (acts_in w effect) f below w stack) said c)
      → Comes (on_write codes limits access f below w stack) said c
  of_written (Acts effect) answer old new acted k = k effect acted
  of_written (Calls number arguments) a.NoMemory old new acted k = none_written old (λ effect. k effect acted) (on_write codes limits (Calls number arguments) f below w stack)
  of_written (Calls number arguments) (a.Value value) old new acted k = absurd acted
  of_written (Calls number arguments) (a.Thrown id) old new acted k = absurd acted
  of_written (Calls number arguments) a.Room old new acted k = absurd acted
