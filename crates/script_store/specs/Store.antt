-- What a store of scripts has, and what each call makes of it.
use Rattle.std.specs.Prelude.{ℕ, List, [], ◌∷◌, map, Option, Some, None, Result, IsOk, IsOkAnd, string_bytes}
use Rattle.std.specs.declared.string.String.{String}
use Rattle.std.specs.declared.cmp.Ordering.{Ordering}
use Rattle.std.specs.Ordering.{nat_cmp}
use Rattle.std.specs.Cmp.Lexicographic.{slice_cmp}
use Rattle.std.specs.Map.{lookup, remove_entry}
use Rattle.std.specs.BTreeMap.{insert_entry, is_at}
use Rattle.pl_types.specs.declared.refusal.Refusal.{Refusal}
use Rattle.script_store.specs.declared.stored.Stored.{Stored}
use Rattle.script_store.specs.Script.{Script, script_of}
use Rattle.script_store.specs.Cache.{Cache, empty, fault_in, look_up}

-- The scripts that are stored, each with its id, in the order of their ids.
abbrev pub StoredScripts : Type 0
StoredScripts = List (List ℕ × Script)

-- What is stored, and the cache.
pub record State : Type 0 where
  pub stored : StoredScripts
  pub cache : Cache

-- Nothing is stored, and the cache is empty.
abbrev pub opened : ℕ → ℕ → State
opened room calls = record { stored = []; cache = empty room calls }

-- The order of ids: that of their bytes.
abbrev pub id_order : List ℕ → List ℕ → Ordering
id_order = slice_cmp nat_cmp

-- The script under an id.
abbrev pub script_under : List ℕ → StoredScripts → Option Script
script_under id stored = lookup (is_at (id_order id)) stored

-- With a script under an id, in the place of an older one.
abbrev pub with_script : List ℕ → Script → StoredScripts → StoredScripts
with_script id script stored = insert_entry id_order stored id script

-- Without what is under an id.
abbrev pub without_script : List ℕ → StoredScripts → StoredScripts
without_script id stored = remove_entry (is_at (id_order id)) stored

-- With a script under an id, unless it was refused.
abbrev pub with_accepted : Option Refusal → List ℕ → Script → StoredScripts → StoredScripts
with_accepted None id script stored = with_script id script stored
with_accepted (Some fault) id script stored = stored

-- A script is put under an id: its key is looked up, and it is stored unless it is refused. Compiling it comes to the reading.
abbrev pub after_put : {M : Type 0} → Result M Refusal → List ℕ → Script → State → State
after_put reading id script state = record {
  stored = with_accepted (fault_in reading script state.cache) id script state.stored;
  cache = look_up reading script state.cache;
}

-- What is under an id is taken out. The cache keeps what that was compiled to.
abbrev pub after_delete : List ℕ → State → State
after_delete id state = record state { stored = without_script id state.stored }

-- The script that is looked up is looked up in the cache. Where there is none, nothing is.
abbrev pub after_look : {M : Type 0} → (Script → Result M Refusal) → Option Script → State → State
after_look compiled None state = state
after_look compiled (Some script) state = record state { cache = look_up (compiled script) script state.cache }

-- The script under an id is asked for: its key is looked up.
abbrev pub after_script : {M : Type 0} → (Script → Result M Refusal) → List ℕ → State → State
after_script compiled id state = after_look compiled (script_under id state.stored) state

-- A compiler and its store.
pub record Store (C : Type 0) : Type 0 where
  pub compiler : C
  pub state : State

abbrev pub store : {C : Type 0} → C → State → Store C
store compiler state = record { compiler = compiler; state = state }

-- The scripts of a map.
abbrev pub stored_of : {Z : Type 0} → List (String Z × Stored) → StoredScripts
stored_of entries = map (λ e. (string_bytes e.0, script_of e.1)) entries

-- Each script that is stored is accepted.
abbrev pub AllAccepted : {M : Type 0} → (Script → Result M Refusal) → StoredScripts → Type 0
AllAccepted compiled [] = Unit {0}
AllAccepted compiled (e ∷ es) = IsOk (compiled e.1) × AllAccepted compiled es

-- What is given for the script that is found: nothing where there is none, and else what means what that is compiled to.
abbrev pub IsGiven : {Out Meaning : Type 0} → (Out → Meaning → Type 0) → (Script → Result Meaning Refusal) → Option Script → Option Out → Type 0
IsGiven means compiled None None = Unit {0}
IsGiven means compiled None (Some out) = ⊥
IsGiven means compiled (Some script) None = ⊥
IsGiven means compiled (Some script) (Some out) = IsOkAnd (compiled script) (means out)
