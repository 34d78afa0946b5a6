-- What a cache of compiled scripts has, and what a look-up makes of it.
use Rattle.std.specs.Prelude.{◌≡◌, ℕ, ◌-◌, Bool, false, if◌then◌else◌, List, [], ◌∷◌, take, map, Option, Some, None, Result, Ok, Err, IsOkAnd}
use Rattle.std.specs.Result.{result_err}
use Rattle.std.specs.List.{list_any}
use Rattle.lru.specs.LruCache.{LruCache}
use Rattle.pl_types.specs.declared.refusal.Refusal.{Refusal}
use Rattle.script_store.specs.declared.stored.Stored.{Stored}
use Rattle.script_store.specs.Script.{Script, script_of, same_script}
use Rattle.script_store.specs.Compiling.{counted}

-- The keys of the compiled scripts, the most recently used first, how many there may be, how often a look-up found its key and how
-- often not, and how often the compiler was called.
pub record Cache : Type 0 where
  pub keys : List Script
  pub room : ℕ
  pub hits : ℕ
  pub misses : ℕ
  pub calls : ℕ

-- A cache with room for so many keys, and with none.
abbrev pub empty : ℕ → ℕ → Cache
empty room calls = record { keys = []; room = room; hits = 0; misses = 0; calls = calls }

abbrev pub has_key : Script → List Script → Bool
has_key key keys = list_any (same_script key) keys

-- The other keys.
abbrev pub without : Script → List Script → List Script
without key [] = []
without key (k ∷ ks) = if same_script key k then ks else k ∷ without key ks

-- A key that is there comes to the front. Nothing is compiled.
abbrev pub hit : Script → Cache → Cache
hit key cache = record cache { keys = key ∷ without key cache.keys; hits = counted cache.hits }

-- A key that is not there is put in front, and the last key goes where the list was full.
abbrev pub miss : Script → Cache → Cache
miss key cache = record cache {
  keys = key ∷ take (cache.room - 1) cache.keys;
  misses = counted cache.misses;
  calls = counted cache.calls;
}

-- A script that is refused leaves the keys as they were.
abbrev pub refusal : Cache → Cache
refusal cache = record cache { misses = counted cache.misses; calls = counted cache.calls }

-- The cache behind the compiler's answer for a key that was not there.
abbrev pub compiled_miss : {M : Type 0} → Result M Refusal → Script → Cache → Cache
compiled_miss (Ok meaning) key cache = miss key cache
compiled_miss (Err fault) key cache = refusal cache

-- The cache behind a look-up, where compiling the key comes to this reading.
abbrev pub look_up : {M : Type 0} → Result M Refusal → Script → Cache → Cache
look_up reading key cache = if has_key key cache.keys then hit key cache else compiled_miss reading key cache

-- Why a look-up refuses its key. A key that is there is not compiled, so that it cannot be refused.
abbrev pub fault_in : {M : Type 0} → Result M Refusal → Script → Cache → Option Refusal
fault_in reading key cache = if has_key key cache.keys then None else result_err reading

-- Whether the script that is found, if there is one, lies compiled in the cache.
abbrev pub is_ready : Option Script → Cache → Bool
is_ready None cache = false
is_ready (Some script) cache = has_key script cache.keys

-- No key stands twice.
abbrev pub StandOnce : List Script → Type 0
StandOnce [] = Unit {0}
StandOnce (k ∷ ks) = (has_key k ks ≡ false) × StandOnce ks

-- The keys of compiled scripts.
abbrev pub keys_of : {Out : Type 0} → List (Stored × Out) → List Script
keys_of entries = map (λ e. script_of e.0) entries

-- What a cache of compiled scripts has, with these counts.
abbrev pub cache_of : {Out : Type 0} → LruCache Stored Out → ℕ → ℕ → ℕ → Cache
cache_of scripts hits misses calls = record { keys = keys_of scripts.entries; room = scripts.cap; hits = hits; misses = misses; calls = calls }

-- Each compiled script means what its key is compiled to.
abbrev pub AllMean : {Out Meaning : Type 0} → (Out → Meaning → Type 0) → (Script → Result Meaning Refusal) → List (Stored × Out) → Type 0
AllMean means compiled [] = Unit {0}
AllMean means compiled (e ∷ es) = IsOkAnd (compiled (script_of e.0)) (means e.1) × AllMean means compiled es

-- A compiler and its cache.
pub record Cached (C : Type 0) : Type 0 where
  pub compiler : C
  pub cache : Cache

abbrev pub cached : {C : Type 0} → C → Cache → Cached C
cached compiler cache = record { compiler = compiler; cache = cache }
