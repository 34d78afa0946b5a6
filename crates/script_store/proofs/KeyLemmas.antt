-- What a look-up in the cache leaves.
use Rattle.std.proofs.Common.{Bor, ℕ, zero, suc, ◌≡◌, ◌-◌, Bool, true, false, cond, ◌||◌, List, [], ◌∷◌, take, is_some, Option, Some, None, IfSome, option_copied, Result, Ok, Err, IsOk, IsOkAnd, inl, inr, refl, sym, ap, ◌∙◌, subst, true≢false}
use Rattle.std.specs.Option.{option_map_or}
use Rattle.std.specs.Result.{result_err}
use Rattle.std.specs.Map.{lookup, lookup_entry, remove_entry}
use Rattle.std.proofs.lemmas.List.{take-map}
use Rattle.std.proofs.lemmas.Bool.{cases_Bool}
use Rattle.lru.specs.LruCache.{LruCache, lru_cache, promoted, put_entries}
use Rattle.pl_types.specs.declared.refusal.Refusal.{Refusal}
use Rattle.pl_types.specs.declared.refusal.Fail.{Fail}
use Rattle.pl_types.specs.declared.refusal.Fail.TheVariants.{Refused, NoMemory}
use Rattle.script_store.specs.declared.stored.Stored.{Stored}
use Rattle.script_store.specs.Script.{Script, script_of, same_script}
use Rattle.script_store.specs.Compiling.{Compiles, Accepts, Faults, WithMemory, counted}
use Rattle.script_store.specs.Cache.{Cache, has_key, without, hit, miss, compiled_miss, look_up, fault_in, keys_of, cache_of, AllMean}
use Rattle.script_store.proofs.SameScripts.{one_script, same_script-itself}

chosen : {A : Type 0} (b : Bool) (x y : A) → b ≡ true → cond b x y ≡ x
chosen b x y h = ap (λ t. cond t x y) h

passed : {A : Type 0} (b : Bool) (x y : A) → b ≡ false → cond b x y ≡ y
passed b x y h = ap (λ t. cond t x y) h

some_copied : {V : Type 0} (o : Option (Bor V)) → is_some o ≡ is_some (option_copied o)
some_copied None = refl
some_copied (Some b) = refl

-- ---- the keys of the entries. The test passes where a key is this one

module _ {V : Type 0} (test : Stored → Bool) (key : Script) (is : (j : Stored) → test j ≡ same_script key (script_of j)) where
  pub there : (es : List (Stored × V)) → is_some (lookup test es) ≡ has_key key (keys_of es)
  there [] = refl
  there (e ∷ es) =
      ap (λ t. is_some (cond t (Some e.1) (lookup test es))) (is e.0)
      ∙ elim (same_script key (script_of e.0)) as (λ b. is_some (cond b (Some e.1) (lookup test es)) ≡ (b || has_key key (keys_of es))) [ true ↦ refl | false ↦ there es ]

  pub has_so : (es : List (Stored × V)) (b c : Bool) → b ≡ is_some (lookup test es) → b ≡ c → has_key key (keys_of es) ≡ c
  has_so es b c told so = sym (there es) ∙ sym told ∙ so

  pub peeked_there : (es : List (Stored × V)) (o : Option (Bor V)) → option_copied o ≡ lookup test es → is_some o ≡ has_key key (keys_of es)
  peeked_there es o told = some_copied o ∙ ap (λ (p : Option V). is_some p) told ∙ there es

  pub removed : (es : List (Stored × V)) → keys_of (remove_entry test es) ≡ without key (keys_of es)
  removed [] = refl
  removed (e ∷ es) =
      ap (λ t. keys_of (cond t es (e ∷ remove_entry test es))) (is e.0)
      ∙ elim (same_script key (script_of e.0)) as (λ b. keys_of (cond b es (e ∷ remove_entry test es)) ≡ cond b (keys_of es) (script_of e.0 ∷ without key (keys_of es))) [ true ↦ refl | false ↦ ap (λ l. script_of e.0 ∷ l) (removed es) ]

  pub found : (es : List (Stored × V)) → has_key key (keys_of es) ≡ true → (e : Stored × V) × (lookup_entry test es ≡ Some e) × (script_of e.0 ≡ key)
  found [] h = absurd (true≢false (sym h))
  found (e ∷ es) h = elim (cases_Bool (same_script key (script_of e.0))) [
    | inl in_keys ↦ (e, chosen (test e.0) (Some e) (lookup_entry test es) (is e.0 ∙ in_keys), sym (one_script key (script_of e.0) in_keys))
    | inr not_in ↦
        let more = found es (sym (ap (λ b. b || has_key key (keys_of es)) not_in) ∙ h) in
        (more.0, passed (test e.0) (Some e) (lookup_entry test es) (is e.0 ∙ not_in) ∙ more.1, more.2)
  ]

  pub absent : (es : List (Stored × V)) → has_key key (keys_of es) ≡ false → lookup_entry test es ≡ None
  absent [] h = refl
  absent (e ∷ es) h = elim (cases_Bool (same_script key (script_of e.0))) [
    | inl in_keys ↦ absurd (true≢false (sym (ap (λ b. b || has_key key (keys_of es)) in_keys) ∙ h))
    | inr not_in ↦ passed (test e.0) (Some e) (lookup_entry test es) (is e.0 ∙ not_in) ∙ absent es (sym (ap (λ b. b || has_key key (keys_of es)) not_in) ∙ h)
  ]

  pub keys_promoted : (es : List (Stored × V)) → has_key key (keys_of es) ≡ true → keys_of (promoted test es) ≡ key ∷ without key (keys_of es)
  keys_promoted es h =
      let at = found es h in
      ap (λ (o : Option (Stored × V)). keys_of (option_map_or (λ e. e ∷ remove_entry test es) o es)) at.1
      ∙ ap (λ (k : Script). k ∷ keys_of (remove_entry test es)) at.2
      ∙ ap (λ (l : List Script). key ∷ l) (removed es)

  pub not_promoted : (es : List (Stored × V)) → has_key key (keys_of es) ≡ false → promoted test es ≡ es
  not_promoted es h = ap (λ (o : Option (Stored × V)). option_map_or (λ e. e ∷ remove_entry test es) o es) (absent es h)

  -- behind `promote`, where the key was not there, nothing has changed
  pub mid_same : (old mid : LruCache Stored V) → has_key key (keys_of old.entries) ≡ false → mid ≡ lru_cache (promoted test old.entries) old.cap → mid ≡ old
  mid_same old mid not_in made = made ∙ ap (λ (es : List (Stored × V)). lru_cache es old.cap) (not_promoted old.entries not_in)

keys_taken : {V : Type 0} (n : ℕ) (es : List (Stored × V)) → keys_of (take n es) ≡ take n (keys_of es)
keys_taken {V} n es = sym (take-map (λ (e : Stored × V). script_of e.0) n es)

pub keys_put : {V : Type 0} (eq : Stored → Stored → Bool) (k : Stored) (key : Script) (is : (j : Stored) → eq k j ≡ same_script key (script_of j)) (c : LruCache Stored V) (v : V)
    → script_of k ≡ key → has_key key (keys_of c.entries) ≡ false → keys_of (put_entries eq c k v) ≡ key ∷ take (c.cap - 1) (keys_of c.entries)
keys_put {V} eq k key is c v same not_in =
    ap (λ (o : Option (Stored × V)). keys_of (option_map_or (λ e. (e.0, v) ∷ remove_entry (eq k) c.entries) o ((k, v) ∷ take (c.cap - 1) c.entries))) (absent (eq k) key is c.entries not_in)
    ∙ ap (λ (l : List Script). script_of k ∷ l) (keys_taken (c.cap - 1) c.entries)
    ∙ ap (λ (j : Script). j ∷ take (c.cap - 1) (keys_of c.entries)) same

-- ---- each compiled script means what its key is compiled to

module _ {V M : Type 0} (means : V → M → Type 0) (compiled : Script → Result M Refusal) where
  abbrev MeansAt : Script → V → Type 0
  MeansAt k v = IsOkAnd (compiled k) (means v)

  pub mean_removed : (test : Stored → Bool) (es : List (Stored × V)) → AllMean means compiled es → AllMean means compiled (remove_entry test es)
  mean_removed test [] all = tt
  mean_removed test (e ∷ es) all = elim (test e.0) as (λ b. AllMean means compiled (cond b es (e ∷ remove_entry test es))) [ true ↦ all.1 | false ↦ (all.0, mean_removed test es all.1) ]

  mean_entry : (test : Stored → Bool) (es : List (Stored × V)) → AllMean means compiled es → IfSome (lookup_entry test es) (λ e. MeansAt (script_of e.0) e.1)
  mean_entry test [] all = tt
  mean_entry test (e ∷ es) all = elim (test e.0) as (λ b. IfSome (cond b (Some e) (lookup_entry test es)) (λ e'. MeansAt (script_of e'.0) e'.1)) [ true ↦ all.0 | false ↦ mean_entry test es all.1 ]

  mean_front : (test : Stored → Bool) (es : List (Stored × V)) → AllMean means compiled es → (o : Option (Stored × V)) → IfSome o (λ e. MeansAt (script_of e.0) e.1) → AllMean means compiled (option_map_or (λ e. e ∷ remove_entry test es) o es)
  mean_front test es all None h = all
  mean_front test es all (Some e) h = (h, mean_removed test es all)

  pub mean_promoted : (test : Stored → Bool) (es : List (Stored × V)) → AllMean means compiled es → AllMean means compiled (promoted test es)
  mean_promoted test es all = mean_front test es all (lookup_entry test es) (mean_entry test es all)

  mean_taken : (n : ℕ) (es : List (Stored × V)) → AllMean means compiled es → AllMean means compiled (take n es)
  mean_taken zero es all = tt
  mean_taken (suc n) [] all = tt
  mean_taken (suc n) (e ∷ es) all = (all.0, mean_taken n es all.1)

  pub mean_put : (eq : Stored → Stored → Bool) (k : Stored) (key : Script) → ((j : Stored) → eq k j ≡ same_script key (script_of j)) → (c : LruCache Stored V) (v : V)
      → script_of k ≡ key → has_key key (keys_of c.entries) ≡ false → MeansAt key v → AllMean means compiled c.entries → AllMean means compiled (put_entries eq c k v)
  mean_put eq k key is c v same not_in here all =
      subst (λ (o : Option (Stored × V)). AllMean means compiled (option_map_or (λ e. (e.0, v) ∷ remove_entry (eq k) c.entries) o ((k, v) ∷ take (c.cap - 1) c.entries))) (sym (absent (eq k) key is c.entries not_in))
      (subst (λ (j : Script). MeansAt j v) (sym same) here, mean_taken (c.cap - 1) c.entries all)

  pub mean_mid : (test : Stored → Bool) (old mid : LruCache Stored V) → mid ≡ lru_cache (promoted test old.entries) old.cap → AllMean means compiled old.entries → AllMean means compiled mid.entries
  mean_mid test old mid made all = subst (λ (c : LruCache Stored V). AllMean means compiled c.entries) (sym made) (mean_promoted test old.entries all)

  pub mean_same : (mid new : LruCache Stored V) → new ≡ mid → AllMean means compiled mid.entries → AllMean means compiled new.entries
  mean_same mid new same all = subst (λ (c : LruCache Stored V). AllMean means compiled c.entries) (sym same) all

  pub mean_new : (test : Stored → Bool) (eq : Stored → Stored → Bool) (k : Stored) (key : Script) → ((j : Stored) → test j ≡ same_script key (script_of j)) → ((j : Stored) → eq k j ≡ same_script key (script_of j))
      → (old mid new : LruCache Stored V) (v : V) → has_key key (keys_of old.entries) ≡ false → mid ≡ lru_cache (promoted test old.entries) old.cap → new ≡ lru_cache (put_entries eq mid k v) mid.cap
      → script_of k ≡ key → MeansAt key v → AllMean means compiled old.entries → AllMean means compiled new.entries
  mean_new test eq k key is alike old mid new v not_in made put same here all =
      mean_same (lru_cache (put_entries eq old k v) old.cap) new (put ∙ ap (λ (m : LruCache Stored V). lru_cache (put_entries eq m k v) m.cap) (mid_same test key is old mid not_in made))
      (mean_put eq k key alike old v same not_in here all)

  -- what is found under a key means what the key is compiled to
  pub mean_at : (test : Stored → Bool) (key : Script) → ((j : Stored) → test j ≡ same_script key (script_of j)) → (es : List (Stored × V)) → AllMean means compiled es → IfSome (lookup test es) (MeansAt key)
  mean_at test key is [] all = tt
  mean_at test key is (e ∷ es) all = elim (cases_Bool (same_script key (script_of e.0))) [
    | inl in_keys ↦
        subst (λ (o : Option V). IfSome o (MeansAt key)) (sym (chosen (test e.0) (Some e.1) (lookup test es) (is e.0 ∙ in_keys)))
        (subst (λ (k : Script). MeansAt k e.1) (sym (one_script key (script_of e.0) in_keys)) all.0)
    | inr not_in ↦ subst (λ (o : Option V). IfSome o (MeansAt key)) (sym (passed (test e.0) (Some e.1) (lookup test es) (is e.0 ∙ not_in))) (mean_at test key is es all.1)
  ]

  pub mean_peeked : (key : Script) (o : Option (Bor V)) (p : Option V) → option_copied o ≡ p → IfSome p (MeansAt key) → IfSome o (λ b. MeansAt key b.now)
  mean_peeked key None p same h = tt
  mean_peeked key (Some b) p same h = subst (λ (q : Option V). IfSome q (MeansAt key)) (sym same) h

  ok_of : (r : Result M Refusal) (P : M → Type 0) → IsOkAnd r P → IsOk r
  ok_of (Ok m) P h = refl
  ok_of (Err fault) P h = absurd h

  -- a key that is there is accepted
  pub there_is_ok : (key : Script) (es : List (Stored × V)) → AllMean means compiled es → has_key key (keys_of es) ≡ true → IsOk (compiled key)
  there_is_ok key [] all h = absurd (true≢false (sym h))
  there_is_ok key (e ∷ es) all h = elim (cases_Bool (same_script key (script_of e.0))) [
    | inl in_keys ↦ subst (λ (k : Script). IsOk (compiled k)) (sym (one_script key (script_of e.0) in_keys)) (ok_of (compiled (script_of e.0)) (means e.1) all.0)
    | inr not_in ↦ there_is_ok key es all.1 (sym (ap (λ b. b || has_key key (keys_of es)) not_in) ∙ h)
  ]

  pub kept_mean : (compiled' : Script → Result M Refusal) (es : List (Stored × V)) → compiled' ≡ compiled → AllMean means compiled es → AllMean means compiled' es
  kept_mean compiled' es same all = subst (λ (f : Script → Result M Refusal). AllMean means f es) (sym same) all

-- ---- the cache behind a look-up

module _ {M : Type 0} (reading : Result M Refusal) (key : Script) where
  pub ok_miss : (P : M → Type 0) (cache : Cache) → (r : Result M Refusal) → IsOkAnd r P → compiled_miss r key cache ≡ miss key cache
  ok_miss P cache (Ok m) h = refl
  ok_miss P cache (Err fault) h = absurd h

  pub no_fault : (cache : Cache) → has_key key cache.keys ≡ true → fault_in reading key cache ≡ None
  no_fault cache in_keys = chosen (has_key key cache.keys) None (result_err reading) in_keys

  module _ {V : Type 0} (test : Stored → Bool) (is : (j : Stored) → test j ≡ same_script key (script_of j)) (old : LruCache Stored V) (hits misses calls : ℕ) where
    pub next_hit : (new : LruCache Stored V) (hits' : ℕ) → has_key key (keys_of old.entries) ≡ true → new ≡ lru_cache (promoted test old.entries) old.cap → hits' ≡ counted hits
        → cache_of new hits' misses calls ≡ look_up reading key (cache_of old hits misses calls)
    next_hit new hits' in_keys made more =
        ap (λ (n : LruCache Stored V). cache_of n hits' misses calls) made
        ∙ ap (λ (l : List Script). record { keys = l; room = old.cap; hits = hits'; misses = misses; calls = calls }) (keys_promoted test key is old.entries in_keys)
        ∙ ap (λ (h : ℕ). record { keys = key ∷ without key (keys_of old.entries); room = old.cap; hits = h; misses = misses; calls = calls }) more
        ∙ sym (chosen (has_key key (keys_of old.entries)) (hit key (cache_of old hits misses calls)) (compiled_miss reading key (cache_of old hits misses calls)) in_keys)

    pub next_miss : (eq : Stored → Stored → Bool) (k : Stored) → ((j : Stored) → eq k j ≡ same_script key (script_of j)) → (mid new : LruCache Stored V) (v : V) (misses' calls' : ℕ) (P : M → Type 0)
        → has_key key (keys_of old.entries) ≡ false → mid ≡ lru_cache (promoted test old.entries) old.cap → new ≡ lru_cache (put_entries eq mid k v) mid.cap → script_of k ≡ key
        → misses' ≡ counted misses → calls' ≡ counted calls → IsOkAnd reading P
        → cache_of new hits misses' calls' ≡ look_up reading key (cache_of old hits misses calls)
    next_miss eq k alike mid new v misses' calls' P not_in made put same more called ok =
        let still : mid ≡ old = mid_same test key is old mid not_in made in
        ap (λ (n : LruCache Stored V). cache_of n hits misses' calls') (put ∙ ap (λ (m : LruCache Stored V). lru_cache (put_entries eq m k v) m.cap) still)
        ∙ ap (λ (l : List Script). record { keys = l; room = old.cap; hits = hits; misses = misses'; calls = calls' }) (keys_put eq k key alike old v same not_in)
        ∙ ap (λ (n : ℕ). record { keys = key ∷ take (old.cap - 1) (keys_of old.entries); room = old.cap; hits = hits; misses = n; calls = calls' }) more
        ∙ ap (λ (n : ℕ). record { keys = key ∷ take (old.cap - 1) (keys_of old.entries); room = old.cap; hits = hits; misses = counted misses; calls = n }) called
        ∙ sym (passed (has_key key (keys_of old.entries)) (hit key (cache_of old hits misses calls)) (compiled_miss reading key (cache_of old hits misses calls)) not_in ∙ ok_miss P (cache_of old hits misses calls) reading ok)

    pub next_refused : {O : Type 0} (means : O → M → Type 0) (mid : LruCache Stored V) (misses' calls' : ℕ) (fail : Fail)
        → has_key key (keys_of old.entries) ≡ false → mid ≡ lru_cache (promoted test old.entries) old.cap → misses' ≡ counted misses → calls' ≡ counted calls
        → Compiles means reading (Err fail)
        → WithMemory {T = Unit {0}} (Err fail) (cache_of mid hits misses' calls' ≡ look_up reading key (cache_of old hits misses calls))
    next_refused means mid misses' calls' (Refused fault) not_in made more called says =
        ap (λ (n : LruCache Stored V). cache_of n hits misses' calls') (mid_same test key is old mid not_in made)
        ∙ ap (λ (n : ℕ). cache_of old hits n calls') more
        ∙ ap (λ (n : ℕ). cache_of old hits (counted misses) n) called
        ∙ sym (passed (has_key key (keys_of old.entries)) (hit key (cache_of old hits misses calls)) (compiled_miss reading key (cache_of old hits misses calls)) not_in
        ∙ ap (λ (r : Result M Refusal). compiled_miss r key (cache_of old hits misses calls)) says)
    next_refused means mid misses' calls' NoMemory not_in made more called says = tt

  pub fault_refused : {O : Type 0} (means : O → M → Type 0) (cache : Cache) (fail : Fail) → has_key key cache.keys ≡ false → Compiles means reading (Err fail) → Faults {T = Unit {0}} (fault_in reading key cache) (Err fail)
  fault_refused means cache (Refused fault) not_in says = passed (has_key key cache.keys) None (result_err reading) not_in ∙ ap (λ (r : Result M Refusal). result_err r) says
  fault_refused means cache NoMemory not_in says = tt

pub accepts_refused : {O M : Type 0} (means : O → M → Type 0) (reading : Result M Refusal) (fail : Fail) → Compiles means reading (Err fail) → Accepts {T = Unit {0}} reading (Err fail)
accepts_refused means reading (Refused fault) says = says
accepts_refused means reading NoMemory says = tt

-- ---- a key that was looked up is there

module _ {M : Type 0} (key : Script) (cache : Cache) where
  ready_miss : (r : Result M Refusal) → IsOk r → has_key key (compiled_miss r key cache).keys ≡ true
  ready_miss (Ok m) h = ap (λ b. b || has_key key (take (cache.room - 1) cache.keys)) (same_script-itself key)
  ready_miss (Err fault) h = absurd (true≢false (sym h))

  pub ready_after : (reading : Result M Refusal) → IsOk reading → has_key key (look_up reading key cache).keys ≡ true
  ready_after reading ok = elim (has_key key cache.keys) as (λ b. has_key key (cond b (hit key cache) (compiled_miss reading key cache)).keys ≡ true) [
    | true ↦ ap (λ b. b || has_key key (without key cache.keys)) (same_script-itself key)
    | false ↦ ready_miss reading ok
  ]
