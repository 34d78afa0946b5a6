-- Scripts under ids: the map, and the list of scripts that it is.
use Rattle.std.proofs.Common.{Bor, ℕ, ◌≡◌, true, false, cond, List, [], ◌∷◌, is_some, string_bytes, String, Option, Some, None, IfSome, OnSome, option_map, option_copied, Result, Err, IsOk, IsOkAnd, is_ok, Less, Equal, Greater, is_eq, refl, sym, ap, ◌∙◌, subst, true≢false}
use Rattle.std.specs.Prelude.{string_cmp}
use Rattle.std.specs.Ordering.{match_ordering}
use Rattle.std.specs.Map.{lookup, remove_entry}
use Rattle.std.specs.BTreeMap.{insert_entry, is_at}
use Rattle.pl_types.specs.declared.refusal.Refusal.{Refusal}
use Rattle.pl_types.specs.declared.refusal.Fail.{Fail}
use Rattle.pl_types.specs.declared.refusal.Fail.TheVariants.{Refused, NoMemory}
use Rattle.script_store.specs.declared.stored.Stored.{Stored}
use Rattle.script_store.specs.Compiling.{Accepts}
use Rattle.script_store.specs.Script.{Script, script_of}
use Rattle.script_store.specs.Cache.{Cache}
use Rattle.script_store.specs.Store.{StoredScripts, State, AllAccepted, IsGiven, stored_of, id_order, script_under, with_script, without_script, with_accepted}

module _ {Z : Type 0} where
  pub stored_found : (id : List ℕ) (es : List (String Z × Stored)) → option_map script_of (lookup (is_at (λ k. id_order id (string_bytes k))) es) ≡ script_under id (stored_of es)
  stored_found id [] = refl
  stored_found id (e ∷ es) =
      elim (is_eq (id_order id (string_bytes e.0))) as (λ b. option_map script_of (cond b (Some e.1) (lookup (is_at (λ k. id_order id (string_bytes k))) es)) ≡ cond b (Some (script_of e.1)) (script_under id (stored_of es))) [
        | true ↦ refl
        | false ↦ stored_found id es
      ]

  pub stored_inserted : (k : String Z) (v : Stored) (es : List (String Z × Stored)) → stored_of (insert_entry string_cmp es k v) ≡ with_script (string_bytes k) (script_of v) (stored_of es)
  stored_inserted k v [] = refl
  stored_inserted k v (e ∷ es) =
      elim (id_order (string_bytes k) (string_bytes e.0)) as (λ o. stored_of (match_ordering o ((k, v) ∷ e ∷ es) ((e.0, v) ∷ es) (e ∷ insert_entry string_cmp es k v))
      ≡ match_ordering o ((string_bytes k, script_of v) ∷ (string_bytes e.0, script_of e.1) ∷ stored_of es) ((string_bytes e.0, script_of v) ∷ stored_of es) ((string_bytes e.0, script_of e.1) ∷ with_script (string_bytes k) (script_of v) (stored_of es))) [
        | Less ↦ refl
        | Equal ↦ refl
        | Greater ↦ ap (λ (l : StoredScripts). (string_bytes e.0, script_of e.1) ∷ l) (stored_inserted k v es)
      ]

  pub stored_removed : (id : List ℕ) (es : List (String Z × Stored)) → stored_of (remove_entry (is_at (λ k. id_order id (string_bytes k))) es) ≡ without_script id (stored_of es)
  stored_removed id [] = refl
  stored_removed id (e ∷ es) =
      elim (is_eq (id_order id (string_bytes e.0))) as (λ b. stored_of (cond b es (e ∷ remove_entry (is_at (λ k. id_order id (string_bytes k))) es)) ≡ cond b (stored_of es) ((string_bytes e.0, script_of e.1) ∷ without_script id (stored_of es))) [
        | true ↦ refl
        | false ↦ ap (λ (l : StoredScripts). (string_bytes e.0, script_of e.1) ∷ l) (stored_removed id es)
      ]

some_mapped : (o : Option Stored) → is_some (option_map script_of o) ≡ is_some o
some_mapped None = refl
some_mapped (Some stored) = refl

module _ {Z : Type 0} (id : List ℕ) (es : List (String Z × Stored)) where
  -- what the map answers for an id
  abbrev asked : Option Stored
  asked = lookup (is_at (λ k. id_order id (string_bytes k))) es

  pub stored_found-some : is_some asked ≡ is_some (script_under id (stored_of es))
  stored_found-some = sym (some_mapped asked) ∙ ap (λ (o : Option Script). is_some o) (stored_found id es)

  pub stored_absent : None ≡ asked → script_under id (stored_of es) ≡ None
  stored_absent none = sym (stored_found id es) ∙ ap (λ (o : Option Stored). option_map script_of o) (sym none)

  pub stored_present : (s : Stored) → Some s ≡ asked → script_under id (stored_of es) ≡ Some (script_of s)
  stored_present s some = sym (stored_found id es) ∙ ap (λ (o : Option Stored). option_map script_of o) (sym some)

  pub stored_copied : (o : Option (Bor Stored)) → option_copied o ≡ asked → option_map script_of (option_copied o) ≡ script_under id (stored_of es)
  stored_copied o told = ap (λ (p : Option Stored). option_map script_of p) told ∙ stored_found id es

  pub stored_without : (new : List (String Z × Stored)) → new ≡ remove_entry (is_at (λ k. id_order id (string_bytes k))) es → stored_of new ≡ without_script id (stored_of es)
  stored_without new made = ap (λ (l : List (String Z × Stored)). stored_of l) made ∙ stored_removed id es

module _ {Z : Type 0} (id : List ℕ) (key : Script) (es : List (String Z × Stored)) where
  pub stored_with : (k : String Z) (v : Stored) (new : List (String Z × Stored)) → new ≡ insert_entry string_cmp es k v → string_bytes k ≡ id → script_of v ≡ key → stored_of new ≡ with_script id key (stored_of es)
  stored_with k v new made copied same =
      ap (λ (l : List (String Z × Stored)). stored_of l) made ∙ stored_inserted k v es
      ∙ ap (λ (i : List ℕ). with_script i (script_of v) (stored_of es)) copied
      ∙ ap (λ (s : Script). with_script id s (stored_of es)) same

-- what is stored, and a cache
abbrev pub state_of : StoredScripts → Cache → State
state_of stored cache = record { stored = stored; cache = cache }

-- ---- what is given for a script that is found

module _ {V M : Type 0} (means : V → M → Type 0) (compiled : Script → Result M Refusal) where
  pub given_so : (found : Option Script) (key : Script) (o : Option (Bor V)) → found ≡ Some key → IfSome o (λ b. IsOkAnd (compiled key) (means b.now)) → OnSome o (IsGiven means compiled found (option_copied o))
  given_so found key None is h = tt
  given_so found key (Some b) is h = subst (λ (f : Option Script). IsGiven means compiled f (Some b.now)) (sym is) h

-- ---- each script that is stored is accepted

module _ {M : Type 0} (compiled : Script → Result M Refusal) where
  pub accepted_found : (id : List ℕ) (es : StoredScripts) → AllAccepted compiled es → IfSome (script_under id es) (λ s. IsOk (compiled s))
  accepted_found id [] all = tt
  accepted_found id (e ∷ es) all = elim (is_eq (id_order id e.0)) as (λ b. IfSome (cond b (Some e.1) (script_under id es)) (λ s. IsOk (compiled s))) [ true ↦ all.0 | false ↦ accepted_found id es all.1 ]

  pub accepted_inserted : (id : List ℕ) (s : Script) (es : StoredScripts) → AllAccepted compiled es → IsOk (compiled s) → AllAccepted compiled (with_script id s es)
  accepted_inserted id s [] all ok = (ok, tt)
  accepted_inserted id s (e ∷ es) all ok =
      elim (id_order id e.0) as (λ o. AllAccepted compiled (match_ordering o ((id, s) ∷ e ∷ es) ((e.0, s) ∷ es) (e ∷ with_script id s es))) [
        | Less ↦ (ok, all)
        | Equal ↦ (ok, all.1)
        | Greater ↦ (all.0, accepted_inserted id s es all.1 ok)
      ]

  pub accepted_removed : (id : List ℕ) (es : StoredScripts) → AllAccepted compiled es → AllAccepted compiled (without_script id es)
  accepted_removed id [] all = tt
  accepted_removed id (e ∷ es) all = elim (is_eq (id_order id e.0)) as (λ b. AllAccepted compiled (cond b es (e ∷ without_script id es))) [ true ↦ all.1 | false ↦ (all.0, accepted_removed id es all.1) ]

  pub kept_accepted : (compiled' : Script → Result M Refusal) (es : StoredScripts) → compiled' ≡ compiled → AllAccepted compiled es → AllAccepted compiled' es
  kept_accepted compiled' es same all = subst (λ (f : Script → Result M Refusal). AllAccepted f es) (sym same) all

  -- a stored script is accepted
  pub accepted_under : (id : List ℕ) (es : StoredScripts) (key : Script) → AllAccepted compiled es → script_under id es ≡ Some key → IsOk (compiled key)
  accepted_under id es key all is = subst (λ (o : Option Script). IfSome o (λ s. IsOk (compiled s))) is (accepted_found id es all)

  -- so want of memory alone is answered for it
  pub memory_alone : (key : Script) (fail : Fail) → IsOk (compiled key) → Accepts {T = Unit {0}} (compiled key) (Err fail) → fail ≡ NoMemory
  memory_alone key (Refused fault) ok says = absurd (true≢false (sym ok ∙ ap (λ (r : Result M Refusal). is_ok r) says))
  memory_alone key NoMemory ok says = refl
