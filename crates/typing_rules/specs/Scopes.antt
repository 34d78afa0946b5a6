-- The names in sight, the oldest first.
use Rattle.std.specs.Prelude.{◌≡◌, ◌≢◌, ℕ, Bool, true, false, List, position, bytes_eq, Option, Some, None, Result, Ok, Err}
use Rattle.std.specs.HashMap.{HashMap, get_by_text}
use Rattle.std.specs.Map.{update}
use Rattle.std.specs.Prelude.{String}
use Rattle.typing_rules.specs.declared.scopes.Entry.{Entry}

-- where a name stands
abbrev pub find : List ℕ → List Entry → Option ℕ
find name scopes = position (λ (e : Entry). bytes_eq e.name name) scopes

-- whether what is found is a place
abbrev pub StandsAt : Option ℕ → ℕ → Bool → Type 0
StandsAt found at true = found ≡ Some at
StandsAt found at false = found ≢ Some at

-- a name is noted at a place, or nothing is
abbrev pub Notes : {Y S E : Type 0} → HashMap (String Y) ℕ S → HashMap (String Y) ℕ S → List ℕ → ℕ → Result (Unit {0}) E → Type 0
Notes old new name at (Ok u) = (q : List ℕ) → get_by_text new q ≡ update bytes_eq (get_by_text old) name (Some at) q
Notes old new name at (Err e) = (q : List ℕ) → get_by_text new q ≡ get_by_text old q

-- a name is taken out
abbrev pub Forgets : {Y S : Type 0} → HashMap (String Y) ℕ S → HashMap (String Y) ℕ S → List ℕ → Type 0
Forgets old new name = (q : List ℕ) → get_by_text new q ≡ update bytes_eq (get_by_text old) name None q
