-- The names in sight, the newest first.
use Rattle.std.specs.Prelude.{◌≡◌, ℕ, List, [], ◌∷◌, length, map, bytes_eq, if◌then◌else◌, String, Option, Some, None, Result, Ok, Err}
use Rattle.std.specs.Borrow.{Bor}
use Rattle.std.specs.HashMap.{HashMap, get_by_text}
use Rattle.std.specs.Map.{update}
use Rattle.compiler_relation.specs.Stands.{Entry}
use Rattle.codegen.specs.declared.symbols.Entry as d
use Rattle.codegen.specs.declared.symbols.Symbol.{Symbol}

abbrev pub entry : d.Entry → Entry
entry x = record { name = x.name; of = x.of; local = x.local }

abbrev pub Finds : Option (Bor d.Entry) → Option Entry → Type 0
Finds None o = o ≡ None
Finds (Some x) o = o ≡ Some (entry x.now)

abbrev pub entries : List Symbol → List d.Entry
entries symbols = map (λ (s : Symbol). s.entry) symbols

abbrev pub entry_in : Option Symbol → Option d.Entry
entry_in None = None
entry_in (Some s) = Some s.entry

-- the place of the newest entry of a name, counted from the oldest entry
abbrev pub place_of : List ℕ → List Symbol → Option ℕ
place_of name [] = None
place_of name (s ∷ symbols) = if bytes_eq s.entry.name name then Some (length symbols) else place_of name symbols

-- each has the place of the entry that it hides
abbrev pub AreLinked : List Symbol → Type 0
AreLinked [] = Unit {0}
AreLinked (s ∷ symbols) = (s.hidden ≡ place_of s.entry.name symbols) × AreLinked symbols

-- and a map has the place of each name's newest entry
pub record IsIndexed {Y S : Type 0} (symbols : List Symbol) (places : HashMap (String Y) ℕ S) : Type 0 where
  pub linked : AreLinked symbols
  pub noted : (name : List ℕ) → get_by_text places name ≡ place_of name symbols

-- a name has this place now, or none, and the others have theirs
abbrev pub Sets : {Y S : Type 0} → HashMap (String Y) ℕ S → HashMap (String Y) ℕ S → List ℕ → Option ℕ → Type 0
Sets old new name place = (q : List ℕ) → get_by_text new q ≡ update bytes_eq (get_by_text old) name place q

-- a name's place is noted, or nothing is
abbrev pub Notes : {Y S E : Type 0} → HashMap (String Y) ℕ S → HashMap (String Y) ℕ S → List ℕ → ℕ → Result (Unit {0}) E → Type 0
Notes old new name at (Ok u) = Sets old new name (Some at)
Notes old new name at (Err e) = (q : List ℕ) → get_by_text new q ≡ get_by_text old q
