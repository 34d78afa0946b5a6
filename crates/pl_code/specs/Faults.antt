-- What a text is as a listing: that of one code, or where it breaks.
use Rattle.std.specs.Prelude.{◌≡◌, ℕ, ◌+◌, ◌<◌, ◌≤◌, true, false, List, ◌++◌, Result, Ok, Err, length, take}
use Rattle.std.specs.List.{before_first}
use Rattle.pl_code.specs.declared.code.Code.{Code}
use Rattle.pl_code.specs.declared.error.ListingErr.{ListingErr}
use Rattle.pl_code.specs.declared.error.ListingErr.TheVariants.{Syntax, Version, NoMemory}
use Rattle.pl_code.specs.Listing.{is_code, written, text_of}
use Rattle.pl_code.specs.Reading.{told, ended_of, is_newline, is_other_version}

-- the text of a code
pub record IsListing (bytes : List ℕ) : Type 0 where
  pub code : Code
  pub is : is_code code ≡ true
  pub text : written code ≡ bytes

-- the text of some code begins with these lines
pub record Begins (lines : List (List ℕ)) : Type 0 where
  pub code : Code
  pub is : is_code code ≡ true
  pub rest : List ℕ
  pub text : written code ≡ text_of lines ++ rest

-- So many lines begin the text of a code, and with the next one no code's text goes on. Where all lines do and the text
-- is no code's all the same, it ends too early, in the line behind them.
pub record FaultsAt (bytes : List ℕ) (line : ℕ) : Type 0 where
  pub before : ℕ
  pub number : line ≡ told (before + 1)
  pub within : before ≤ length (ended_of bytes)
  pub good : Begins (take before (ended_of bytes))
  pub bad : before < length (ended_of bytes) → Begins (take (before + 1) (ended_of bytes)) → ⊥
  pub short : before ≡ length (ended_of bytes) → IsListing bytes → ⊥

-- what stands before the first newline, or all
abbrev pub first_of : List ℕ → List ℕ
first_of bytes = before_first is_newline bytes

-- What a text is read as. Want of memory is free.
abbrev pub IsReading : List ℕ → Result Code ListingErr → Type 0
IsReading bytes (Ok code) = (is_code code ≡ true) × (written code ≡ bytes)
IsReading bytes (Err Version) = is_other_version (first_of bytes) ≡ true
IsReading bytes (Err (Syntax line)) = (is_other_version (first_of bytes) ≡ false) × FaultsAt bytes line
IsReading bytes (Err NoMemory) = Unit {0}
