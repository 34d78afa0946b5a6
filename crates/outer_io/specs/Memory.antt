-- What the sources, sinks and files in memory are seen as.
use Rattle.std.specs.Prelude.{ℕ, Bool, List, [], ◌∷◌, Option, None, Some, if◌then◌else◌}
use Rattle.std.specs.Str.{bytes_eq}
use Rattle.outer_io.specs.Faults.{next_count}

-- A source: the bytes that are not yet taken, and how many a call takes at most.
pub record Supply : Type 0 where
  pub left : List ℕ
  pub most : ℕ

-- A sink: the bytes that it was given, how many a call gives it at most, and how often memory was wanting.
pub record Store : Type 0 where
  pub held : List ℕ
  pub most : ℕ
  pub wants : ℕ

-- A file: the bytes of its name, and its own.
pub record Document : Type 0 where
  pub name : List ℕ
  pub bytes : List ℕ

-- The bytes of the first file of a name.
abbrev pub content_of : List Document → List ℕ → Option (List ℕ)
content_of [] name = None
content_of (document ∷ documents) name = if bytes_eq document.name name then Some document.bytes else content_of documents name

-- Calls: the numbers of those that are to fail, how many were made, and how many faults there were.
pub record Calls : Type 0 where
  pub fails : List ℕ
  pub made : ℕ
  pub faults : ℕ

-- No call was made yet.
abbrev pub uncalled : List ℕ → Calls
uncalled fails = record { fails = fails; made = 0; faults = 0 }

-- The number of the next call.
abbrev pub number_of : Calls → ℕ
number_of calls = next_count calls.made

-- The calls after one more, which failed or did not.
abbrev pub called : Bool → Calls → Calls
called failed calls = record { fails = calls.fails; made = number_of calls; faults = if failed then next_count calls.faults else calls.faults }

-- A source, with the calls of it.
pub record ScheduledSupply : Type 0 where
  pub supply : Supply
  pub calls : Calls

-- A sink, with the calls of it.
pub record ScheduledStore : Type 0 where
  pub store : Store
  pub calls : Calls

-- Files, with the names that were asked for.
pub record Shelf : Type 0 where
  pub documents : List Document
  pub asked : List (List ℕ)

-- Files and the names that were asked for, with the calls of them.
pub record ScheduledShelf : Type 0 where
  pub shelf : Shelf
  pub calls : Calls
