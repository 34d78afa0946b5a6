-- Scripts as data.
use Rattle.std.specs.Prelude.{ℕ, Bool, true, false, ◌&&◌, List, string_bytes}
use Rattle.std.specs.Str.{bytes_eq}
use Rattle.script_store.specs.declared.kind.ServeKind.{ServeKind}
use Rattle.script_store.specs.declared.kind.ServeKind.TheVariants.{Filter, Score, Field, Update, Ingest}
use Rattle.script_store.specs.declared.stored.Stored.{Stored}

-- A script: for which context it is, and the bytes of its source. It is also the key of what it is compiled to.
pub record Script : Type 0 where
  pub kind : ServeKind
  pub source : List ℕ

abbrev pub script : ServeKind → List ℕ → Script
script kind source = record { kind = kind; source = source }

-- The script that a stored one is.
abbrev pub script_of : Stored → Script
script_of stored = script stored.kind (string_bytes stored.source)

-- Whether two contexts are one.
abbrev pub same_kind : ServeKind → ServeKind → Bool
same_kind Filter Filter = true
same_kind Score Score = true
same_kind Field Field = true
same_kind Update Update = true
same_kind Ingest Ingest = true
same_kind _ _ = false

-- Whether two scripts are one: of one context and one source.
abbrev pub same_script : Script → Script → Bool
same_script a b = same_kind a.kind b.kind && bytes_eq a.source b.source
