-- Files in memory as plain data.
use Rattle.std.specs.Prelude.{ℕ, List, map, string_bytes}
use Rattle.std.specs.declared.string.String.{String}
use Rattle.std.specs.declared.vec.Vec.{Vec}
use Rattle.std.specs.declared.alloc.Global.{Global}
use Rattle.outer_io.specs.Memory.{Document}

abbrev pub document : String Global × Vec ℕ Global → Document
document (name, bytes) = record { name = string_bytes name; bytes = bytes.items }

abbrev pub documents : List (String Global × Vec ℕ Global) → List Document
documents = map document
