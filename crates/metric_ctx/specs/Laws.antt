-- What holds of all shards.
use Rattle.std.specs.Prelude.{◌≡◌, ℕ, List}
use Rattle.serde_json.specs.Data.{Data}
use Rattle.job_file.specs.declared.mapping.FieldKind.{FieldKind}
use Rattle.metric_ctx.specs.Scripts.{Comes}
use Rattle.metric_ctx.specs.Shards.{Doc, docs_of, part}

-- What a shard comes to depends on its own lines alone: over two inputs that agree on them it comes to the same.
abbrev pub OwnLinesAlone : Comes → Type 0
OwnLinesAlone comes = (fields : List (List ℕ × FieldKind)) (params : Data) (room number : ℕ) (lines others : List (ℕ × Doc))
    → docs_of number lines ≡ docs_of number others → part comes fields params room number lines ≡ part comes fields params room number others
