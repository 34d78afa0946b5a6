-- The shard of a line of input, and the document that is left of it.
use Rattle.std.specs.Prelude.{◌≡◌, ℕ, ℤ, pos, negsuc, List, Option, Some, None, Result, Ok, Err, codes, nat_lt, option_map, option_and_then, if◌then◌else◌}
use Rattle.serde_json.specs.Data.{Data, object, Members}
use Rattle.serde_json.specs.Find.{as_i64, as_number, as_object, get_member}
use Rattle.serde_json.specs.View.{view}
use Rattle.serde_json.specs.declared.value.Value.{Value as Json}
use Rattle.job_file.specs.Values.{has_whole_numbers}
use Rattle.json_bridge.specs.Starts.{Fault, syntax, number_outside, field, or_field}
use Rattle.json_bridge.specs.declared.error.BindErr.{BindErr}
use Rattle.json_bridge.specs.declared.error.BindErr.TheVariants as e
use Rattle.pipe_fields.specs.Ways.{without_member}

-- the key of the shard in a line
abbrev pub shard_key : List ℕ
shard_key = codes "_shard"

-- a number from 0 that is below so many
abbrev pub below : ℕ → ℤ → Option ℕ
below shards (pos n) = if nat_lt n shards then Some n else None
below shards (negsuc n) = None

abbrev pub shard_in : ℕ → Data → Option ℕ
shard_in shards d = option_and_then (below shards) (option_and_then as_i64 (as_number d))

-- the shard of a line: 0 where it says none
abbrev pub shard_of : ℕ → Option Data → Option ℕ
shard_of shards None = Some 0
shard_of shards (Some d) = shard_in shards d

-- a line that is split: its shard, and its document, which has no key for the shard
pub record SplitLine : Type 0 where
  pub shard : ℕ
  pub document : Data

abbrev pub split_members : ℕ → Members → Option SplitLine
split_members shards ms = option_map (λ shard. record { shard = shard; document = object (without_member shard_key ms) }) (shard_of shards (get_member shard_key ms))

-- What a value is split into, or what is wrong with it: a number that is none of 64 bits with a sign; and then that it is no object, or that
-- its shard is no number below so many.
abbrev pub split_data : ℕ → Data → Result SplitLine Fault
split_data shards d = if has_whole_numbers d then or_field (option_and_then (split_members shards) (as_object d)) else Err number_outside

-- the same of what a line is read as, if it is read
abbrev pub split_line : ℕ → Option Data → Result SplitLine Fault
split_line shards None = Err syntax
split_line shards (Some d) = split_data shards d

-- ---- answers

-- The answer is what the definition says. Want of memory is free.
abbrev pub IsSplit : Result (ℕ × Json) BindErr → Result SplitLine Fault → Type 0
IsSplit (Ok line) meaning = meaning ≡ Ok (record { shard = line.0; document = view line.1 })
IsSplit (Err e.Syntax) meaning = meaning ≡ Err syntax
IsSplit (Err e.Number) meaning = meaning ≡ Err number_outside
IsSplit (Err e.Field) meaning = meaning ≡ Err field
IsSplit (Err e.NoMemory) meaning = Unit {0}
