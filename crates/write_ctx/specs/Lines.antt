-- What a line of an update or an ingest is bound to: the store and the arguments with which a run over it starts, or what is wrong with it.
use Rattle.std.specs.Prelude.{ℕ, true, ◌&&◌, [], ◌∷◌, Option, Some, None, Result, Ok, Err, if◌then◌else◌}
use Rattle.serde_json.specs.Data.{Data}
use Rattle.object_values.specs.declared.value.Value.{Value}
use Rattle.job_file.specs.Values.{has_whole_numbers}
use Rattle.json_bridge.specs.Binding.{Bound, bound}
use Rattle.json_bridge.specs.Starts.{Start, Fault, syntax, number_outside, field}
use Rattle.write_ctx.specs.declared.keys.WriteKind.{WriteKind}
use Rattle.write_ctx.specs.Keys.{is_line}
use Rattle.write_ctx.specs.Placing.{ctx_placed}

-- a store with its room, and the values of `params` and `ctx`
abbrev pub start_at : Value → Bound → ℕ → Start
start_at params ctx room = record {
  store = record { objects = ctx.objects; room = room };
  args = params ∷ ctx.value ∷ [];
}

-- `params` stands first in the store, and nothing may change it; then `ctx`
abbrev pub start_after : Bound → WriteKind → ℕ → Data → Start
start_after params kind room line = start_at params.value (ctx_placed kind params.objects line) room

abbrev pub started : WriteKind → Data → ℕ → Data → Start
started kind params room line = start_after (bound true [] params) kind room line

-- The start for a line, or what is wrong: a number of the line or of `params` that is none of 64 bits with a sign, and then a rule of the
-- context.
abbrev pub bound_document : WriteKind → Data → ℕ → Data → Result Start Fault
bound_document kind params room line =
    if has_whole_numbers line && has_whole_numbers params
    then (if is_line kind line then Ok (started kind params room line) else Err field)
    else Err number_outside

-- the same for what a line is read as, if it is read
abbrev pub bound_line : WriteKind → Data → ℕ → Option Data → Result Start Fault
bound_line kind params room None = Err syntax
bound_line kind params room (Some line) = bound_document kind params room line
