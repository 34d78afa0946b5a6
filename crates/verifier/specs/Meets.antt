-- What stands at the lines of a function: the kinds that lie on the stack where the line begins.
use Rattle.std.specs.Prelude.{ℕ, zero, suc, ◌+◌, ◌==◌, ◌||◌, Bool, false, List, [], ◌∷◌, Option, Some, None, if◌then◌else◌, slice_get, option_and_then}
use Rattle.pl_code.specs.declared.kinds.Slot.{Slot}
use Rattle.pl_code.specs.declared.kinds.Slot.TheVariants.{R}
use Rattle.pl_code.specs.declared.code.FunCode.{FunCode}
use Rattle.pl_code.specs.declared.code.Trap.{Trap}
use Rattle.pl_code.specs.declared.code.Instruction.{Instruction}
use Rattle.allowlist.specs.Allow.{AllowList}
use Rattle.instruction_types.specs.declared.flow.Flow.{Flow}
use Rattle.instruction_types.specs.declared.flow.Flow.TheVariants as flow
use Rattle.instruction_types.specs.Effects.{Effect, effect_of, flow_of, left_by}
use Rattle.verifier_table.specs.Shapes.{Meeting, Nowhere, meets, known_of}

-- whether an instruction at a line goes on at another
abbrev pub goes_to : Flow → ℕ → ℕ → Bool
goes_to flow.GoesOn line to = to == line + 1
goes_to (flow.Jumps target) line to = to == target
goes_to (flow.Branches target) line to = (to == line + 1) || (to == target)
goes_to (flow.Turns target) line to = to == line + 1
goes_to flow.Ends line to = false

-- whether it turns back to a line
abbrev pub turns_to : Flow → ℕ → Bool
turns_to (flow.Turns target) to = to == target
turns_to other to = false

abbrev pub met_if : Bool → List Slot → Meeting → Meeting
met_if test kinds m = if test then meets m kinds else m

-- the traps that go on at a line: what was thrown lies there
abbrev pub caught_at : ℕ → Meeting → List Trap → Meeting
caught_at to m [] = m
caught_at to m (t ∷ traps) = caught_at to (met_if (to == t.at) (R ∷ []) m) traps

-- the loops that turn back to a line: nothing lies there
abbrev pub turned_at : ℕ → Meeting → List Instruction → Meeting
turned_at to m [] = m
turned_at to m (i ∷ lines) = turned_at to (met_if (turns_to (flow_of i) to) [] m) lines

-- What stands at a line whatever comes before it: nothing lies there at line 0.
unfoldable pub starts : FunCode → ℕ → Meeting
starts f to = turned_at to (caught_at to (met_if (to == 0) [] Nowhere) f.traps) f.lines

abbrev pub left_in : Option Effect → List Slot → Option (List Slot)
left_in None kinds = None
left_in (Some e) kinds = left_by e kinds

-- what an instruction leaves of what stands at its line; nothing where it does not fit it
unfoldable pub left_at : AllowList → List FunCode → FunCode → Instruction → Meeting → Option (List Slot)
left_at allow functions f i m = option_and_then (left_in (effect_of allow functions f i)) (known_of m)

abbrev pub led_to : Flow → ℕ → ℕ → Option (List Slot) → Meeting → Meeting
led_to way line to None m = m
led_to way line to (Some kinds) m = met_if (goes_to way line to) kinds m

-- what stands at a line when an instruction at another, at which `from` stands, leads there too
unfoldable pub passed : AllowList → List FunCode → FunCode → ℕ → Option Instruction → Meeting → ℕ → Meeting → Meeting
passed allow functions f line None from to m = m
passed allow functions f line (Some i) from to m = led_to (flow_of i) line to (left_at allow functions f i from) m

-- What stands at a line by so many lines from the first on.
unfoldable pub met : AllowList → List FunCode → FunCode → ℕ → ℕ → Meeting
met allow functions f zero to = starts f to
met allow functions f (suc line) to = passed allow functions f line (slice_get f.lines line) (met allow functions f line line) to (met allow functions f line to)

-- What stands at a line: by the lines before it.
abbrev pub stands_at : AllowList → List FunCode → FunCode → ℕ → Meeting
stands_at allow functions f line = met allow functions f line line
