-- What the lines of an input ask for: the clients, and what is told of the lines that are none.
use Rattle.std.specs.Prelude.{ℕ, Bool, true, false, List, [], ◌∷◌, ◌++◌, length, map, Result, Ok, Err, nat_lt, if◌then◌else◌}
use Rattle.outer_io.specs.Lines.{InputLine, Within, Beyond, Nothing}
use Rattle.json_bridge.specs.Starts.{Fault}
use Rattle.document_replies.specs.Replies.{fault_of, is_blank}
use Rattle.document_replies.specs.job_replies_declared.line_fault.LineFault.{LineFault}
use Rattle.document_replies.specs.job_replies_declared.line_fault.LineFault.TheVariants as fault
use Rattle.update_lines.specs.declared.heard.Slot.{Slot}
use Rattle.update_lines.specs.declared.heard.Slot.TheVariants as slot
use Rattle.update_lines.specs.declared.heard.Heard.{Heard}
use Rattle.update_lines.specs.Limits.{most_clients}
use Rattle.update_lines.specs.Requests.{RequestData, asked_of, request_view}

-- Each line that is not blank has a slot, in order: it is a client's, or it is told what is wrong with it. The clients stand in the order
-- of their lines.
pub record HeardData : Type 0 where
  pub slots : List Slot
  pub requests : List RequestData

abbrev pub nothing_heard : HeardData
nothing_heard = record { slots = []; requests = [] }

abbrev pub with_wrong : LineFault → HeardData → HeardData
with_wrong wrong h = record { slots = h.slots ++ slot.Wrong wrong ∷ []; requests = h.requests }

abbrev pub with_client : RequestData → HeardData → HeardData
with_client request h = record { slots = h.slots ++ slot.Client ∷ []; requests = h.requests ++ request ∷ [] }

-- an acceptable line behind as many clients as may be is told so
abbrev pub accepted : RequestData → HeardData → HeardData
accepted request h = if nat_lt (length h.requests) most_clients then with_client request h else with_wrong fault.Limit h

abbrev pub with_asked : Result RequestData Fault → HeardData → HeardData
with_asked (Ok request) h = accepted request h
with_asked (Err wrong) h = with_wrong (fault_of wrong) h

-- a blank line is told nothing
abbrev pub with_line : Bool → List ℕ → HeardData → HeardData
with_line true line h = h
with_line false line h = with_asked (asked_of line) h

abbrev pub hear : InputLine → HeardData → HeardData
hear (Within line) h = with_line (is_blank line) line h
hear Beyond h = with_wrong fault.Long h
hear Nothing h = h

-- what is heard behind some lines
abbrev pub hear_all : List InputLine → HeardData → HeardData
hear_all [] h = h
hear_all (line ∷ lines) h = hear_all lines (hear line h)

abbrev pub heard_of : List InputLine → HeardData
heard_of lines = hear_all lines nothing_heard

-- ---- of the code

abbrev pub heard_view : Heard → HeardData
heard_view h = record { slots = h.slots.items; requests = map request_view h.requests.items }
