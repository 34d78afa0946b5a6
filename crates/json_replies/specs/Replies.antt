-- Replies and refusals as JSON, and their lines.
use Rattle.std.specs.Prelude.{ℕ, ◌++◌, ◌&&◌, Bool, List, [], ◌∷◌, Option, Some, None, Result, Ok, Err, codes, is_some, nat_le, nat_lt, if◌then◌else◌}
use Rattle.serde_json.specs.Data.{Data, null, number, string, object, unsigned, member, no_members}
use Rattle.serde_json.specs.Find.{get}
use Rattle.serde_json.specs.Written.{compact_text}
use Rattle.pl_units.specs.Utf16.{bytes}
use Rattle.pl_types.specs.Classes.{short_name}
use Rattle.pl_types.specs.Refusals.{rule_name}
use Rattle.pl_types.specs.declared.refusal.Refusal.{Refusal}
use Rattle.object_values.specs.declared.object.Object.{Object}
use Rattle.object_heap.specs.Parts.{class_of, message_of}
use Rattle.object_heap.specs.declared.outcome.Which.{Which}
use Rattle.object_heap.specs.declared.outcome.Which.TheVariants as which
use Rattle.object_heap.specs.declared.outcome.End.{End}
use Rattle.object_heap.specs.declared.outcome.End.TheVariants as e
use Rattle.json_bridge.specs.Giving.{Fault, Key, Depth, Size, Kind, given_of}

-- an object with one key
abbrev pub only : List ℕ → Data → Data
only key d = object (member key d no_members)

-- an error that is told by its kind
abbrev pub kind_reply : List ℕ → Data
kind_reply kind = only (codes "error") (only (codes "kind") (string kind))

-- ---- results

-- the kind of a fault of a result
abbrev pub fault_kind : Fault → List ℕ
fault_kind Key = codes "result-key"
fault_kind Depth = codes "result-depth"
fault_kind Size = codes "result-size"
fault_kind Kind = codes "result-kind"

-- a result is told by its JSON form, or by the kind of its first fault
abbrev pub result_reply : Result Data Fault → Data
result_reply (Ok d) = only (codes "result") d
result_reply (Err fault) = kind_reply (fault_kind fault)

-- ---- errors

abbrev pub message_json : Option (List ℕ) → Data
message_json None = null
message_json (Some text) = string (bytes text)

-- the short name of a class; what is no class's number has none
abbrev pub class_name : Option ℕ → List ℕ
class_name None = []
class_name (Some class) = if nat_lt class 57 then short_name class else []

abbrev pub thrown_as : Option ℕ → Option (List ℕ) → Data
thrown_as class message =
    only (codes "error") (object (member (codes "class") (string (class_name class)) (member (codes "kind") (string (codes "thrown")) (member (codes "message") (message_json message) no_members))))

-- what was thrown, which is an exception, is told by its class and its message
abbrev pub thrown_reply : List Object → ℕ → Data
thrown_reply objects id = thrown_as (class_of objects id) (message_of objects id)

abbrev pub limit_kind : Which → List ℕ
limit_kind which.Loop = codes "limit-loop"
limit_kind which.Depth = codes "limit-depth"
limit_kind which.Ticks = codes "limit-ticks"
limit_kind which.Room = codes "limit-room"

-- the reply to a run that ended so and left these objects; where an error arose it does not tell
abbrev pub reply_of : End → List Object → Data
reply_of (e.Value value) objects = result_reply (given_of objects value)
reply_of (e.Thrown id place) objects = thrown_reply objects id
reply_of (e.Limit which place) objects = kind_reply (limit_kind which)

-- whether a reply is an error
abbrev pub is_error : Data → Bool
is_error d = is_some (get (codes "error") d)

-- ---- refusals

-- the name of the rule of a number; what is no rule's number has none
abbrev pub name_of : ℕ → List ℕ
name_of rule = if nat_le 1 rule && nat_le rule 20 then rule_name rule else []

-- a script that is refused
abbrev pub refusal_of : Refusal → Data
refusal_of refusal =
    only (codes "refused") (object (member (codes "name") (string (name_of refusal.number)) (member (codes "number") (number (unsigned refusal.number))
    (member (codes "offset") (number (unsigned refusal.offset)) no_members))))

-- ---- lines

-- the compact text with a newline behind it
abbrev pub line_of : Data → List ℕ
line_of d = compact_text d ++ 10 ∷ []
