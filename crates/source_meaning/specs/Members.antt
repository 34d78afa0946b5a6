-- The arguments of a member's call, as the member takes them.
use Rattle.std.specs.Prelude.{Option, Some, None, List, [], ◌∷◌, if◌then◌else◌}
use Rattle.pl_types.specs.declared.ty.Ty.{Ty}
use Rattle.allowlist.specs.declared.member.MemberKind.{MemberKind}
use Rattle.allowlist.specs.declared.member.MemberKind.TheVariants as kind
use Rattle.allowlist.specs.declared.member.MemberType.{MemberType}
use Rattle.object_values.specs.declared.value.Value.{Value}
use Rattle.number_ops.specs.Operators.{is_null}
pub use Rattle.source_meaning.specs.Operating.{passed_layer, passed, before}

abbrev pub passed_all : List Ty → List Value → Option (List Value)
passed_all [] [] = Some []
passed_all (of ∷ ofs) (value ∷ values) = before (passed of value) (passed_all ofs values)
passed_all ofs values = None

-- What a member is called with: nothing that fits, a receiver that is null, what it takes, or, of a field, nothing.
pub data Sending : Type 0 where
  Unsent : Sending
  OnNull : Sending
  Sends : (arguments : List Value) → Sending
  Reads : Sending

abbrev pub sends : Option (List Value) → Sending
sends None = Unsent
sends (Some arguments) = Sends arguments

-- the receiver comes first
abbrev pub sends_to : Value → Option (List Value) → Sending
sends_to receiver None = Unsent
sends_to receiver (Some arguments) = if is_null receiver then OnNull else Sends (receiver ∷ arguments)

abbrev pub sent_by : MemberKind → List Ty → List Value → Sending
sent_by kind.Instance params (receiver ∷ values) = sends_to receiver (passed_all params values)
sent_by kind.Instance params [] = Unsent
sent_by kind.Static params values = sends (passed_all params values)
sent_by kind.Constructor params values = sends (passed_all params values)
sent_by kind.Field params [] = Reads
sent_by kind.Field params (value ∷ values) = Unsent

abbrev pub sent : MemberType → List Value → Sending
sent m values = sent_by m.kind m.params values
