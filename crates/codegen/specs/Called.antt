-- Members that are called, made or read.
use Rattle.std.specs.Prelude.{◌≡◌, ℕ, List, Some, slice_get}
use Rattle.allowlist.specs.declared.member.MemberKind.{MemberKind}
use Rattle.allowlist.specs.declared.member.MemberKind.TheVariants as kind
use Rattle.allowlist.specs.declared.member.MemberType.{MemberType}
use Rattle.allowlist.specs.Catalogue.{catalogue}
use Rattle.member_names.specs.Names.{text_of}
use Rattle.pl_code.specs.declared.code.Instruction.{Instruction}
use Rattle.pl_code.specs.declared.code.Instruction.TheVariants as i
use Rattle.pl_types.specs.declared.ty.Ty.{Ty}
use Rattle.compiler_relation.specs.Representation.{representation_of}
use Rattle.typed_tree.specs.declared.operation.Member.{Member}
use Rattle.typed_tree.specs.declared.operation.Operation.{Operation}
use Rattle.typed_tree.specs.declared.operation.Operation.TheVariants as operation

-- the operation that a member of a kind is, and its instruction
abbrev pub member_operation : MemberKind → Member → Operation
member_operation kind.Constructor m = operation.Constructor m
member_operation kind.Static m = operation.Static m
member_operation kind.Instance m = operation.Instance m
member_operation kind.Field m = operation.Field m

abbrev pub call_code : MemberKind → List ℕ → Instruction
call_code kind.Constructor text = i.New text
call_code kind.Static text = i.Invoke text
call_code kind.Instance text = i.Invoke text
call_code kind.Field text = i.Field text

-- a call whose member is found when the code runs
abbrev pub IsFound : Operation → Type 0
IsFound (operation.DefCall name) = Unit {0}
IsFound (operation.DefName name) = Unit {0}
IsFound other = ⊥

-- The member of the catalogue that a call names: it is of this number, of this kind and of this text.
pub record IsMember (kind : MemberKind) (m : Member) (member : MemberType) : Type 0 where
  pub is : slice_get catalogue m.number ≡ Some member
  pub sort : member.kind ≡ kind
  pub text : m.text ≡ text_of member

-- And what it gives is represented as the call's type says.
pub record IsCalled (kind : MemberKind) (m : Member) (of : Ty) (member : MemberType) : Type 0 where
  pub named : IsMember kind m member
  pub gives : representation_of of ≡ representation_of member.result
